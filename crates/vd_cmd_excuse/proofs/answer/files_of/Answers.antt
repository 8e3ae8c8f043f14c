use Rattle.vd_cmd_excuse.proofs.MoreFiles.{one_more}
use Rattle.vd_cmd_excuse.proofs.answer.files_of.Goals as goal

pub loop-number-preserved : goal.loop-number-preserved
loop-number-preserved c =
    one_more c.args.out.now c.args.secrets.now c.args.deals.now c.loop-number.number c.index-deals-number.result _ _ _ _ c.loop-number-test.true c.index-deals-number.is c.loop-number.invariant (c.in_ok-name.ensures {u = tt}) (c.in_ok-content.ensures {u = tt}) c.in_ok-push.ensures.ok
