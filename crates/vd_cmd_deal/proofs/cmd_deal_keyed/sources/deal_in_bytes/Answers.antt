use Rattle.std.proofs.Common.{Ok, Err}
use Rattle.std.proofs.lemmas.Result.{err_from_is_err_and}
use Rattle.vd_cmd_plan.specs.Plans.{answer_then}
use Rattle.vd_cmd_plan.proofs.Front.{answers, check_step}
use Rattle.vd_cmd_deal.specs.KeyDealing.{key_answer}
use Rattle.vd_cmd_deal.specs.Sources.{key_in}
use Rattle.vd_cmd_deal.proofs.cmd_deal_keyed.sources.deal_in_bytes.Goals as goal

pub returns-in_err-key : goal.returns-in_err-key
returns-in_err-key c = λ files.
    let p = err_from_is_err_and c.from_residual.result c.from_residual.ensures.1 in
    rw (p.1, p.2) (check_step (key_in c.args.name.now c.args.bytes.now) files (Err c.in_err-key.field-0.0) (c.in_err-key.ensures {u = tt}) (λ key. answer_then (key_answer c.args.counts key c.args.prefix.now)))

pub returns : goal.returns
returns c = λ files.
    check_step (key_in c.args.name.now c.args.bytes.now) files (Ok c.in_ok-key.key) (c.in_ok-key.ensures {u = tt}) (λ key. answer_then (key_answer c.args.counts key c.args.prefix.now)) files _ (answers _ files _ c.deal_by_key.ensures)
