use Rattle.std.proofs.Common.{arith}
use Rattle.vd_excuse.proofs.Stored.{are_of_two}
use Rattle.vd_excuse.proofs.Answered.{has_walked}
use Rattle.vd_excuse.proofs.excusing.walk_both.Goals as goal

pub walk-requires-clause-two : goal.walk-requires-clause-two
walk-requires-clause-two c = are_of_two c.args.deals.now c.requires.asked.all_deals c.requires.asked.dealt

pub walk-requires-clause-few : goal.walk-requires-clause-few
walk-requires-clause-few c = let two = c.requires.asked.all_second in omega (arith, two)

pub returns : goal.returns
returns c =
    has_walked c.args.program.now c.args.protocols.now c.args.host c.args.first.now c.args.second.now c.args.deals.now c.in_ok-steps.steps c.walk.result (c.in_ok-steps.ensures {u = tt}) c.walk.ensures.short c.walk.ensures.same
    c.walk.ensures.deal
