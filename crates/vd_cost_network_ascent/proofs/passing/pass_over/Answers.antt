use Rattle.std.proofs.Common.{subst}
use Rattle.vd_cost_network_bound.specs.Ascents.{IsBeyond}
use Rattle.vd_cost_network_ascent.proofs.Passed.{one_more}
use Rattle.vd_cost_network_ascent.proofs.passing.pass_over.Goals as goal

pub returns : goal.returns
returns c =
    one_more (IsBeyond c.args.problem.now c.args.most) c.args.passed.now c.push.new.self c.args.found.prefix c.push.result c.requires.passed
    (subst (IsBeyond c.args.problem.now c.args.most) c.as_slice.ensures (c.in_ok-is_beyond.ensures c.if-not-branch.false)) c.push.ensures.ok
