use Rattle.vd_flow.proofs.Walking.{arrived, is_constant, one_back}
use Rattle.vd_flow.proofs.ways.walk.Goals as goal

pub returns-in_default-basis : goal.returns-in_default-basis
returns-in_default-basis c =
    arrived c.args.rules.now c.args.end c.steps.state c.in-Some.found (c.in-Some.ensures {u = tt}) c.steps.steps c.push.new.self c.steps.invariant c.in_ok-push.ensures.ok
    c.reversed.result c.reversed.ensures (is_constant c.in-Some.found.basis c.in_default-basis.not-Kept)

pub steps-preserved : goal.steps-preserved
steps-preserved c =
    one_back c.args.rules.now c.args.end c.steps.state c.in-Some.found (c.in-Some.ensures {u = tt}) c.steps.steps c.push.new.self c.steps.invariant c.in_ok-push.ensures.ok
    c.in-Kept.before c.in-Kept.is
