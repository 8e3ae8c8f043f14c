use Rattle.std.specs.Prelude.{Option, List, IfSome}
use Rattle.std.proofs.lemmas.Option.{IfSome_then}
use Rattle.std.proofs.lemmas.Result.{IfOk-weaker}
use Rattle.vd_flow.specs.declared.ways.Step.{Step}
use Rattle.vd_flow.specs.Walks.{IsWalk}
use Rattle.vd_flow.specs.Ways.{IsWay}
use Rattle.vd_flow.proofs.Walking.{is_way}
use Rattle.vd_flow.proofs.ways.way.Goals as goal

pub returns-in-Some : goal.returns-in-Some
returns-in-Some c =
    IfOk-weaker c.walk.result (λ (way : Option (List Step)). IfSome way (IsWalk c.lower.result.now c.in-Some.end)) (λ (way : Option (List Step)). IfSome way (IsWay c.args.system.now c.args.check.now))
    (λ way is. IfSome_then way is
    (λ steps. is_way c.args.system.now c.args.check.now c.lower.result.now c.in-Some.end steps c.lower.ensures.same (c.in-Some.ensures {u = tt}))) c.walk.ensures
