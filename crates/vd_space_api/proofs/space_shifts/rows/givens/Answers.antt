use Rattle.std.proofs.Common.{false, get_or}
use Rattle.std.specs.Prelude.{unwrap_or}
use Rattle.vd_space_api.specs.Rows.{given_from, if_passes}
use Rattle.vd_base.specs.Holders.{proto_in}
use Rattle.vd_space_api.proofs.Loops.{grows}
use Rattle.vd_space_api.proofs.space_shifts.rows.givens.Goals as goal

pub loop-place-preserved : goal.loop-place-preserved
loop-place-preserved c =
    let list = c.args.list.now in
    grows (λ p. unwrap_or (if_passes (get_or c.args.sources.now p false) (given_from list c.args.weight c.args.targets.now c.args.taken.now (proto_in list p))) 0) c.loop-place.place c.loop-place.givens c.push.new.self c.given_by_place.result
    c.loop-place.invariant c.given_by_place.ensures c.in_ok-push.ensures.ok
