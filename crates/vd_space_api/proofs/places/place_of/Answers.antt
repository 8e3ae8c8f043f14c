use Rattle.std.proofs.Common.{sym, ◌∙◌}
use Rattle.vd_space_api.proofs.Positions.{found, missing, no_proto}
use Rattle.vd_space_api.proofs.places.place_of.Goals as goal

pub returns-then-is_same : goal.returns-then-is_same
returns-then-is_same c = found c.args.list.now c.args.protocol c.loop-place.place no_proto c.loop-place-test.true c.loop-place.invariant (sym c.is_same.ensures ∙ c.if-is_same.true)

pub returns : goal.returns
returns c = missing c.args.list.now c.args.protocol c.loop-place.place c.loop-place-test.false c.loop-place.auto.place-end c.loop-place.invariant
