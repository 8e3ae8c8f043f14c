use Rattle.std.proofs.Common.{arith}
use Rattle.vd_space_api.proofs.Positions.{filled, no_proto}
use Rattle.vd_space_api.proofs.places.fill_places.Goals as goal

pub loop-slot-preserved : goal.loop-slot-preserved
loop-slot-preserved c =
    filled c.args.list.now c.args.prefix.now c.loop-slot.room c.loop-slot.slot c.place_of.result no_proto c.loop-slot-test.true (omega (arith, c.loop-slot.auto.room, c.requires.room)) c.loop-slot.invariant c.place_of.ensures
