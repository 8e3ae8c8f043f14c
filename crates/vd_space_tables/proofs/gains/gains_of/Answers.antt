use Rattle.vd_space_prefix.proofs.Front.{grows_z}
use Rattle.vd_space_tables.specs.Gains.{gain_with}
use Rattle.vd_space_tables.proofs.gains.gains_of.Goals as goal

pub loop-place-preserved : goal.loop-place-preserved
loop-place-preserved c =
    grows_z (gain_with c.args.outputs.now c.args.charge.now) c.loop-place.place c.loop-place.gains c.push.new.self c.gain.result c.loop-place.invariant c.gain.ensures (record { sfits = c.gain.type_inv }) c.in_ok-push.ensures.ok
