use Rattle.std.proofs.Common.{◌≡◌}
use Rattle.vd_base.specs.declared.protocols.Proto.TheVariants.{Rep}
use Rattle.vd_draw_rows.specs.Moves.{is_told}
use Rattle.vd_draw_layout.specs.Lanes.{hosts_x}
use Rattle.vd_draw_picture.proofs.arrows.told_x.Given as goal

abbrev pub invariant-loop-host : goal.invariant-loop-host
invariant-loop-host l = l.xs ≡ hosts_x l.lanes (λ h. is_told h l.from (Rep l.set)) l.host
