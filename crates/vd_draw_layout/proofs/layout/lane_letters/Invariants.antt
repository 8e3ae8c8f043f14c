use Rattle.std.proofs.Common.{◌≡◌, take}
use Rattle.std.specs.List.{fold}
use Rattle.vd_draw_layout.specs.Layout.{raised, name_length}
use Rattle.vd_draw_layout.proofs.layout.lane_letters.Given as goal

abbrev pub invariant-loop-protocol : goal.invariant-loop-protocol
invariant-loop-protocol l = l.most ≡ fold (raised (name_length l.hosts)) 0 (take l.protocol-index l.protocols)
