use Rattle.std.proofs.Common.{◌≡◌, take}
use Rattle.std.specs.List.{fold}
use Rattle.vd_draw_layout.specs.Layout.{raised, short_length}
use Rattle.vd_draw_layout.proofs.layout.label_letters.Given as goal

abbrev pub invariant-loop-label : goal.invariant-loop-label
invariant-loop-label l = l.most ≡ fold (raised short_length) 0 (take l.label-index l.labels)
