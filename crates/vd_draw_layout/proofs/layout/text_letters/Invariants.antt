use Rattle.std.proofs.Common.{◌≡◌, take}
use Rattle.std.specs.List.{fold}
use Rattle.vd_draw_layout.specs.Layout.{raised, letters_of}
use Rattle.vd_draw_layout.proofs.layout.text_letters.Given as goal

abbrev pub invariant-loop-row : goal.invariant-loop-row
invariant-loop-row l = l.most ≡ fold (raised letters_of) 0 (take l.row-index l.rows)
