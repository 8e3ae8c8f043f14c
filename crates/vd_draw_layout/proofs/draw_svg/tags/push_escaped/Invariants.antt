use Rattle.std.proofs.Common.{◌≡◌, ◌++◌, take}
use Rattle.vd_draw_layout.specs.Tags.{escaped}
use Rattle.vd_draw_layout.proofs.draw_svg.tags.push_escaped.Given as goal

abbrev pub invariant-loop-byte : goal.invariant-loop-byte
invariant-loop-byte l = l.text ≡ l.initial.text ++ escaped (take l.byte-index l.bytes)
