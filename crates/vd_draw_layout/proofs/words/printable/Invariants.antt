use Rattle.std.proofs.Common.{◌≡◌, map, take}
use Rattle.vd_draw_layout.specs.Words.{printable_byte}
use Rattle.vd_draw_layout.proofs.words.printable.Given as goal

abbrev pub invariant-loop-byte : goal.invariant-loop-byte
invariant-loop-byte l = l.shown ≡ map printable_byte (take l.byte-index l.bytes)
