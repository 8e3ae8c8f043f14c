use Rattle.std.proofs.Common.{◌≡◌, ◌≤◌, drop, length}
use Rattle.vd_hostcode.specs.Lines.{allows}
use Rattle.vd_hostcode.specs.Reading.{among}
use Rattle.vd_hostcode.proofs.host_text.reading.read_among.Given as goal

abbrev pub invariant-loop-word : goal.invariant-loop-word
invariant-loop-word l =
    (l.cursor ≡ l.fn.cursor) × (l.far ≤ length l.cursor) × (among (allows l.outline) (drop l.word-index l.words) l.far l.cursor ≡ among (allows l.outline) l.words 0 l.fn.cursor)
