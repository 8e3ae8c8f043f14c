use Rattle.std.proofs.Common.{length}
use Rattle.vd_hostcode.specs.Reading.{many_at}
use Rattle.vd_hostcode.proofs.Many.{GoesOn}
use Rattle.vd_hostcode.proofs.host_text.reading.read_many.Given as goal

abbrev pub invariant-numbers : goal.invariant-numbers
invariant-numbers l = GoesOn l.numbers l.cursor (many_at (length l.fn.cursor) l.fn.cursor)

abbrev pub decreases-numbers : goal.decreases-numbers
decreases-numbers l = length l.cursor
