use Rattle.std.proofs.Common.{length}
use Rattle.vd_hostcode.specs.Lines.{start}
use Rattle.vd_hostcode.specs.Reading.{code_at}
use Rattle.vd_hostcode.proofs.CodeSteps.{CodeGoesOn}
use Rattle.vd_hostcode.proofs.host_text.reading.read_code.Given as goal

abbrev pub invariant-lines : goal.invariant-lines
invariant-lines l = CodeGoesOn l.code l.outline l.cursor (code_at (start l.fn.arrays) l.fn.cursor)

abbrev pub decreases-lines : goal.decreases-lines
decreases-lines l = length l.cursor
