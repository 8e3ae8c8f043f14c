use Rattle.std.proofs.Common.{◌≡◌, ◌++◌, take, flat_map}
use Rattle.vd_hostcode.specs.Text.{line}
use Rattle.vd_hostcode.proofs.host_text.writing.push_code.Given as goal

abbrev pub invariant-loop-instruction : goal.invariant-loop-instruction
invariant-loop-instruction l = l.bytes ≡ l.fn.bytes ++ flat_map line (take l.instruction-index l.code)
