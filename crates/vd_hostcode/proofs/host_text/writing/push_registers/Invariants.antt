use Rattle.std.proofs.Common.{◌≡◌, ◌++◌, take, flat_map, map}
use Rattle.vd_base_codec.specs.Reading.{field}
use Rattle.vd_hostcode.proofs.host_text.writing.push_registers.Given as goal

abbrev pub invariant-loop-register : goal.invariant-loop-register
invariant-loop-register l = l.bytes ≡ l.fn.bytes ++ flat_map field (map (λ r. r.0) (take l.register-index l.registers))
