use Rattle.std.proofs.Common.{◌≡◌, ◌++◌, take, flat_map}
use Rattle.vd_base_codec.specs.Reading.{field}
use Rattle.vd_hostcode.proofs.host_text.writing.push_fields.Given as goal

abbrev pub invariant-loop-number : goal.invariant-loop-number
invariant-loop-number l = l.bytes ≡ l.fn.bytes ++ flat_map field (take l.number-index l.numbers)
