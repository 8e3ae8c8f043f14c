use Rattle.std.proofs.Common.{◌≡◌, ◌++◌, take, flat_map}
use Rattle.vd_base_codec.specs.Digits.{hex_byte}
use Rattle.vd_base_codec.proofs.digits.push_key.Given as goal

abbrev pub invariant-loop-byte : goal.invariant-loop-byte
invariant-loop-byte l = l.bytes ≡ l.fn.bytes ++ flat_map hex_byte (take l.byte-index l.key)
