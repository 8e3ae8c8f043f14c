use Rattle.std.proofs.Common.{◌≡◌, drop}
use Rattle.vd_base_codec.specs.Reading.{literal_at}
use Rattle.vd_base_codec.proofs.cursor.Cursor.literal.Given as goal

abbrev pub invariant-loop-byte : goal.invariant-loop-byte
invariant-loop-byte l = literal_at (drop l.byte-index l.word) l.self ≡ literal_at l.word l.fn.self
