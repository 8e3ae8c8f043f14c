use Rattle.std.proofs.Common.{◌≡◌, map, string_bytes, take}
use Rattle.viaduct.proofs.program.copies.Given as goal

abbrev pub invariant-loop-text : goal.invariant-loop-text
invariant-loop-text l = l.list ≡ map string_bytes (take l.text-index l.texts)
