use Rattle.sha2.specs.Hashers.{Holds256}
use Rattle.vd_execution.specs.Registers.{bytes_of_words, words_from}
use Rattle.std.specs.Prelude.{slice_index}
use Rattle.vd_machine.proofs.hashing.bytes_of_digest.Given as goal

abbrev pub invariant-words : goal.invariant-words
invariant-words l = Holds256 l.hasher (bytes_of_words (words_from (slice_index l.registers) l.nonce l.i))
