use Rattle.std.proofs.Common.{◌≡◌, ◌∙◌, arith, ◌++◌, ◌∷◌, [], ℕ, List, subst, ap}
use Rattle.std.specs.Prelude.{slice_index}
use Rattle.std.specs.Int.{w32, to_be_bytes}
use Rattle.sha2.specs.Hashers.{Holds256}
use Rattle.vd_execution.specs.Registers.{bytes_of_words, words_from}
use Rattle.vd_machine.proofs.Digests.{whole_message}
use Rattle.vd_machine.proofs.hashing.bytes_of_digest.Goals as goal

pub returns : goal.returns
returns c =
    let f : ℕ → ℕ = slice_index c.args.registers.now in
    let before : List ℕ = bytes_of_words (words_from f c.args.nonce c.words.i) in
    let last = c.update-2.ensures before c.words.invariant in
    let done = c.words.auto.i-end in
    let eight : c.words.i ≡ 8 = omega arith in
    let bytes : c.to_be_bytes-2.result ≡ to_be_bytes w32 (f c.args.value) = c.to_be_bytes-2.ensures ∙ ap (to_be_bytes w32) c.word_in-2.ensures in
    let e : before ++ c.to_be_bytes-2.result ≡ bytes_of_words (words_from f c.args.nonce 8 ++ f c.args.value ∷ []) = ap (λ l. before ++ l) bytes ∙ whole_message f c.args.nonce c.args.value c.words.i eight in
    c.finalize.ensures (bytes_of_words (words_from f c.args.nonce 8 ++ f c.args.value ∷ [])) (subst (λ l. Holds256 c.update-2.new.self l) e last)
