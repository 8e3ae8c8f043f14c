-- The words of a digest are words.
use Rattle.std.proofs.Common.{ℕ, zero, suc, ◌+◌, ◌%◌, ◌/◌, ◌^◌, ◌<◌, List, [], ◌∷◌, ◌++◌, arith}
use Rattle.std.specs.Prelude.{slice_index}
use Rattle.std.specs.Int.{byte_at, w32, to_be_bytes, from_be_bytes}
use Rattle.sha2.specs.Sha256.{sha256, digest_bytes, final_hash, initial_hash_256, word_at}
use Rattle.vd_execution.specs.Registers.{digest_of, words_of_bytes, bytes_of_words}

-- a property of each element
abbrev pub Each : {X : Type 0} → (X → Type 0) → List X → Type 0
Each P [] = Unit {0}
Each P (x ∷ xs) = P x × Each P xs

each_append : {X : Type 0} (P : X → Type 0) (xs ys : List X) → Each P xs → Each P ys → Each P (xs ++ ys)
each_append P [] ys p q = q
each_append P (x ∷ xs) ys p q = (p.0, each_append P xs ys p.1 q)

byte_small : (k n : ℕ) → byte_at k n < 256
byte_small zero n = omega arith
byte_small (suc k) n = let m : ℕ = n / 256 ^ suc k in let f : m % 256 < 256 = omega arith in f

digest_small : (h : List ℕ) (n : ℕ) → Each (λ b. b < 256) (digest_bytes h n)
unfolding digest_bytes
digest_small h zero = tt
digest_small h (suc n) =
    let w : ℕ = slice_index h n in
    each_append (λ b. b < 256) (digest_bytes h n) (to_be_bytes w32 w) (digest_small h n)
    (byte_small 3 w, (byte_small 2 w, (byte_small 1 w, (byte_small 0 w, tt))))

sha_small : (m : List ℕ) → Each (λ b. b < 256) (sha256 m)
unfolding sha256
sha_small m = digest_small (final_hash initial_hash_256 m) 8

at_place : (xs : List ℕ) (i : ℕ) → Each (λ b. b < 256) xs → slice_index xs i < 256
at_place [] i all = omega arith
at_place (x ∷ xs) zero all = all.0
at_place (x ∷ xs) (suc i) all = at_place xs i all.1

four : (a b c d : ℕ) → a < 256 → b < 256 → c < 256 → d < 256 → from_be_bytes w32 (a ∷ b ∷ c ∷ d ∷ []) < 2 ^ 32
four a b c d p q r s = omega (arith, p, q, r, s)

word_small : (bytes : List ℕ) (i : ℕ) → Each (λ b. b < 256) bytes → word_at bytes i < 2 ^ 32
word_small bytes i all =
    four (slice_index bytes i) (slice_index bytes (i + 1)) (slice_index bytes (i + 2)) (slice_index bytes (i + 3))
    (at_place bytes i all) (at_place bytes (i + 1) all) (at_place bytes (i + 2) all) (at_place bytes (i + 3) all)

words_small : (bytes : List ℕ) (i n : ℕ) → Each (λ b. b < 256) bytes → Each (λ x. x < 2 ^ 32) (words_of_bytes bytes i n)
words_small bytes i zero all = tt
words_small bytes i (suc n) all = (word_small bytes i all, words_small bytes (i + 4) n all)

pub digest_words : (nonce : List ℕ) (value : ℕ) → Each (λ x. x < 2 ^ 32) (digest_of nonce value)
unfolding digest_of
digest_words nonce value = words_small (sha256 (bytes_of_words (nonce ++ value ∷ []))) 0 8 (sha_small (bytes_of_words (nonce ++ value ∷ [])))
