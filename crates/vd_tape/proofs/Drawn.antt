-- What loops draw from a stream.
use Rattle.std.proofs.Common.{◌≡◌, ℕ, ◌+◌, ◌*◌, ◌-◌, List, [], ◌∷◌, ◌++◌, sym, ap, ◌∙◌, arith}
use Rattle.std.proofs.lemmas.List.FromFn.{map-range_with_len_more}
use Rattle.rand_chacha.specs.ChaCha.{ChaCha, word_at}
use Rattle.vd_tape.specs.Made.{cipher_key, keyed_word, words_from, first_of}
use Rattle.vd_tape.specs.Generator.{IsAt, stands_at, words_at}

-- one more of a function's values
pub next_of : {X : Type 0} (f : ℕ → X) (n : ℕ) (xs new : List X) (x : X) → xs ≡ first_of n f → new ≡ xs ++ x ∷ [] → x ≡ f n → new ≡ first_of (n + 1) f
next_of {X = X} f n xs new x are e is =
    e ∙ ap (λ ys. ys ++ x ∷ []) are ∙ ap (λ y. first_of n f ++ y ∷ []) is ∙ sym (map-range_with_len_more f 0 n n (omega arith))

pub moved : (key : List ℕ) (stream place step next : ℕ) (g h : ChaCha) → IsAt g key stream place → h ≡ stands_at g (g.word_pos + step) → place + step ≡ next → IsAt h key stream next
moved key stream place step next g h is e n =
    let f : ℕ → ChaCha = λ p. record { key = cipher_key key; stream = stream; word_pos = p } in
    e ∙ ap (λ (k : ChaCha). stands_at k (k.word_pos + step)) is ∙ ap f n

pub word_drawn : (key : List ℕ) (stream place x : ℕ) (g : ChaCha) → IsAt g key stream place → x ≡ word_at 10 g.key g.stream g.word_pos → x ≡ keyed_word key stream place
unfolding keyed_word
word_drawn key stream place x g is e = e ∙ ap (λ (k : ChaCha). word_at 10 k.key k.stream k.word_pos) is

words_are : (key : List ℕ) (stream place : ℕ) (g : ChaCha) → IsAt g key stream place → words_at g ≡ words_from key stream place
unfolding keyed_word
words_are key stream place g is = ap words_at is

pub drawn : {P X : Type 0} (make : (ℕ → ℕ) → P) (pick : P → X) (key : List ℕ) (stream step i : ℕ) (g : ChaCha) (parts : P) (x : X) → IsAt g key stream (step * i) → parts ≡ make (words_at g) → x ≡ pick parts
    → x ≡ pick (make (words_from key stream (step * i)))
drawn make pick key stream step i g parts x is p e = e ∙ ap pick (p ∙ ap make (words_are key stream (step * i) g is))

pub next_place : (step i : ℕ) → step * i + step ≡ step * (i + 1)
next_place step i = omega arith
