-- A copy of a prefix, of which the first items are made, after a choice more and with its last choice given back.
use Rattle.std.proofs.Common.{◌≡◌, ℕ, ◌<◌, List, [], ◌∷◌, ◌++◌, length, take, set, sym, ap, ◌∙◌, arith}
use Rattle.std.proofs.lemmas.List.{take_more_set, take-take}
use Rattle.std.proofs.Math.Seq.{take-append_seam}
use Rattle.vd_search.proofs.Steps.{length_more}

-- it begins with the prefix
abbrev pub Copies : List ℕ → List ℕ → Type 0
Copies room prefix = take (length prefix) room ≡ prefix

pub copies_more : (room prefix : List ℕ) (choice : ℕ) → length prefix < length room → Copies room prefix → Copies (set room (length prefix) choice) (prefix ++ choice ∷ [])
copies_more room prefix choice low is = ap (λ n. take n (set room (length prefix) choice)) (length_more prefix choice) ∙ take_more_set room (length prefix) choice low ∙ ap (λ front. front ++ choice ∷ []) is

pub copies_front : (room front : List ℕ) (last : ℕ) → Copies room (front ++ last ∷ []) → Copies room front
copies_front room front last is =
    let longer = length_more front last in
    sym (take-take (length front) (length (front ++ last ∷ [])) room (omega (arith, longer))) ∙ ap (take (length front)) is ∙ take-append_seam front (last ∷ [])
