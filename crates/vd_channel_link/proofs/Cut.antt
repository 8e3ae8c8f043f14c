-- What a prefix of records gives.
use Rattle.std.proofs.Common.{◌≡◌, ◌∙◌, ◌≤◌, ◌<◌, ◌+◌, ◌⊎◌, ⊎_elim, inl, inr, ℕ, Bool, true, false, List, [], ◌∷◌, ◌++◌, length, ap, ap₂, refl, arith, append_assoc, length-append}
use Rattle.std.specs.List.{AllByRecursion}
use Rattle.vd_channel_crypto.specs.Records.{Direction, record_code, sealed}
use Rattle.vd_channel_crypto.specs.Streams.{key_stream, under}
use Rattle.vd_channel_link.specs.Opened.{IsSmall, OpenedIsFront, begins, flat, length_at, plain_of, records}
use Rattle.vd_channel_link.proofs.Beginning.{code_long, cover_long, long}
use Rattle.vd_channel_link.proofs.Walk.{none_opened, one_more}

-- one of two beginnings is a prefix of the other
split : (front rest whole more : List ℕ) → front ++ rest ≡ whole ++ more
    → (length front < length whole) ⊎ ((last : List ℕ) × (front ≡ whole ++ last) × (last ++ rest ≡ more))
split front rest [] more e = inr (front, refl, e)
split [] rest (y ∷ whole) more e = inl (omega arith)
split (x ∷ front) rest (y ∷ whole) more e =
    let head : x ≡ y = cc in
    let tail : front ++ rest ≡ whole ++ more = cc in
    ⊎_elim
    (λ (less : length front < length whole). inl (omega (arith, less)))
    (λ (so : (last : List ℕ) × (front ≡ whole ++ last) × (last ++ rest ≡ more)). inr (so.0, ap₂ (λ (h : ℕ) (t : List ℕ). h ∷ t) head so.1, so.2))
    (split front rest whole more tail)

-- the second byte of a record is the number of its bytes
second : (front rest : List ℕ) (a b : ℕ) (more : List ℕ) → 2 ≤ length front → front ++ rest ≡ a ∷ b ∷ more → length_at front ≡ b
second [] rest a b more two e = absurd (omega (arith, two))
second (x ∷ []) rest a b more two e = absurd (omega (arith, two))
second (x ∷ y ∷ front) rest a b more two e = let same : y ≡ b = cc in same

-- a record that is not there whole begins none
cut_begins : (keys : Direction) (number : ℕ) (piece front rest more : List ℕ) → length front < length (sealed keys number piece)
    → front ++ rest ≡ sealed keys number piece ++ more → (t : Bool) → begins keys number front ≡ t → begins keys number front ≡ false
cut_begins keys number piece front rest more less e false is = is
cut_begins keys number piece front rest more less e true is =
    let covered = under piece (key_stream keys.cipher number) in
    let whole = long keys number front is in
    let count = second front rest 0x58 (length piece) ((covered ++ record_code keys number covered) ++ more) (omega (arith, whole)) e in
    let size = length-append covered (record_code keys number covered) in
    absurd (omega (arith, less, whole, count, size, cover_long piece (key_stream keys.cipher number), code_long keys number covered))

pub opened_front : OpenedIsFront
opened_front keys number [] [] rest small e = ([], ap (λ (l : List ℕ). l ++ []) (none_opened keys number [] refl))
opened_front keys number [] (x ∷ front) rest small e = absurd cc
opened_front keys number (piece ∷ pieces) front rest small e = by (split front rest (sealed keys number piece) (records keys (number + 1) pieces) e) (opened_front keys (number + 1) pieces)
  where
    by : (length front < length (sealed keys number piece)) ⊎ ((last : List ℕ) × (front ≡ sealed keys number piece ++ last) × (last ++ rest ≡ records keys (number + 1) pieces))
        → ((last rest' : List ℕ) → AllByRecursion IsSmall pieces → last ++ rest' ≡ records keys (number + 1) pieces → (left : List ℕ) × (plain_of keys (number + 1) last ++ left ≡ flat pieces))
        → (left : List ℕ) × (plain_of keys number front ++ left ≡ piece ++ flat pieces)
    by (inl less) again =
        let none = none_opened keys number front (cut_begins keys number piece front rest (records keys (number + 1) pieces) less e (begins keys number front) refl) in
        (piece ++ flat pieces, ap (λ (l : List ℕ). l ++ (piece ++ flat pieces)) none)
    by (inr so) again =
        let later = again so.0 rest small.1 so.2 in (
          later.0,
          ap (λ (l : List ℕ). plain_of keys number l ++ later.0) so.1
              ∙ ap (λ (l : List ℕ). l ++ later.0) (one_more keys number piece so.0 small.0)
              ∙ append_assoc piece (plain_of keys (number + 1) so.0) later.0
              ∙ ap (λ (l : List ℕ). piece ++ l) later.1,
        )
