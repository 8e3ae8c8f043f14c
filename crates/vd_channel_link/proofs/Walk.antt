-- What the records give that stand at the front of bytes.
use Rattle.std.proofs.Common.{◌≡◌, ◌∙◌, ◌≤◌, ◌+◌, ℕ, zero, suc, Bool, true, false, List, [], ◌∷◌, ◌++◌, length, drop, if◌then◌else◌, ap, ap₂, sym, refl, arith, append_assoc, add-zero, length-drop, length-append}
use Rattle.vd_channel_crypto.specs.Records.{Direction, record_code, sealed}
use Rattle.vd_channel_crypto.specs.Streams.{key_stream, under}
use Rattle.vd_channel_link.specs.Taking.{Brings, IsCut}
use Rattle.vd_channel_link.specs.Opened.{behind, begins, bytes_at, flat, length_at, opened, plain_of, records, IsCovered, OpenedIsCovered, OpenedIsSent}
use Rattle.vd_channel_link.proofs.Beginning.{begins_sealed, bytes_sealed, behind_sealed, begun, long}

chosen : (t : Bool) (xs ys : List ℕ) → t ≡ true → (if t then xs else ys) ≡ xs
chosen true xs ys e = refl
chosen false xs ys e = absurd cc

passed : (t : Bool) (xs ys : List ℕ) → t ≡ false → (if t then xs else ys) ≡ ys
passed true xs ys e = absurd cc
passed false xs ys e = refl

shorter : (raw : List ℕ) (n : ℕ) → length raw ≤ suc n → length (behind raw) ≤ n
shorter raw n h = omega (arith, h, length-drop 32 (drop (length_at raw) (drop 2 raw)), length-drop (length_at raw) (drop 2 raw), length-drop 2 raw)

-- enough is enough
fuel : (keys : Direction) (m n number : ℕ) (raw : List ℕ) → length raw ≤ m → length raw ≤ n → opened keys number m raw ≡ opened keys number n raw
unfolding opened
fuel keys zero zero number raw h k = refl
fuel keys zero (suc n) number [] h k = refl
fuel keys zero (suc n) number (x ∷ raw) h k = absurd (omega (arith, h))
fuel keys (suc m) zero number [] h k = refl
fuel keys (suc m) zero number (x ∷ raw) h k = absurd (omega (arith, k))
fuel keys (suc m) (suc n) number raw h k =
    ap (λ (l : List ℕ). if begins keys number raw then bytes_at keys number raw ++ l else []) (fuel keys m n (number + 1) (behind raw) (shorter raw m h) (shorter raw n k))

pub none_opened : (keys : Direction) (number : ℕ) (raw : List ℕ) → begins keys number raw ≡ false → plain_of keys number raw ≡ []
unfolding opened
none_opened keys number [] e = refl
none_opened keys number (x ∷ raw) e = passed (begins keys number (x ∷ raw)) (bytes_at keys number (x ∷ raw) ++ opened keys (number + 1) (length raw) (behind (x ∷ raw))) [] e

-- one record, and what is behind it
pub one_more : (keys : Direction) (number : ℕ) (bytes rest : List ℕ) → length bytes ≤ 128
    → plain_of keys number (sealed keys number bytes ++ rest) ≡ bytes ++ plain_of keys (number + 1) rest
unfolding opened
one_more keys number bytes rest few =
    let raw = sealed keys number bytes ++ rest in
    let covered = under bytes (key_stream keys.cipher number) in
    let tail = (covered ++ record_code keys number covered) ++ rest in
    let room = suc (length tail) in
    let fits : length rest ≤ room = omega (arith, length-append (covered ++ record_code keys number covered) rest) in
    chosen (begins keys number raw) (bytes_at keys number raw ++ opened keys (number + 1) room (behind raw)) [] (begins_sealed keys number bytes rest few)
    ∙ ap₂ (λ (front back : List ℕ). front ++ opened keys (number + 1) room back) (bytes_sealed keys number bytes rest) (behind_sealed keys number bytes rest)
    ∙ ap (λ (l : List ℕ). bytes ++ l) (fuel keys room (length rest) (number + 1) rest fits (omega arith))

pub sent : OpenedIsSent
sent keys number [] rest small = ap (λ (n : ℕ). plain_of keys n rest) (sym (add-zero number))
sent keys number (piece ∷ pieces) rest small =
    let count : (number + 1) + length pieces ≡ number + suc (length pieces) = omega arith in
    ap (plain_of keys number) (append_assoc (sealed keys number piece) (records keys (number + 1) pieces) rest)
    ∙ one_more keys number piece (records keys (number + 1) pieces ++ rest) small.0
    ∙ ap (λ (l : List ℕ). piece ++ l) (sent keys (number + 1) pieces rest small.1)
    ∙ sym (append_assoc piece (flat pieces) (plain_of keys ((number + 1) + length pieces) rest))
    ∙ ap (λ (n : ℕ). (piece ++ flat pieces) ++ plain_of keys n rest) count

-- a record more, if one begins here
covered_if : (keys : Direction) (number : ℕ) (raw : List ℕ) → IsCovered keys (number + 1) (behind raw) → (t : Bool) → begins keys number raw ≡ t → IsCovered keys number raw
covered_if keys number raw others false e = record {
  pieces = [];
  rest = raw;
  are = refl;
  small = tt;
  gives = none_opened keys number raw e;
  ends = ap (λ (n : ℕ). begins keys n raw) (add-zero number) ∙ e;
}
covered_if keys number raw others true e =
    let piece = bytes_at keys number raw in
    let first = begun keys number raw e in
    let count : number + suc (length others.pieces) ≡ (number + 1) + length others.pieces = omega arith in
    record {
      pieces = piece ∷ others.pieces;
      rest = others.rest;
      are =
          first.came
          ∙ ap (λ (l : List ℕ). sealed keys number piece ++ l) others.are
          ∙ sym (append_assoc (sealed keys number piece) (records keys (number + 1) others.pieces) others.rest);
      small = (first.few, others.small);
      gives =
          ap (plain_of keys number) first.came
          ∙ one_more keys number piece (behind raw) first.few
          ∙ ap (λ (l : List ℕ). piece ++ l) others.gives;
      ends = ap (λ (n : ℕ). begins keys n others.rest) count ∙ others.ends;
    }

covered_by : (keys : Direction) (room number : ℕ) (raw : List ℕ) → length raw ≤ room → IsCovered keys number raw
covered_by keys zero number [] h = record { pieces = []; rest = []; are = refl; small = tt; gives = none_opened keys number [] refl; ends = refl }
covered_by keys zero number (x ∷ raw) h = absurd (omega (arith, h))
covered_by keys (suc room) number raw h = covered_if keys number raw (covered_by keys room (number + 1) (behind raw) (shorter raw room h)) (begins keys number raw) refl

pub covered : OpenedIsCovered
covered keys number raw = covered_by keys (length raw) number raw (omega arith)

-- ---- a record that is taken, and none

pub taken : (keys : Direction) (number : ℕ) (coming rest bytes : List ℕ) → Brings keys number coming rest bytes
    → plain_of keys number coming ≡ bytes ++ plain_of keys (number + 1) rest
taken keys number coming rest bytes b = ap (plain_of keys number) b.came ∙ one_more keys number bytes rest b.few

cut_if : (keys : Direction) (number : ℕ) (raw : List ℕ) → IsCut raw → (t : Bool) → begins keys number raw ≡ t → plain_of keys number raw ≡ []
cut_if keys number raw cut true e = absurd (omega (arith, cut, long keys number raw e))
cut_if keys number raw cut false e = none_opened keys number raw e

pub cut_short : (keys : Direction) (number : ℕ) (raw : List ℕ) → IsCut raw → plain_of keys number raw ≡ []
cut_short keys number raw cut = cut_if keys number raw cut (begins keys number raw) refl
