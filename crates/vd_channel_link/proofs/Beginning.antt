-- The record at the front of bytes.
use Rattle.std.proofs.Common.{◌≡◌, ◌∙◌, ◌≤◌, ◌+◌, ℕ, Bool, true, ◌&&◌, List, [], ◌∷◌, ◌++◌, length, take, drop, ap, ap₂, sym, refl, arith, append_assoc, length-drop, length-take}
use Rattle.std.proofs.Math.Seq.{take-append_seam, drop-append_seam}
use Rattle.std.proofs.lemmas.Bool.{and_parts, le-leb, leb-true}
use Rattle.std.proofs.lemmas.List.{take-append-drop, length-take-le}
use Rattle.std.proofs.lemmas.List.FromFn.{length-map-range_with_len}
use Rattle.std.proofs.lemmas.Slice.Eq.{bytes_eq-Decides}
use Rattle.sha2.proofs.Facts256.{length-sha256}
use Rattle.vd_channel_crypto.specs.Records.{Direction, record_code, sealed}
use Rattle.vd_channel_crypto.specs.Streams.{key_stream, under}
use Rattle.vd_channel_crypto.proofs.Front.{twice}
use Rattle.vd_channel_link.specs.Taking.{Brings}
use Rattle.vd_channel_link.specs.Opened.{behind, begins, bytes_at, code_at, covered_at, has_code, has_tag, is_few, length_at}

take_front : (n : ℕ) (xs ys : List ℕ) → length xs ≡ n → take n (xs ++ ys) ≡ xs
take_front n xs ys is = ap (λ (m : ℕ). take m (xs ++ ys)) (sym is) ∙ take-append_seam xs ys

drop_front : (n : ℕ) (xs ys : List ℕ) → length xs ≡ n → drop n (xs ++ ys) ≡ ys
drop_front n xs ys is = ap (λ (m : ℕ). drop m (xs ++ ys)) (sym is) ∙ drop-append_seam xs ys

-- a code has 32 bytes, and what covers bytes as many as these
pub code_long : (keys : Direction) (number : ℕ) (covered : List ℕ) → length (record_code keys number covered) ≡ 32
code_long keys number covered = length-sha256 _

pub cover_long : (bytes stream : List ℕ) → length (under bytes stream) ≡ length bytes
cover_long bytes stream = length-map-range_with_len _ 0 (length bytes)

-- a record in its parts, with what is behind it
abbrev pub parts : (count : ℕ) → (covered code rest : List ℕ) → List ℕ
parts count covered code rest = 0x58 ∷ count ∷ (covered ++ (code ++ rest))

pub covered_there : (n : ℕ) (covered code rest : List ℕ) → length covered ≡ n → covered_at (parts n covered code rest) ≡ covered
covered_there n covered code rest is = take_front n covered (code ++ rest) is

pub code_there : (n : ℕ) (covered code rest : List ℕ) → length covered ≡ n → length code ≡ 32 → code_at (parts n covered code rest) ≡ code
code_there n covered code rest is long = ap (take 32) (drop_front n covered (code ++ rest) is) ∙ take_front 32 code rest long

behind_there : (n : ℕ) (covered code rest : List ℕ) → length covered ≡ n → length code ≡ 32 → behind (parts n covered code rest) ≡ rest
behind_there n covered code rest is long = ap (drop 32) (drop_front n covered (code ++ rest) is) ∙ drop_front 32 code rest long

all_three : (a b c : Bool) → a ≡ true → b ≡ true → c ≡ true → (a && (b && c)) ≡ true
all_three a b c x y z = ap₂ (λ (p q : Bool). p && q) x (ap₂ (λ (p q : Bool). p && q) y z)

begins_there : (keys : Direction) (number n : ℕ) (covered code rest : List ℕ) → length covered ≡ n → n ≤ 128 → code ≡ record_code keys number covered
    → begins keys number (parts n covered code rest) ≡ true
begins_there keys number n covered code rest is few e =
    let long : length code ≡ 32 = ap length e ∙ code_long keys number covered in
    let same : code_at (parts n covered code rest) ≡ record_code keys number (covered_at (parts n covered code rest)) =
    code_there n covered code rest is long ∙ e ∙ ap (record_code keys number) (sym (covered_there n covered code rest is)) in
    let raw = parts n covered code rest in
    all_three (has_tag raw) (is_few raw) (has_code keys number raw) ((bytes_eq-Decides (0x58 ∷ []) (0x58 ∷ [])).1 refl) (le-leb n 128 few)
    ((bytes_eq-Decides (code_at raw) (record_code keys number (covered_at raw))).1 same)

-- ---- the record that these keys make of some bytes

sealed_parts : (keys : Direction) (number : ℕ) (bytes rest : List ℕ)
    → sealed keys number bytes ++ rest ≡ parts (length bytes) (under bytes (key_stream keys.cipher number)) (record_code keys number (under bytes (key_stream keys.cipher number))) rest
sealed_parts keys number bytes rest =
    let covered = under bytes (key_stream keys.cipher number) in
    ap (λ (l : List ℕ). 0x58 ∷ length bytes ∷ l) (append_assoc covered (record_code keys number covered) rest)

pub begins_sealed : (keys : Direction) (number : ℕ) (bytes rest : List ℕ) → length bytes ≤ 128 → begins keys number (sealed keys number bytes ++ rest) ≡ true
begins_sealed keys number bytes rest few =
    let covered = under bytes (key_stream keys.cipher number) in
    ap (begins keys number) (sealed_parts keys number bytes rest)
    ∙ begins_there keys number (length bytes) covered (record_code keys number covered) rest (cover_long bytes (key_stream keys.cipher number)) few refl

pub bytes_sealed : (keys : Direction) (number : ℕ) (bytes rest : List ℕ) → bytes_at keys number (sealed keys number bytes ++ rest) ≡ bytes
bytes_sealed keys number bytes rest =
    let stream = key_stream keys.cipher number in
    let covered = under bytes stream in
    ap (bytes_at keys number) (sealed_parts keys number bytes rest)
    ∙ ap (λ (l : List ℕ). under l stream) (covered_there (length bytes) covered (record_code keys number covered) rest (cover_long bytes stream))
    ∙ twice bytes stream

pub behind_sealed : (keys : Direction) (number : ℕ) (bytes rest : List ℕ) → behind (sealed keys number bytes ++ rest) ≡ rest
behind_sealed keys number bytes rest =
    let covered = under bytes (key_stream keys.cipher number) in
    ap behind (sealed_parts keys number bytes rest)
    ∙ behind_there (length bytes) covered (record_code keys number covered) rest (cover_long bytes (key_stream keys.cipher number)) (code_long keys number covered)

-- ---- what begins so is such a record

-- it is there whole
pub long : (keys : Direction) (number : ℕ) (raw : List ℕ) → begins keys number raw ≡ true → 34 + length_at raw ≤ length raw
long keys number raw e =
    let others = (and_parts (has_tag raw) (is_few raw && has_code keys number raw) e).1 in
    let code = (and_parts (is_few raw) (has_code keys number raw) others).1 in
    let same = ap length ((bytes_eq-Decides (code_at raw) (record_code keys number (covered_at raw))).0 code) ∙ code_long keys number (covered_at raw) in
    let inner = drop (length_at raw) (drop 2 raw) in
    omega (arith, same, length-take 32 inner, length-drop (length_at raw) (drop 2 raw), length-drop 2 raw)

-- bytes that give back what was covered
pub recovered : (keys : Direction) (number : ℕ) (covered rest : List ℕ) (count : ℕ) → length covered ≡ count
    → parts count covered (record_code keys number covered) rest ≡ sealed keys number (under covered (key_stream keys.cipher number)) ++ rest
recovered keys number covered rest count is =
    let stream = key_stream keys.cipher number in
    let bytes = under covered stream in
    let counted : count ≡ length bytes = sym is ∙ sym (cover_long covered stream) in
    ap (λ (n : ℕ). parts n covered (record_code keys number covered) rest) counted
    ∙ ap (λ (l : List ℕ). parts (length bytes) l (record_code keys number l) rest) (sym (twice covered stream))
    ∙ sym (sealed_parts keys number bytes rest)

pub begun : (keys : Direction) (number : ℕ) (raw : List ℕ) → begins keys number raw ≡ true → Brings keys number raw (behind raw) (bytes_at keys number raw)
begun keys number [] e = absurd (omega (arith, long keys number [] e))
begun keys number (a ∷ []) e = absurd (omega (arith, long keys number (a ∷ []) e))
begun keys number (a ∷ b ∷ raw) e =
    let all = a ∷ b ∷ raw in
    let both = and_parts (has_tag all) (is_few all && has_code keys number all) e in
    let others = and_parts (is_few all) (has_code keys number all) both.1 in
    let tag : a ∷ [] ≡ 0x58 ∷ [] = (bytes_eq-Decides (a ∷ []) (0x58 ∷ [])).0 both.0 in
    let first : a ≡ 0x58 = cc in
    let few : b ≤ 128 = leb-true b 128 others.0 in
    let code : take 32 (drop b raw) ≡ record_code keys number (take b raw) = (bytes_eq-Decides (code_at all) (record_code keys number (covered_at all))).0 others.1 in
    let whole = long keys number (a ∷ b ∷ raw) e in
    let count : length (take b raw) ≡ b = length-take-le b raw (omega (arith, whole)) in
    record {
      came =
          ap (λ (x : ℕ). x ∷ b ∷ raw) first
          ∙ ap (λ (l : List ℕ). 0x58 ∷ b ∷ l) (sym (take-append-drop b raw))
          ∙ ap (λ (l : List ℕ). 0x58 ∷ b ∷ (take b raw ++ l)) (sym (take-append-drop 32 (drop b raw)))
          ∙ ap (λ (l : List ℕ). 0x58 ∷ b ∷ (take b raw ++ (l ++ drop 32 (drop b raw)))) code
          ∙ recovered keys number (take b raw) (drop 32 (drop b raw)) b count;
      few = omega (arith, cover_long (take b raw) (key_stream keys.cipher number), count, few);
    }
