-- Shown names are plain.
use Rattle.std.proofs.Common.{◌≡◌, ℕ, Bool, true, false, ◌||◌, not, nat_eq, nat_lt, List, [], ◌∷◌, refl, sym, ap, if◌then◌else◌, true≢false}
use Rattle.std.specs.List.{list_all}
use Rattle.std.proofs.lemmas.Bool.{and_from, and_parts}
use Rattle.std.proofs.lemmas.List.{length-map}
use Rattle.vd_cmd_plan.specs.Shown.{NamesAreShownPlain, is_plain, shown, shown_byte}

abbrev is_control : ℕ → Bool
is_control b = nat_lt b 32 || nat_eq b 127

abbrev shown_if : Bool → ℕ → ℕ
shown_if control b = if control then 32 else b

byte_plain : (b : ℕ) (control : Bool) → is_control b ≡ control → is_plain (shown_if control b) ≡ true
byte_plain b true is = refl
byte_plain b false is = ap not is

byte_same : (b : ℕ) (control : Bool) → is_control b ≡ control → not control ≡ true → shown_if control b ≡ b
byte_same b true is plain = absurd (true≢false (sym plain))
byte_same b false is plain = refl

all_plain : (name : List ℕ) → list_all is_plain (shown name) ≡ true
all_plain [] = refl
all_plain (b ∷ name) = and_from (is_plain (shown_byte b)) (list_all is_plain (shown name)) (byte_plain b (is_control b) refl) (all_plain name)

all_same : (name : List ℕ) → list_all is_plain name ≡ true → shown name ≡ name
all_same [] plain = refl
all_same (b ∷ name) plain =
    let p = and_parts (is_plain b) (list_all is_plain name) plain in
    λ i. byte_same b (is_control b) refl p.0 i ∷ all_same name p.1 i

pub names_plain : NamesAreShownPlain
names_plain = record { plain = all_plain; long = λ name. length-map name shown_byte; same = all_same }
