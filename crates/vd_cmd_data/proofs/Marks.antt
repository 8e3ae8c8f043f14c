-- A text without its byte order mark.
use Rattle.std.proofs.Common.{◌≡◌, ℕ, ◌-◌, ◌<◌, ◌≤◌, Bool, true, false, List, [], ◌∷◌, length, drop, take, get_or, if◌then◌else◌, refl, sym, ap, ◌∙◌, arith}
use Rattle.csv.specs.Reading.{is_bom, strip_bom}
use Rattle.vd_cmd_data.proofs.Places.{behind_is}

pub short : (bytes : List ℕ) → length bytes < 3 → bytes ≡ strip_bom bytes
unfolding strip_bom
short [] few = refl
short (a ∷ []) few = refl
short (a ∷ b ∷ []) few = refl
short (a ∷ b ∷ c ∷ rest) few = absurd (omega (arith, few))

front : (a b c : ℕ) (rest : List ℕ) (t : Bool) → is_bom a b c ≡ t → strip_bom (a ∷ b ∷ c ∷ rest) ≡ (if t then rest else a ∷ b ∷ c ∷ rest)
unfolding strip_bom
front a b c rest t is = ap (λ (s : Bool). if s then rest else a ∷ b ∷ c ∷ rest) is

module _ (d e f : ℕ) where
  by_test : (bytes : List ℕ) (t : Bool) → 3 ≤ length bytes → is_bom (get_or bytes 0 d) (get_or bytes 1 e) (get_or bytes 2 f) ≡ t
      → strip_bom bytes ≡ (if t then drop 3 bytes else bytes)
  by_test [] t some is = absurd (omega (arith, some))
  by_test (x ∷ []) t some is = absurd (omega (arith, some))
  by_test (x ∷ y ∷ []) t some is = absurd (omega (arith, some))
  by_test (x ∷ y ∷ z ∷ rest) t some is = front x y z rest t is

  pub marked : (bytes : List ℕ) → 3 ≤ length bytes → is_bom (get_or bytes 0 d) (get_or bytes 1 e) (get_or bytes 2 f) ≡ true → take (length bytes - 3) (drop 3 bytes) ≡ strip_bom bytes
  marked bytes some is = behind_is bytes 3 ∙ sym (by_test bytes true some is)

  pub unmarked : (bytes : List ℕ) → 3 ≤ length bytes → is_bom (get_or bytes 0 d) (get_or bytes 1 e) (get_or bytes 2 f) ≡ false → bytes ≡ strip_bom bytes
  unmarked bytes some is = sym (by_test bytes false some is)
