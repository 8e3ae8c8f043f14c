-- Words that do not begin with a command's word are left to the commands behind it.
use Rattle.std.proofs.Common.{◌≡◌, ℕ, ◌<◌, ◌≤◌, false, List, [], ◌∷◌, length, get_or, codes, refl, subst, arith}
use Rattle.std.specs.Str.{bytes_eq}
use Rattle.vd_cmd.specs.Commands.{other_form_of, unhosted_form_of}

same : (w : List ℕ) (words : List (List ℕ)) → bytes_eq w (codes "host-within") ≡ false → other_form_of (w ∷ words) ≡ unhosted_form_of (w ∷ words)
same w words is = rw is

pub without_words : (words : List (List ℕ)) → length words < 1 → other_form_of words ≡ unhosted_form_of words
without_words [] few = refl
without_words (w ∷ words) few = absurd (omega arith)

pub behind_a_limit : (words : List (List ℕ)) (w : List ℕ) → 1 ≤ length words → w ≡ get_or words 0 w → bytes_eq w (codes "host-within") ≡ false → other_form_of words ≡ unhosted_form_of words
behind_a_limit (w' ∷ words) w least is_first is = same w' words (subst (λ (x : List ℕ). bytes_eq x (codes "host-within") ≡ false) is_first is)
behind_a_limit [] w least is_first is = absurd (omega arith)
