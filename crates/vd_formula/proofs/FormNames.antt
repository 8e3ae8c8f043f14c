-- The first name of a written form that is not among the names, one part after another.
use Rattle.std.proofs.Common.{◌≡◌, ℕ, ◌+◌, ◌<◌, ◌≤◌, ◌||◌, Option, None, List, [], ◌∷◌, get_or, drop, map, refl, sym, ap, ◌∙◌, add-one, drop-cons}
use Rattle.std.specs.List.{find, flat_map, list_any}
use Rattle.std.specs.Option.{option_or}
use Rattle.std.specs.Str.{bytes_eq}
use Rattle.std.proofs.lemmas.List.Folds.{find-append}
use Rattle.std.proofs.lemmas.List.{drop_all}
use Rattle.std.proofs.Common.{rules, length}
use Rattle.vd_base.specs.Names.{is_among}
use Rattle.vd_base.specs.declared.form.Form.{Form}
use Rattle.vd_base.specs.declared.form.Form.TheVariants as form
use Rattle.vd_base.specs.declared.form.Form.TheFolds.{the_lemmas}
use Rattle.vd_formula.specs.Forms.{names_in, is_unknown, first_unknown}

pub any_is_among : (names : List (List ℕ)) (name : List ℕ) → list_any (λ other. bytes_eq other name) names ≡ is_among names name
any_is_among [] name = refl
any_is_among (other ∷ names) name = ap (λ b. bytes_eq other name || b) (any_is_among names name)

names-both : (parts : List Form) → names_in (form.Both parts) ≡ flat_map (λ names. names) (map names_in parts)
names-both parts = search (rules, the_lemmas)

names-either : (parts : List Form) → names_in (form.Either parts) ≡ flat_map (λ names. names) (map names_in parts)
names-either parts = search (rules, the_lemmas)

-- the first unknown name of these parts, in order
abbrev pub unknown_of : List (List ℕ) → List Form → Option (List ℕ)
unknown_of names parts = find (is_unknown names) (flat_map (λ ns. ns) (map names_in parts))

pub unknown_both : (names : List (List ℕ)) (parts : List Form) → first_unknown names (form.Both parts) ≡ unknown_of names parts
unknown_both names parts = ap (find (is_unknown names)) (names-both parts)

pub unknown_either : (names : List (List ℕ)) (parts : List Form) → first_unknown names (form.Either parts) ≡ unknown_of names parts
unknown_either names parts = ap (find (is_unknown names)) (names-either parts)

module _ (names : List (List ℕ)) (parts : List Form) (i : ℕ) where
  -- of one part and of those after it
  pub one_part : (part : Form) → i < length parts → part ≡ get_or parts i part → unknown_of names (drop i parts) ≡ option_or (first_unknown names part) (unknown_of names (drop (i + 1) parts))
  one_part part low here =
      let front : drop i parts ≡ get_or parts i part ∷ drop (i + 1) parts = rw add-one (drop-cons parts i part low) in
      ap (unknown_of names) (front ∙ ap (λ p. p ∷ drop (i + 1) parts) (sym here))
      ∙ find-append (is_unknown names) (names_in part) (flat_map (λ ns. ns) (map names_in (drop (i + 1) parts)))

  pub no_part : length parts ≤ i → unknown_of names (drop i parts) ≡ None
  no_part high = ap (unknown_of names) (drop_all i parts high)
