-- The steps of the loops over the parts of a written form.
use Rattle.std.proofs.Common.{◌≡◌, ℕ, ◌+◌, ◌<◌, ◌≤◌, Bool, false, None, List, length, get_or, take, map, refl, sym, ap, ◌∙◌}
use Rattle.std.specs.List.{list_any, list_all}
use Rattle.std.specs.Prelude.{position}
use Rattle.std.specs.Option.{option_map_or}
use Rattle.std.specs.Str.{bytes_eq}
use Rattle.std.proofs.lemmas.List.{take_all, get_or-map}
use Rattle.std.proofs.Math.ListN.{length-map}
use Rattle.vd_base.specs.declared.form.Form.{Form}
use Rattle.vd_base.specs.declared.form.Form.TheVariants as form
use Rattle.vd_formula.specs.Forms.{truth, formula_of}
use Rattle.vd_formula.specs.TruthTable.{has, TruthTable, formula_where, IsFormula, both_of, either_of, any_of, never_of}
use Rattle.vd_formula.proofs.Tables.{is_formula-any, is_formula-never, is_formula-both, is_formula-either}
use Rattle.vd_formula.proofs.FormSteps.{both_more, either_more, truth-name, truth-both, truth-either}

-- a name that is not among the names is in no set
pub formula_of-unknown : (names : List (List ℕ)) (name : List ℕ) → position (bytes_eq name) names ≡ None → never_of (length names) ≡ formula_of (form.Name name) names
unfolding never_of formula_of
formula_of-unknown names name at_no_place =
    ap (λ o. formula_where (length names) (λ set. option_map_or (has set) o false)) (sym at_no_place) ∙ ap (λ t. formula_where (length names) (t names)) (sym (truth-name name))

-- the formula of the parts so far
pub record Joined (together : ((List (List ℕ) → ℕ → Bool) → Bool) → List (List (List ℕ) → ℕ → Bool) → Bool) (names : List (List ℕ)) (parts : List Form) (count : ℕ) (formula : TruthTable) : Type 0 where
  pub formula_is : formula ≡ formula_where (length names) (λ set. together (λ part. part names set) (take count (map truth parts)))
  pub is_formula : IsFormula formula

pub both_first : (names : List (List ℕ)) (parts : List Form) → length names ≤ 6 → Joined list_all names parts 0 (any_of (length names))
unfolding any_of
both_first names parts few = record { formula_is = refl; is_formula = is_formula-any (length names) few }

pub either_first : (names : List (List ℕ)) (parts : List Form) → length names ≤ 6 → Joined list_any names parts 0 (never_of (length names))
unfolding never_of
either_first names parts few = record { formula_is = refl; is_formula = is_formula-never (length names) few }

names_joined : (together : ((List (List ℕ) → ℕ → Bool) → Bool) → List (List (List ℕ) → ℕ → Bool) → Bool) (names : List (List ℕ)) (parts : List Form) (count : ℕ) (f g : TruthTable) → Joined together names parts count f → g.names ≡ length names → f.names ≡ g.names
names_joined together names parts count f g joined is = ap (λ t. t.names) joined.formula_is ∙ sym is

module _ (names : List (List ℕ)) (parts : List Form) (i : ℕ) (f : TruthTable) (part : Form) (low : i < length parts) (here : part ≡ get_or parts i part) (g : TruthTable) (g_is : g ≡ formula_of part names) (g_valid : IsFormula g) (over : g.names ≡ length names) where
  same_part : get_or (map truth parts) i (truth part) ≡ truth part
  same_part = get_or-map truth parts i part (truth part) low ∙ ap truth (sym here)

  pub both_next : Joined list_all names parts i f → Joined list_all names parts (i + 1) (both_of f g)
  unfolding formula_of
  both_next joined = record {
    formula_is = ap (λ t. both_of t g) joined.formula_is ∙ ap (both_of _) (g_is ∙ ap (λ t. formula_where (length names) (t names)) (sym same_part))
        ∙ both_more (length names) (λ t set. t names set) (map truth parts) i (truth part) (simp length-map low);
    is_formula = is_formula-both f g joined.is_formula g_valid (names_joined list_all names parts i f g joined over);
  }

  pub either_next : Joined list_any names parts i f → Joined list_any names parts (i + 1) (either_of f g)
  unfolding formula_of
  either_next joined = record {
    formula_is = ap (λ t. either_of t g) joined.formula_is ∙ ap (either_of _) (g_is ∙ ap (λ t. formula_where (length names) (t names)) (sym same_part))
        ∙ either_more (length names) (λ t set. t names set) (map truth parts) i (truth part) (simp length-map low);
    is_formula = is_formula-either f g joined.is_formula g_valid (names_joined list_any names parts i f g joined over);
  }

module _ (names : List (List ℕ)) (parts : List Form) (i : ℕ) (f : TruthTable) (high : length parts ≤ i) where
  pub both_last : Joined list_all names parts i f → f ≡ formula_of (form.Both parts) names
  unfolding formula_of
  both_last joined =
      joined.formula_is ∙ ap (λ ts. formula_where (length names) (λ set. list_all (λ part. part names set) ts)) (take_all i (map truth parts) (simp length-map high))
      ∙ ap (λ t. formula_where (length names) (t names)) (sym (truth-both parts))

  pub either_last : Joined list_any names parts i f → f ≡ formula_of (form.Either parts) names
  unfolding formula_of
  either_last joined =
      joined.formula_is ∙ ap (λ ts. formula_where (length names) (λ set. list_any (λ part. part names set) ts)) (take_all i (map truth parts) (simp length-map high))
      ∙ ap (λ t. formula_where (length names) (t names)) (sym (truth-either parts))
