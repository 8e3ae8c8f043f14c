-- What a written form means over a list of names.
use Rattle.std.specs.Prelude.{ℕ, Bool, true, false, not, Option, List, [], ◌∷◌, length, position}
use Rattle.std.specs.List.{find, list_any, list_all, flat_map}
use Rattle.std.specs.Option.{option_map_or}
use Rattle.std.specs.Str.{bytes_eq}
use Rattle.vd_base.specs.Names.{is_among}
use Rattle.vd_base.specs.declared.form.Form.{Form}
use Rattle.vd_base.specs.declared.form.Form.TheOpen.{Form-F}
use Rattle.vd_base.specs.declared.form.Form.TheFolds.{fold-Form}
use Rattle.vd_formula.specs.TruthTable.{has, TruthTable, formula_where}

-- whether the name is in the set
abbrev pub has_name : List (List ℕ) → List ℕ → ℕ → Bool
has_name names name set = option_map_or (has set) (position (bytes_eq name) names) false

abbrev pub truth_step : Form-F (List (List ℕ) → ℕ → Bool) → List (List ℕ) → ℕ → Bool
truth_step Form-F.Any names set = true
truth_step Form-F.Never names set = false
truth_step (Form-F.Name name) names set = has_name names name set
truth_step (Form-F.Both parts) names set = list_all (λ part. part names set) parts
truth_step (Form-F.Either parts) names set = list_any (λ part. part names set) parts

-- its truth at a set
abbrev pub truth : Form → List (List ℕ) → ℕ → Bool
truth = fold-Form (List (List ℕ) → ℕ → Bool) truth_step

-- the formula of a form over these names
unfoldable pub formula_of : Form → List (List ℕ) → TruthTable
formula_of form names = formula_where (length names) (truth form names)

abbrev pub names_step : Form-F (List (List ℕ)) → List (List ℕ)
names_step Form-F.Any = []
names_step Form-F.Never = []
names_step (Form-F.Name name) = name ∷ []
names_step (Form-F.Both parts) = flat_map (λ names. names) parts
names_step (Form-F.Either parts) = flat_map (λ names. names) parts

-- its names in the order of the text
abbrev pub names_in : Form → List (List ℕ)
names_in = fold-Form (List (List ℕ)) names_step

-- the name is none of the names
abbrev pub is_unknown : List (List ℕ) → List ℕ → Bool
is_unknown names name = not (is_among names name)

-- its first name that is not among these
abbrev pub first_unknown : List (List ℕ) → Form → Option (List ℕ)
first_unknown names form = find (is_unknown names) (names_in form)
