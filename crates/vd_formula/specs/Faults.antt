-- Why a written form has no formula.
use Rattle.std.specs.Prelude.{◌≡◌, ⊤, ℕ, Some, List}
use Rattle.vd_base.specs.declared.form.Form.{Form}
use Rattle.vd_formula.specs.Forms.{first_unknown}
use Rattle.vd_formula.specs.declared.forms.FormFault.{FormFault}
use Rattle.vd_formula.specs.declared.forms.FormFault.TheVariants.{NoName, Memory}

-- a name is refused where it is the form's first that is not among the names; running out of memory is free
abbrev pub IsFaultOf : List (List ℕ) → Form → FormFault → Type 0
IsFaultOf names form (NoName name) = first_unknown names form ≡ Some name
IsFaultOf names form Memory = ⊤
