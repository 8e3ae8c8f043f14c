-- The formulas and labels of a program are over its principals.
use Rattle.std.proofs.Common.{ℕ, ◌≤◌, Option, None, Some, length, refl, slice_get}
use Rattle.std.specs.Option.{option_and_then, option_map, option_map_or}
use Rattle.vd_base.specs.Limits.{most_principals}
use Rattle.vd_base.specs.declared.form.Form.{Form}
use Rattle.vd_base.specs.declared.ids.HostId.{HostId}
use Rattle.vd_base.specs.declared.ids.SlotId.{SlotId}
use Rattle.vd_core.specs.declared.normal.NormalForm.{NormalForm}
use Rattle.vd_core.specs.declared.normal.Written as normal
use Rattle.vd_core.specs.declared.normal.Slot as made
use Rattle.vd_formula.specs.TruthTable.{any_of}
use Rattle.vd_formula.specs.Forms.{formula_of}
use Rattle.vd_formula.specs.declared.label.Label.{Label}
use Rattle.vd_formula.proofs.Front.{is_formula-any, is_formula-of}
use Rattle.vd_constraints.specs.Systems.{IsOver, IsLabelOver}
use Rattle.vd_constraints.specs.Rules.{formula, label, no_authority, host_label, written_at}

-- a label, if there is one, is over so many names
abbrev pub IsOptionOver : ℕ → Option Label → Type 0
IsOptionOver names None = Unit {0}
IsOptionOver names (Some label) = IsLabelOver names label

module _ (p : NormalForm) (few : length p.principals ≤ most_principals) where
  pub formula_over : (form : Form) → IsOver (length p.principals) (formula p form)
  unfolding formula_of
  formula_over form = record { is_formula = is_formula-of form p.principals few; over = refl }

  any_over : IsOver (length p.principals) (any_of (length p.principals))
  unfolding any_of
  any_over = record { is_formula = is_formula-any (length p.principals) few; over = refl }

  label_over : (written : normal.Written) → IsLabelOver (length p.principals) (label p written)
  label_over written = record { conf = formula_over written.conf; integ = formula_over written.integ }

  declared_over : (found : Option normal.Written) → IsLabelOver (length p.principals) (option_map_or (label p) found (no_authority p))
  declared_over None = record { conf = any_over; integ = any_over }
  declared_over (Some written) = label_over written

  pub host_over : (h : HostId) → IsLabelOver (length p.principals) (host_label p h)
  host_over h = declared_over (slice_get p.labels h.0)

  optional_over : (written : Option normal.Written) → IsOptionOver (length p.principals) (option_map (label p) written)
  optional_over None = tt
  optional_over (Some written) = label_over written

  slot_over : (found : Option made.Slot) → IsOptionOver (length p.principals) (option_and_then (λ (slot : made.Slot). option_map (label p) slot.label) found)
  slot_over None = tt
  slot_over (Some slot) = optional_over slot.label

  pub written_over : (x : SlotId) → IsOptionOver (length p.principals) (written_at p x)
  written_over x = slot_over (slice_get p.slots x.0)
