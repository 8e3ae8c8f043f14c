-- The labels of a program whose hidden branches are selections.
use Rattle.std.specs.Prelude.{◌≡◌, ℕ, ◌<◌, Bool, length}
use Rattle.vd_base.specs.declared.ids.SlotId.{SlotId}
use Rattle.vd_core.specs.declared.normal.NormalForm.{NormalForm}
use Rattle.vd_formula.specs.TruthTable.{ActsFor}
use Rattle.vd_formula.specs.declared.label.Label.{Label}
use Rattle.vd_constraints.specs.declared.labels.Labels.{Labels}
use Rattle.vd_constraints.specs.declared.system.Place.TheVariants.{Slot}
use Rattle.vd_constraints.specs.Systems.{Constraints}
use Rattle.vd_constraints.specs.Rules.{system_of}
use Rattle.vd_constraints.specs.Satisfies.{label_at, Satisfies}
use Rattle.vd_rewrite.specs.Rewriting.{moved, kept_let, all_made}
use Rattle.vd_mux.specs.Selections.{with_selections}

-- the new number of an old slot
abbrev pub new_slot : (SlotId → Bool) → NormalForm → SlotId → SlotId
new_slot hides p x = moved (all_made hides (kept_let p.slots) p).table x

-- the program with selections has a labelling that satisfies it, and by which each old slot has the label that it had
pub record KeepsLabels (hides : SlotId → Bool) (p : NormalForm) (l : Labels) : Type 0 where
  pub labels : Labels
  pub satisfies : Satisfies (system_of (with_selections hides p)) labels
  pub kept : (x : SlotId) → x.0 < length p.slots → label_at labels (Slot (new_slot hides p x)) ≡ label_at l (Slot x)

-- some labelling satisfies the system
pub record CanBeLabelled (s : Constraints) : Type 0 where
  pub labels : Labels
  pub satisfies : Satisfies s labels

-- both parts of the one label act for those of the other
pub record LabelActsFor (one other : Label) : Type 0 where
  pub conf : ActsFor one.conf other.conf
  pub integ : ActsFor one.integ other.integ
