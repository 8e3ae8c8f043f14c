-- The labelling at which every part is true at every set is below all others.
use Rattle.std.proofs.Common.{◌≡◌, ℕ, Bool, true, false, List, length, get_or, replicate, sym, ◌∙◌, subst, arith, inl, inr}
use Rattle.std.specs.Prelude.{All}
use Rattle.std.proofs.lemmas.Bool.{cases_lt}
use Rattle.std.proofs.lemmas.List.{length-replicate, get_or-replicate, get_or_past}
use Rattle.std.proofs.lemmas.List.Elements.{All-replicate}
use Rattle.vd_formula.specs.declared.label.Label.{Label}
use Rattle.vd_formula.specs.TruthTable.{ActsFor, any_of}
use Rattle.vd_formula.proofs.Front.{is_formula-any, acts_refl, acts_for_any, names-any}
use Rattle.vd_constraints.specs.declared.system.Place.{Place}
use Rattle.vd_constraints.specs.declared.system.Place.TheVariants.{Slot, Block}
use Rattle.vd_constraints.specs.declared.labels.Labels.{Labels}
use Rattle.vd_constraints.specs.Systems.{Constraints, IsOver, IsLabelOver, IsSystem}
use Rattle.vd_constraints.specs.Satisfies.{no_label, label_at, part_of, IsLabelling}
use Rattle.vd_solver.specs.Free.{free_label, free}
use Rattle.vd_solver.proofs.LabelsLeastRaising.{IsReached}

module _ (names : ℕ) where
  any_side : (label : Label) (integ : Bool) → IsLabelOver names label → ActsFor (part_of label integ) (part_of (free_label names) integ)
  any_side label true over = acts_for_any names label.integ over.integ.over
  any_side label false over = acts_for_any names label.conf over.conf.over

  -- at one place of two lists of as many labels
  free_place : (count k : ℕ) (others : List Label) (integ : Bool) → length others ≡ count → All (IsLabelOver names) others → ActsFor (part_of (get_or others k no_label) integ) (part_of (get_or (replicate count (free_label names)) k no_label) integ)
  free_place count k others integ long over = elim (cases_lt k count) [
    | inl low ↦
        subst (λ (label : Label). ActsFor (part_of (get_or others k no_label) integ) (part_of label integ)) (sym (get_or-replicate count k (free_label names) no_label low)) (any_side (get_or others k no_label) integ (over k no_label (omega arith)))
    | inr past ↦
        let count_free = length-replicate count (free_label names) in
        let none : get_or (replicate count (free_label names)) k no_label ≡ no_label = get_or_past (replicate count (free_label names)) k no_label (omega arith) in
        let none_other : get_or others k no_label ≡ no_label = get_or_past others k no_label (omega arith) in
        subst (λ (label : Label). ActsFor (part_of (get_or others k no_label) integ) (part_of label integ)) (none_other ∙ sym none) (acts_refl (part_of (get_or others k no_label) integ))
  ]

module _ (s : Constraints) where
  free_is : IsSystem s → IsLabelling s (free s)
  free_is system =
      let names = length s.principals in
      let any_over : IsOver names (any_of names) = record { is_formula = is_formula-any names system.few_principals; over = names-any names } in
      let over : IsLabelOver names (free_label names) = record { conf = any_over; integ = any_over } in
      record {
        slots = length-replicate s.slots (free_label names);
        blocks = length-replicate s.blocks (free_label names);
        slot_labels = All-replicate (IsLabelOver names) s.slots (free_label names) over;
        block_labels = All-replicate (IsLabelOver names) s.blocks (free_label names) over;
      }

  free_below : (other : Labels) → IsLabelling s other → (at : Place) (integ : Bool) → ActsFor (part_of (label_at other at) integ) (part_of (label_at (free s) at) integ)
  free_below other is (Slot x) integ = free_place (length s.principals) s.slots x.0 other.slots integ is.slots is.slot_labels
  free_below other is (Block b) integ = free_place (length s.principals) s.blocks b other.blocks integ is.blocks is.block_labels

  pub free_reached : IsSystem s → IsReached s (free s)
  free_reached system = record { labelling = free_is system; below = λ other solves part. free_below other solves.labelling part.at part.integ }
