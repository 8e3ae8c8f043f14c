-- The parts of a labelling, and one of them changed.
use Rattle.std.proofs.Common.{◌≡◌, ℕ, ◌+◌, ◌<◌, Bool, true, false, length, refl, sym, ap, ◌∙◌, arith, inl, inr, ◌⊎◌}
use Rattle.std.specs.List.{sum_by}
use Rattle.std.proofs.lemmas.Bool.{cases_eq}
use Rattle.std.proofs.lemmas.List.{length-set, get_or-set_same, get_or-set_other}
use Rattle.std.proofs.lemmas.List.Elements.{All-set}
use Rattle.std.proofs.lemmas.List.Sums.{sum_by-set}
use Rattle.vd_base.specs.declared.ids.SlotId.{SlotId}
use Rattle.vd_formula.specs.declared.label.Label.{Label}
use Rattle.vd_formula.specs.TruthTable.{TruthTable}
use Rattle.vd_constraints.specs.declared.system.Place.{Place}
use Rattle.vd_constraints.specs.declared.system.Place.TheVariants.{Slot, Block}
use Rattle.vd_constraints.specs.declared.system.Part.{Part}
use Rattle.vd_constraints.specs.declared.labels.Labels.{Labels}
use Rattle.vd_constraints.specs.Systems.{Constraints, IsOver, IsLabelOver, IsPlaceOf, IsPartOf}
use Rattle.vd_constraints.specs.Satisfies.{no_label, label_at, part_of, formula_at, IsLabelling}
use Rattle.vd_constraints.proofs.Front.{over-label}
use Rattle.vd_solver.specs.LabelsLeastRaising.{IsWithin, with_side, with_label_at, with_part}

-- ---- one label changed
label-same : (l : Labels) (at : Place) (label : Label) → IsWithin l at → label_at (with_label_at l at label) at ≡ label
label-same l (Slot x) label low = get_or-set_same l.slots x.0 label no_label low
label-same l (Block b) label low = get_or-set_same l.blocks b label no_label low

same_slot : (x y : SlotId) → x.0 ≡ y.0 → Slot x ≡ Slot y
same_slot x y e = ap (λ (n : ℕ). Slot (record { 0 = n })) e

label-other : (l : Labels) (at other : Place) (label : Label) → (label_at (with_label_at l at label) other ≡ label_at l other) ⊎ (other ≡ at)
label-other l (Slot x) (Slot y) label = elim (cases_eq y.0 x.0) [ inl e ↦ inr (same_slot y x e) | inr ne ↦ inl (get_or-set_other l.slots x.0 y.0 label no_label ne) ]
label-other l (Slot x) (Block c) label = inl refl
label-other l (Block b) (Slot y) label = inl refl
label-other l (Block b) (Block c) label = elim (cases_eq c b) [ inl e ↦ inr (ap Block e) | inr ne ↦ inl (get_or-set_other l.blocks b c label no_label ne) ]

side-same : (label : Label) (integ : Bool) (f : TruthTable) → part_of (with_side label integ f) integ ≡ f
side-same label true f = refl
side-same label false f = refl

side-other : (label : Label) (integ other : Bool) (f : TruthTable) → (part_of (with_side label integ f) other ≡ part_of label other) ⊎ (other ≡ integ)
side-other label true true f = inr refl
side-other label true false f = inl refl
side-other label false true f = inl refl
side-other label false false f = inr refl

same_part : (p q : Part) → p.at ≡ q.at → p.integ ≡ q.integ → p ≡ q
same_part p q e k = ap (λ (at : Place). record { at = at; integ = p.integ }) e ∙ ap (λ (integ : Bool). record { at = q.at; integ = integ }) k

-- ---- one part changed
module _ (l : Labels) (p : Part) (f : TruthTable) (low : IsWithin l p.at) where
  pub formula-same : formula_at (with_part l p f) p ≡ f
  formula-same = ap (λ (label : Label). part_of label p.integ) (label-same l p.at (with_side (label_at l p.at) p.integ f) low) ∙ side-same (label_at l p.at) p.integ f

  -- at the place of the part
  here : (q : Part) → q.at ≡ p.at → (formula_at (with_part l p f) q ≡ formula_at l q) ⊎ (q ≡ p)
  here q e =
      let changed : label_at (with_part l p f) q.at ≡ with_side (label_at l p.at) p.integ f = ap (label_at (with_part l p f)) e ∙ label-same l p.at (with_side (label_at l p.at) p.integ f) low in
      elim (side-other (label_at l p.at) p.integ q.integ f) [
        | inl same ↦ inl (ap (λ (label : Label). part_of label q.integ) changed ∙ same ∙ ap (λ (at : Place). part_of (label_at l at) q.integ) (sym e))
        | inr side ↦ inr (same_part q p e side)
      ]

  -- each other part stays
  pub formula-other : (q : Part) → (formula_at (with_part l p f) q ≡ formula_at l q) ⊎ (q ≡ p)
  formula-other q = elim (label-other l p.at q.at (with_side (label_at l p.at) p.integ f)) [
    | inl same ↦ inl (ap (λ (label : Label). part_of label q.integ) same)
    | inr e ↦ here q e
  ]

-- ---- a labelling stays one
module _ (s : Constraints) (l : Labels) (is : IsLabelling s l) where
  pub within : (at : Place) → IsPlaceOf s at → IsWithin l at
  within (Slot x) low = let same = is.slots in omega arith
  within (Block b) low = let same = is.blocks in omega arith

  with_label_is : (at : Place) (label : Label) → IsLabelOver (length s.principals) label → IsLabelling s (with_label_at l at label)
  with_label_is (Slot x) label over = record {
    slots = length-set l.slots x.0 label ∙ is.slots;
    blocks = is.blocks;
    slot_labels = All-set (IsLabelOver (length s.principals)) l.slots x.0 label over is.slot_labels;
    block_labels = is.block_labels;
  }
  with_label_is (Block b) label over = record {
    slots = is.slots;
    blocks = length-set l.blocks b label ∙ is.blocks;
    slot_labels = is.slot_labels;
    block_labels = All-set (IsLabelOver (length s.principals)) l.blocks b label over is.block_labels;
  }

  pub with_part_is : (p : Part) (f : TruthTable) → IsPartOf s p → IsOver (length s.principals) f → IsLabelling s (with_part l p f)
  with_part_is p f low over = with_label_is p.at (with_side (label_at l p.at) p.integ f) (side (label_at l p.at) p.integ (over-label s l is p.at low))
    where
      side : (label : Label) (integ : Bool) → IsLabelOver (length s.principals) label → IsLabelOver (length s.principals) (with_side label integ f)
      side label true old = record { conf = old.conf; integ = over }
      side label false old = record { conf = over; integ = old.integ }

-- ---- the sum of all truth words
abbrev truths_of : Label → ℕ
truths_of label = label.conf.truths + label.integ.truths

abbrev pub all_truths : Labels → ℕ
all_truths l = sum_by truths_of l.slots + sum_by truths_of l.blocks

less_side : (label : Label) (integ : Bool) (f : TruthTable) → f.truths < (part_of label integ).truths → truths_of (with_side label integ f) < truths_of label
less_side label true f less = omega arith
less_side label false f less = omega arith

less_label : (l : Labels) (at : Place) (label : Label) → IsWithin l at → truths_of label < truths_of (label_at l at) → all_truths (with_label_at l at label) < all_truths l
less_label l (Slot x) label low less = let changed = sum_by-set truths_of l.slots x.0 label no_label low in omega (arith, changed)
less_label l (Block b) label low less = let changed = sum_by-set truths_of l.blocks b label no_label low in omega (arith, changed)

pub fewer_truths : (l : Labels) (p : Part) (f : TruthTable) → IsWithin l p.at → f.truths < (formula_at l p).truths → all_truths (with_part l p f) < all_truths l
fewer_truths l p f low less = less_label l p.at (with_side (label_at l p.at) p.integ f) low (less_side (label_at l p.at) p.integ f less)
