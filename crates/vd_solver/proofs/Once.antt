-- A system has at most one outcome.
use Rattle.std.proofs.Common.{◌≡◌, ℕ, ◌<◌, Bool, true, false, List, length, get_or, sym, ap, ◌∙◌, subst, arith}
use Rattle.std.specs.Prelude.{All, Result, Ok, Err}
use Rattle.std.proofs.lemmas.List.{same_lists, get_or_default}
use Rattle.vd_formula.specs.declared.label.Label.{Label}
use Rattle.vd_formula.specs.TruthTable.{TruthTable, ActsFor}
use Rattle.vd_formula.proofs.Front.{antisymmetric}
use Rattle.vd_constraints.specs.declared.system.Place.TheVariants.{Slot, Block}
use Rattle.vd_constraints.specs.declared.labels.Labels.{Labels}
use Rattle.vd_constraints.specs.Systems.{Constraints, IsOver, IsLabelOver}
use Rattle.vd_constraints.specs.Satisfies.{HoldsCheck, no_label, part_of, IsLabelling, SolvesRules, Satisfies, IsBelow, IsLeastOf, IsFirstWithout}
use Rattle.vd_constraints.specs.Outcomes.{IsLabelled}
use Rattle.vd_constraints.proofs.Front.{first_once}

-- ---- what is above each other is equal
module _ (names : ℕ) where
  same_formula : (f g : TruthTable) → IsOver names f → IsOver names g → ActsFor f g → ActsFor g f → f ≡ g
  same_formula f g is_f is_g there back = antisymmetric f g is_f.is_formula is_g.is_formula (is_f.over ∙ sym is_g.over) there back

  same_label : (a b : Label) → IsLabelOver names a → IsLabelOver names b → ((integ : Bool) → ActsFor (part_of a integ) (part_of b integ)) → ((integ : Bool) → ActsFor (part_of b integ) (part_of a integ)) → a ≡ b
  same_label a b is_a is_b there back =
      ap (λ (f : TruthTable). record { conf = f; integ = a.integ }) (same_formula a.conf b.conf is_a.conf is_b.conf (there false) (back false))
      ∙ ap (λ (f : TruthTable). record { conf = b.conf; integ = f }) (same_formula a.integ b.integ is_a.integ is_b.integ (there true) (back true))

  abbrev ActForAll : List Label → List Label → Type 0
  ActForAll xs ys = (k : ℕ) (integ : Bool) → ActsFor (part_of (get_or xs k no_label) integ) (part_of (get_or ys k no_label) integ)

  same_labels : (xs ys : List Label) → length xs ≡ length ys → All (IsLabelOver names) xs → All (IsLabelOver names) ys → ActForAll xs ys → ActForAll ys xs → xs ≡ ys
  same_labels xs ys long over_x over_y there back = same_lists xs ys long (λ k d low.
      let below : k < length ys = omega arith in
      get_or_default xs k d no_label low
      ∙ same_label (get_or xs k no_label) (get_or ys k no_label) (over_x k no_label low) (over_y k no_label below) (there k) (back k)
      ∙ sym (get_or_default ys k d no_label below))

module _ (s : Constraints) where
  same_labelling : (a b : Labels) → IsLabelling s a → IsLabelling s b → IsBelow a b → IsBelow b a → a ≡ b
  same_labelling a b is_a is_b above below =
      ap (λ (slots : List Label). record { slots = slots; blocks = a.blocks })
      (same_labels (length s.principals) a.slots b.slots (is_a.slots ∙ sym is_b.slots) is_a.slot_labels is_b.slot_labels
      (λ k integ. below (record { at = Slot (record { 0 = k }); integ = integ })) (λ k integ. above (record { at = Slot (record { 0 = k }); integ = integ })))
      ∙ ap (λ (blocks : List Label). record { slots = b.slots; blocks = blocks })
      (same_labels (length s.principals) a.blocks b.blocks (is_a.blocks ∙ sym is_b.blocks) is_a.block_labels is_b.block_labels
      (λ k integ. below (record { at = Block k; integ = integ })) (λ k integ. above (record { at = Block k; integ = integ })))

  -- there is one least labelling with a property
  least_once : (P : Labels → Type 0) → ((l : Labels) → P l → IsLabelling s l) → (a b : Labels) → IsLeastOf P a → IsLeastOf P b → a ≡ b
  least_once P labelling a b least_a least_b = same_labelling a b (labelling a least_a.is) (labelling b least_b.is) (least_a.below b least_b.is) (least_b.below a least_a.is)

pub labelled_once : (s : Constraints) (a b : Result Labels ℕ) → IsLabelled s a → IsLabelled s b → a ≡ b
labelled_once s (Ok a) (Ok b) first second = ap Ok (least_once s (Satisfies s) (λ l is. is.solves.labelling) a b first second)
labelled_once s (Ok a) (Err j) first second = absurd (second.none a first.is)
labelled_once s (Err i) (Ok b) first second = absurd (first.none b second.is)
labelled_once s (Err i) (Err j) first second =
    let same = least_once s (SolvesRules s) (λ l is. is.labelling) second.least first.least second.solves_rules first.solves_rules in
    ap Err (first_once (HoldsCheck first.least) s.checks i j first.first (subst (λ (l : Labels). IsFirstWithout (HoldsCheck l) s.checks j) same second.first))
