-- The program with selections has a labelling by which old slots keep their labels, so its least labels are no more.
use Rattle.std.proofs.Common.{◌≡◌, ℕ, ◌+◌, ◌<◌, Bool, true, false, true≢false, ◌&&◌, if◌then◌else◌, List, [], map, length, slice_index, refl, sym, ap, ◌∙◌, subst, arith}
use Rattle.std.specs.Prelude.{All}
use Rattle.std.specs.List.{range_with_len}
use Rattle.std.proofs.lemmas.List.Elements.{All-nil, All-from_get_or}
use Rattle.std.proofs.lemmas.List.FromFn.{length-range_with_len, length-map-range_with_len, get_or-map-range_with_len}
use Rattle.vd_base.specs.declared.ids.SlotId.{SlotId}
use Rattle.vd_core.specs.declared.normal.NormalForm.{NormalForm}
use Rattle.vd_core.specs.Facts.{nothing_seen, slots_made, IsWellMade}
use Rattle.vd_formula.specs.declared.label.Label.{Label}
use Rattle.vd_formula.specs.TruthTable.{ActsFor}
use Rattle.vd_constraints.specs.declared.labels.Labels.{Labels}
use Rattle.vd_constraints.specs.declared.system.Place.TheVariants.{Slot, Block}
use Rattle.vd_constraints.specs.Systems.{IsLabelOver}
use Rattle.vd_constraints.specs.Satisfies.{label_at, no_label, HoldsRule, HoldsCheck, Satisfies, IsLeast}
use Rattle.vd_constraints.specs.Rules.{conf, integ, system_of, at_start}
use Rattle.vd_rewrite.specs.Rewriting.{Made, made_at_start, kept_let, all_made, with_made, is_within}
use Rattle.vd_mux.specs.BooleanGuards.{has_boolean_guards}
use Rattle.vd_mux.specs.Selections.{with_selections, some_hidden, turned, turned_where_boolean}
use Rattle.vd_cmd_rewrite.specs.TurnedLabels.{new_slot, KeepsLabels, CanBeLabelled, LabelActsFor}
use Rattle.vd_rewrite.proofs.Front.{placed_at_start, Known, Counts, counts_range}
use Rattle.vd_noninter.proofs.Front.{same_principals, same_slots}
use Rattle.vd_cmd_rewrite.proofs.Asked.{slot_label, flows_self}
use Rattle.vd_cmd_rewrite.proofs.Labelled.{Tied, Final, Stands}
use Rattle.vd_cmd_rewrite.proofs.RewriteLabelsWalked.{Old, Inside, Result, BodyFact, body_walks, body_grows}

module _ (hides : SlotId → Bool) (p : NormalForm) (l : Labels) (well : IsWellMade p) (satisfies : Satisfies (system_of p) l) where
  abbrev made : Made
  made = all_made hides (kept_let p.slots) p

  slots_over : (k : ℕ) → k < length p.slots → IsLabelOver (length p.principals) (slot_label l k)
  slots_over k lt =
      let labelling = satisfies.solves.labelling in
      let many = labelling.slots ∙ same_slots p.body p (Block 0) (at_start p) in
      subst (λ (ns : List (List ℕ)). IsLabelOver (length ns) (slot_label l k)) (same_principals p.body p (Block 0) (at_start p)) (labelling.slot_labels k no_label (omega (arith, many, lt)))

  blocks_over : (b : ℕ) → b < length l.blocks → IsLabelOver (length p.principals) (label_at l (Block b))
  blocks_over b lt =
      subst (λ (ns : List (List ℕ)). IsLabelOver (length ns) (label_at l (Block b))) (same_principals p.body p (Block 0) (at_start p)) (satisfies.solves.labelling.block_labels b no_label lt)

  walks : BodyFact hides p l slots_over blocks_over p.body
  walks = body_walks hides p l slots_over blocks_over p.body

  whole : Old hides p l slots_over blocks_over (system_of p)
  whole = let e = satisfies.solves.labelling.blocks in record { holds = record { rules = satisfies.solves.rules; checks = satisfies.checks }; blocks = omega (arith, e) }

  begun : Old hides p l slots_over blocks_over (at_start p)
  begun = walks.0 (Block 0) (at_start p) whole

  abbrev f0 : ℕ → Label
  f0 k = no_label

  abbrev g0 : ℕ → Label
  g0 b = label_at l (Block 0)

  zero_over : IsLabelOver (length p.principals) (label_at l (Block 0))
  zero_over = let some = begun.blocks in blocks_over 0 (omega (arith, some))

  tied : Tied p l made_at_start f0 g0
  tied = record { sized = refl; slots_over = λ k lt. absurd (omega (arith, lt)); blocks_over = λ b lt. zero_over; low = λ k lt. absurd (omega (arith, lt)); same = λ k lt. absurd (omega (arith, lt)) }

  inside : Inside hides p l slots_over blocks_over [] 0 (Block 0) made_at_start f0 g0
  inside = record { low = omega arith; over = zero_over; flow = flows_self (label_at l (Block 0)); guards = tt }

  counts : Counts 0 (slots_made p.body)
  counts = subst (Counts 0) (sym well.in_order) (counts_range 0 (length p.slots))

  many_made : length (slots_made p.body) ≡ length p.slots
  many_made = ap (λ (xs : List ℕ). length xs) well.in_order ∙ length-range_with_len 0 (length p.slots)

  known : Known 0 nothing_seen
  known =
      record {
        bindings = λ k b. absurd (true≢false (sym b));
        variables = λ k b. absurd (true≢false (sym b));
        arrays = λ k b. absurd (true≢false (sym b));
        apart = λ k b v. true≢false (sym b);
      }

  result : Result hides p l slots_over blocks_over 0 made_at_start made f0 g0
  result = walks.1 [] 0 made_at_start f0 g0 nothing_seen (Block 0) (at_start p) placed_at_start known counts (let e = many_made in omega (arith, e)) well.made_before tied inside whole

  abbrev labels : Labels
  labels = record { slots = map result.slots (range_with_len 0 made.next); blocks = map result.blocks (range_with_len 0 made.blocks) }

  final : Final p l made result.slots result.blocks made labels
  final =
      record {
        entries = λ k lt. refl;
        slots = λ k lt. get_or-map-range_with_len result.slots 0 made.next k k no_label lt (omega arith);
        blocks = λ b lt. get_or-map-range_with_len result.blocks 0 made.blocks b b no_label lt (omega arith);
      }

  abbrev after : NormalForm
  after = with_made p made

  done : Stands p l labels (system_of after) made.blocks
  done = result.is.goes made labels final (at_start after) (record { rules = All-nil (HoldsRule labels); checks = All-nil (HoldsCheck labels) }, refl)

  over_new : (xs : List Label) → All (IsLabelOver (length p.principals)) xs → All (IsLabelOver (length (system_of after).principals)) xs
  over_new xs all = subst (λ (ns : List (List ℕ)). All (IsLabelOver (length ns)) xs) (sym (same_principals after.body after (Block 0) (at_start after))) all

  labels_satisfy : Satisfies (system_of after) labels
  labels_satisfy =
      let tied' = result.is.tied in
      let many_slots = length-map-range_with_len result.slots 0 made.next in
      let many_blocks = length-map-range_with_len result.blocks 0 made.blocks in
      record {
        solves =
            record {
              labelling =
                  record {
                    slots = many_slots ∙ sym (same_slots after.body after (Block 0) (at_start after) ∙ tied'.sized);
                    blocks = many_blocks ∙ sym done.1;
                    slot_labels =
                        over_new labels.slots
                        (All-from_get_or (IsLabelOver (length p.principals)) labels.slots no_label (λ k lt.
                        let low : k < made.next = omega (arith, lt, many_slots) in subst (IsLabelOver (length p.principals)) (sym (final.slots k low)) (tied'.slots_over k low)));
                    block_labels =
                        over_new labels.blocks
                        (All-from_get_or (IsLabelOver (length p.principals)) labels.blocks no_label (λ b lt.
                        let low : b < made.blocks = omega (arith, lt, many_blocks) in subst (IsLabelOver (length p.principals)) (sym (final.blocks b low)) (tied'.blocks_over b low)));
                  };
              rules = done.0.rules;
            };
        checks = done.0.checks;
      }

  pub keeps : KeepsLabels hides p l
  keeps =
      record {
        labels = labels;
        satisfies = labels_satisfy;
        kept = λ x lt.
            let size : length made.table ≡ 0 + length (slots_made p.body) = (body_grows hides p l slots_over blocks_over p.body [] 0 made_at_start placed_at_start).size in
            let e = many_made in
            let low : x.0 < length made.table = omega (arith, size, e, lt) in
            final.slots (slice_index made.table x.0) (result.is.tied.low x.0 low) ∙ result.is.tied.same x.0 low;
      }

-- so its least labels are no more than the old ones
pub least_kept : (hides : SlotId → Bool) (p : NormalForm) (l l' : Labels) → IsWellMade p → IsLeast (system_of p) l → IsLeast (system_of (with_selections hides p)) l' → (x : SlotId) → x.0 < length p.slots
    → LabelActsFor (label_at l (Slot x)) (label_at l' (Slot (new_slot hides p x)))
least_kept hides p l l' well least least' x lt =
    let k = keeps hides p l well least.is in
    let at = Slot (new_slot hides p x) in
    let below = least'.below k.labels k.satisfies in
    record {
      conf = subst (λ (z : Label). ActsFor z.conf (label_at l' at).conf) (k.kept x lt) (below (conf at));
      integ = subst (λ (z : Label). ActsFor z.integ (label_at l' at).integ) (k.kept x lt) (below (integ at));
    }

-- and the turned program has a labelling where the old one has
pub turned_labelled : (hides : SlotId → Bool) (p : NormalForm) (l : Labels) → IsWellMade p → Satisfies (system_of p) l → CanBeLabelled (system_of (turned_where_boolean hides p))
turned_labelled hides p l well satisfies = by (has_boolean_guards p) (some_hidden hides p && is_within (with_selections hides p))
  where
    by : (b c : Bool) → CanBeLabelled (system_of (if b then (if c then with_selections hides p else p) else p))
    by true true = let k = keeps hides p l well satisfies in record { labels = k.labels; satisfies = k.satisfies }
    by true false = record { labels = l; satisfies = satisfies }
    by false c = record { labels = l; satisfies = satisfies }
