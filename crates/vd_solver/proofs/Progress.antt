-- How far the rules are solved: what stays while one rule after another is visited.
use Rattle.std.proofs.Common.{◌≡◌, ℕ, ◌+◌, ◌*◌, ◌<◌, ◌≤◌, false, Option, Some, None, List, [], length, get_or, refl, sym, ap, ◌∙◌, subst, arith, inl, inr, ◌⊎◌}
use Rattle.std.specs.Prelude.{Contains, IfSome}
use Rattle.std.proofs.lemmas.Bool.{cases_eq, cases_Bool, true≢false}
use Rattle.std.proofs.lemmas.List.{length-set, get_or_default, get_or-set_other}
use Rattle.std.proofs.lemmas.List.Elements.{All-contains}
use Rattle.std.proofs.Math.Nat.{mul-le-mul_right}
use Rattle.vd_formula.specs.TruthTable.{TruthTable, ActsFor, both_of}
use Rattle.vd_formula.proofs.Front.{acts_refl, acts_trans, both_first, both_second}
use Rattle.vd_constraints.specs.declared.system.Part.{Part}
use Rattle.vd_constraints.specs.declared.system.Bound.{Bound}
use Rattle.vd_constraints.specs.declared.system.Lower.{Lower}
use Rattle.vd_constraints.specs.declared.labels.Labels.{Labels}
use Rattle.vd_constraints.specs.Systems.{Constraints, IsRuleOf, IsSystem}
use Rattle.vd_constraints.specs.Satisfies.{formula_at, bound_at, HoldsRule, SolvesRules, IsLeastSolution}
use Rattle.vd_constraints.proofs.Front.{over-part}
use Rattle.vd_solver.specs.LabelsLeastRaising.{IsWithin, with_part}
use Rattle.vd_solver.proofs.Parts.{formula-same, formula-other, all_truths}
use Rattle.vd_solver.proofs.LabelsLeastRaising.{IsReached, joined, raised, low, is_labelling, raised_reached, fewer}
use Rattle.vd_solver.specs.declared.waiting.Waiting.{Waiting}
use Rattle.vd_solver.specs.Reading.{read_part, part_number, IsIndex}
use Rattle.vd_solver.specs.Visits.{IsWaiting, IsQueue, TakesRule, AddsRules}
use Rattle.vd_solver.proofs.Bounds.{bound_kept}

-- the rules that do not wait hold
pub record IsUnderWay (s : Constraints) (l : Labels) (w : Waiting) : Type 0 where
  pub reached : IsReached s l
  pub count : length w.flags.items ≡ length s.lower
  pub queue : IsQueue w
  pub settled : (rule : ℕ) (d : Lower) → rule < length s.lower → get_or w.flags.items rule false ≡ false → HoldsRule l (get_or s.lower rule d)

-- ---- one rule raises its part
module _ (s : Constraints) (l : Labels) (reached : IsReached s l) (rule : Lower) (valid : IsRuleOf s rule) where
  abbrev next : Labels
  next = raised s l reached rule valid

  within_it : IsWithin l rule.part.at
  within_it = low s l reached rule valid

  -- the part is the conjunction of what it was and of the bound
  is_joined : formula_at next rule.part ≡ joined s l reached rule valid
  is_joined = formula-same l rule.part (joined s l reached rule valid) within_it

  other_stays : (part : Part) → (formula_at next part ≡ formula_at l part) ⊎ (part ≡ rule.part)
  other_stays = formula-other l rule.part (joined s l reached rule valid) within_it

  -- every part acts for what it was
  grows : (part : Part) → ActsFor (formula_at next part) (formula_at l part)
  grows part = elim (other_stays part) [
    | inl same ↦ subst (λ (f : TruthTable). ActsFor f (formula_at l part)) (sym same) (acts_refl (formula_at l part))
    | inr e ↦ subst (λ (q : Part). ActsFor (formula_at next q) (formula_at l q)) (sym e)
        (subst (λ (f : TruthTable). ActsFor f (formula_at l rule.part)) (sym is_joined) (both_first (formula_at l rule.part) (bound_at l rule.bound)))
  ]

  -- a rule that reads another part holds where it held
  still_holds : (x : Lower) → IsRuleOf s x → HoldsRule l x → bound_at next x.bound ≡ bound_at l x.bound → HoldsRule next x
  still_holds x valid_x held same =
      subst (ActsFor (formula_at next x.part)) (sym same)
      (acts_trans (formula_at next x.part) (formula_at l x.part) (bound_at l x.bound)
      ((over-part s next (is_labelling s l reached rule valid) x.part valid_x.part).over ∙ sym (over-part s l reached.labelling x.part valid_x.part).over) (grows x.part) held)

  -- the rule itself holds where it reads another part
  now_holds : bound_at next rule.bound ≡ bound_at l rule.bound → HoldsRule next rule
  now_holds same =
      subst (ActsFor (formula_at next rule.part)) (sym same)
      (subst (λ (f : TruthTable). ActsFor f (bound_at l rule.bound)) (sym is_joined) (both_second (formula_at l rule.part) (bound_at l rule.bound)))

  -- a bound that does not read the part stays
  stays : (bound : Bound) → (read_part bound ≡ Some rule.part → ⊥) → bound_at next bound ≡ bound_at l bound
  stays bound other = bound_kept l next bound (go (read_part bound) other)
    where
      go : (read : Option Part) → (read ≡ Some rule.part → ⊥) → IfSome read (λ part. formula_at next part ≡ formula_at l part)
      go None other = tt
      go (Some part) other = elim (other_stays part) [ inl same ↦ same | inr e ↦ absurd (other (ap Some e)) ]

-- ---- one visit
module _ (s : Constraints) (system : IsSystem s) (l : Labels) (old new : Waiting) (place : ℕ) (rule : Lower) (so_far : IsUnderWay s l old) (takes : TakesRule old place new) (is : rule ≡ get_or s.lower place rule) where
  within_rules : place < length s.lower
  within_rules = let low = takes.within in let count = so_far.count in omega arith

  pub valid_rule : IsRuleOf s rule
  valid_rule = subst (IsRuleOf s) (sym is) (system.rules place rule within_rules)

  here : (r : ℕ) (d : Lower) → r ≡ place → get_or s.lower r d ≡ rule
  here r d e = ap (λ k. get_or s.lower k d) e ∙ get_or_default s.lower place d rule within_rules ∙ sym is

  count_kept : length new.flags.items ≡ length s.lower
  count_kept = ap length takes.flags ∙ length-set old.flags.items place false ∙ so_far.count

  -- another rule that does not wait now did not wait before
  waited : (r : ℕ) → (r ≡ place → ⊥) → get_or new.flags.items r false ≡ false → get_or old.flags.items r false ≡ false
  waited r differs not_now = sym (get_or-set_other old.flags.items place r false false differs) ∙ ap (λ xs. get_or xs r false) (sym takes.flags) ∙ not_now

  -- the rule holds
  pub after_held : HoldsRule l rule → IsUnderWay s l new
  after_held holds = record {
    reached = so_far.reached;
    count = count_kept;
    queue = takes.queue;
    settled = λ r d low not_now. elim (cases_eq r place) [
      | inl same ↦ subst (HoldsRule l) (sym (here r d same)) holds
      | inr differs ↦ so_far.settled r d low (waited r differs not_now)
    ];
  }

  solution_holds : (other : Labels) → SolvesRules s other → HoldsRule other rule
  solution_holds other solves = subst (HoldsRule other) (sym is) (solves.rules place rule within_rules)

  -- the rule is made to hold, and the rules that read its part wait
  module _ (readers : List (List ℕ)) (index : IsIndex s (length s.lower) readers) (list : List ℕ) (reads : list ≡ get_or readers (part_number s.slots rule.part) list) (number_low : part_number s.slots rule.part < length readers) (last : Waiting) (adds : AddsRules new list last) where
    -- a rule that does not wait now reads another part
    no_reader : (r : ℕ) (d : Lower) → r < length s.lower → get_or last.flags.items r false ≡ false → read_part (get_or s.lower r d).bound ≡ Some rule.part → ⊥
    no_reader r d low not_now e =
        let has : Contains (get_or readers (part_number s.slots rule.part) []) r = subst (λ (read : Option Part). IfSome read (λ part. Contains (get_or readers (part_number s.slots part) []) r)) e (index.complete r d low) in
        let among : Contains list r = subst (λ xs. Contains xs r) (get_or_default readers (part_number s.slots rule.part) [] list number_low ∙ sym reads) has in
        true≢false (sym (All-contains (IsWaiting last) list r adds.added among) ∙ not_now)

    not_before : (r : ℕ) → get_or last.flags.items r false ≡ false → get_or new.flags.items r false ≡ false
    not_before r not_now = elim (cases_Bool (get_or new.flags.items r false)) [
      | inl waits ↦ absurd (true≢false (sym (adds.kept r waits) ∙ not_now))
      | inr off ↦ off
    ]

    pub after_raised : (after : Labels) → after ≡ with_part l rule.part (both_of (formula_at l rule.part) (bound_at l rule.bound)) → IsUnderWay s after last
    after_raised after e = subst (λ (k : Labels). IsUnderWay s k last) (sym e) (record {
      reached = raised_reached s l so_far.reached rule valid_rule solution_holds;
      count = adds.count ∙ count_kept;
      queue = adds.queue;
      settled = λ r d low not_now.
          let same = stays s l so_far.reached rule valid_rule (get_or s.lower r d).bound (no_reader r d low not_now) in
          elim (cases_eq r place) [
            | inl at ↦ subst (HoldsRule (raised s l so_far.reached rule valid_rule)) (sym (here r d at))
                (now_holds s l so_far.reached rule valid_rule (subst (λ (x : Lower). bound_at (raised s l so_far.reached rule valid_rule) x.bound ≡ bound_at l x.bound) (here r d at) same))
            | inr differs ↦ still_holds s l so_far.reached rule valid_rule (get_or s.lower r d) (system.rules r d low) (so_far.settled r d low (waited r differs (not_before r not_now))) same
          ];
    })

    -- the measure falls
    pub measure_falls : (after : Labels) → after ≡ with_part l rule.part (both_of (formula_at l rule.part) (bound_at l rule.bound)) → (HoldsRule l rule → ⊥) → all_truths after * (length s.lower + 1) + length last.queue.items < all_truths l * (length s.lower + 1) + length old.queue.items
    measure_falls after e failed =
        let less : all_truths after < all_truths l = subst (λ (k : Labels). all_truths k < all_truths l) (sym e) (fewer s l so_far.reached rule valid_rule failed) in
        let product : (all_truths after + 1) * (length s.lower + 1) ≤ all_truths l * (length s.lower + 1) = mul-le-mul_right (length s.lower + 1) (omega arith) in
        let longer = adds.longer in
        let shorter = takes.shorter in
        let short : length list ≤ length s.lower = subst (λ xs. length xs ≤ length s.lower) (sym reads) (index.short (part_number s.slots rule.part) list number_low) in
        omega arith

-- ---- the end
pub solved : (s : Constraints) (l : Labels) (w : Waiting) → IsUnderWay s l w → w.queue.items ≡ [] → IsLeastSolution s l
solved s l w so_far none = record {
  is = record { labelling = so_far.reached.labelling; rules = λ r d low. so_far.settled r d low (idle r) };
  below = so_far.reached.below;
}
  where
    nothing : (r : ℕ) → Contains [] r → ⊥
    nothing r (k, low, e) = omega arith

    idle : (r : ℕ) → get_or w.flags.items r false ≡ false
    idle r = elim (cases_Bool (get_or w.flags.items r false)) [
      | inl waits ↦ absurd (nothing r (subst (λ xs. Contains xs r) none (so_far.queue.listed r waits)))
      | inr off ↦ off
    ]
