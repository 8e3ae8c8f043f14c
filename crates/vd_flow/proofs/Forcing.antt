-- Where the rules of a way hold, each of its steps keeps its group away, and so the check fails.
use Rattle.std.proofs.Common.{◌≡◌, ℕ, ◌^◌, ◌<◌, ◌≤◌, Bool, false, not, ◌&&◌, ◌||◌, List, [], ◌∷◌, length, sym, ap₂, ◌∙◌, subst, arith, inl, inr}
use Rattle.std.specs.Prelude.{All, IsTrue}
use Rattle.std.specs.List.{list_all}
use Rattle.std.proofs.lemmas.Bool.{cases_Bool, true≢false, and_from}
use Rattle.std.proofs.lemmas.List.Elements.{All-head, All-tail}
use Rattle.vd_formula.specs.TruthTable.{TruthTable, ActsFor, at, either_of, implies_of, is_subset, sets}
use Rattle.vd_formula.proofs.Front.{at-formula_where, at_each_set, if_so, subset-le}
use Rattle.vd_constraints.specs.declared.system.Part.{Part}
use Rattle.vd_constraints.specs.declared.system.Bound.{Bound}
use Rattle.vd_constraints.specs.declared.system.Bound.TheVariants.{Constant, Same, Given, Or}
use Rattle.vd_constraints.specs.declared.system.Lower.{Lower}
use Rattle.vd_constraints.specs.declared.system.Check.{Check}
use Rattle.vd_constraints.specs.declared.labels.Labels.{Labels}
use Rattle.vd_constraints.specs.Systems.{Constraints, IsBoundOf, IsRuleOf, IsSystem}
use Rattle.vd_constraints.specs.Satisfies.{HoldsRule, IsLabelling, bound_at, formula_at}
use Rattle.vd_constraints.proofs.Front.{over-part}
use Rattle.vd_flow.specs.declared.ways.Step.{Step}
use Rattle.vd_flow.specs.Ways.{IsOfRules, IsState, Keeps, Leads, Nothing, WaysMakeChecksFail, state_of}

-- ---- formulas that are false at a group

false_below : (f g : TruthTable) (group : ℕ) → group < 2 ^ f.names → ActsFor f g → at g group ≡ false → at f group ≡ false
false_below f g group low acts fails = elim (cases_Bool (at f group)) [ inl holds ↦ absurd (true≢false (sym (acts group low holds) ∙ fails)) | inr none ↦ none ]

implies_false : (f g : TruthTable) (group larger : ℕ) → group < 2 ^ f.names → larger < 2 ^ f.names → IsTrue (is_subset group larger) → IsTrue (at f larger) → at g larger ≡ false → at (implies_of f g) group ≡ false
unfolding implies_of
implies_false f g group larger low high within holds fails =
    let test : ℕ → ℕ → Bool = λ set more. not (is_subset set more && at f more) || at g more in
    elim (cases_Bool (at (implies_of f g) group)) [
      | inl here ↦
          let all : IsTrue (list_all (test group) (sets f.names)) = sym (at-formula_where f.names (λ set. list_all (test set) (sets f.names)) group low) ∙ here in
          absurd (true≢false (sym (if_so _ _ (at_each_set f.names (test group) all larger high) (and_from _ _ within holds)) ∙ fails))
      | inr none ↦ none
    ]

either_false : (f g : TruthTable) (group : ℕ) → group < 2 ^ f.names → at f group ≡ false → at g group ≡ false → at (either_of f g) group ≡ false
unfolding either_of
either_false f g group low first second = at-formula_where f.names (λ set. at f set || at g set) group low ∙ ap₂ (λ (a b : Bool). a || b) first second

-- ---- at a labelling

-- the group is kept from the part
record IsAway (s : Constraints) (l : Labels) (part : Part) (group : ℕ) : Type 0 where
  low : group < 2 ^ length s.principals
  fails : at (formula_at l part) group ≡ false

record IsAwayFrom (s : Constraints) (l : Labels) (bound : Bound) (group : ℕ) : Type 0 where
  low : group < 2 ^ length s.principals
  fails : at (bound_at l bound) group ≡ false

module _ (s : Constraints) (system : IsSystem s) (l : Labels) (labelling : IsLabelling s l) where
  module _ (Kept : Part → ℕ → Type 0) (away : (part : Part) (group : ℕ) → Kept part group → IsAway s l part group) where
    bound_away : (bound : Bound) (group : ℕ) → IsBoundOf s bound → Keeps Kept bound group → IsAwayFrom s l bound group
    bound_away (Constant f) group over keeps = record { low = subst (λ n. group < 2 ^ n) over.over keeps.low; fails = keeps.fails }
    bound_away (Same part) group there kept = let is = away part group kept in record { low = is.low; fails = is.fails }
    bound_away (Given f part) group (over, there) keeps =
        let less : group ≤ keeps.larger = subset-le group keeps.larger keeps.within in
        let high : keeps.larger < 2 ^ f.names = keeps.through.low in
        let low : group < 2 ^ f.names = omega (arith, less, high) in
        let is = away part keeps.larger keeps.kept in
        record { low = subst (λ n. group < 2 ^ n) over.over low; fails = implies_false f (formula_at l part) group keeps.larger low high keeps.within keeps.through.holds is.fails }
    bound_away (Or f part) group (over, there) (keeps, kept) =
        let is = away part group kept in
        record { low = is.low; fails = either_false f (formula_at l part) group keeps.low keeps.fails is.fails }

    rule_away : (rule : Lower) (group : ℕ) → IsRuleOf s rule → HoldsRule l rule → Keeps Kept rule.bound group → IsAway s l rule.part group
    rule_away rule group valid holds keeps =
        let is = bound_away rule.bound group valid.bound keeps in
        let names = (over-part s l labelling rule.part valid.part).over in
        record { low = is.low; fails = false_below (formula_at l rule.part) (bound_at l rule.bound) group (subst (λ n. group < 2 ^ n) (sym names) is.low) holds is.fails }

  abbrev Holds : Step → Type 0
  Holds step = HoldsRule l step.rule

  leads_away : (Kept : Part → ℕ → Type 0) → ((part : Part) (group : ℕ) → Kept part group → IsAway s l part group) → (steps : List Step) (part : Part) (group : ℕ) → All (IsOfRules s.lower) steps → All Holds steps → Leads Kept steps part group → IsAway s l part group
  leads_away Kept away [] part group among holds leads = away part group leads
  leads_away Kept away (step ∷ steps) part group among holds leads =
      let of_rules = All-head (IsOfRules s.lower) step steps among in
      let valid = subst (IsRuleOf s) of_rules.is (system.rules step.number step.rule of_rules.low) in
      let here = rule_away Kept away step.rule step.group valid (All-head Holds step steps holds) leads.0 in
      leads_away (IsState (state_of step))
      (λ q h is. subst (λ (p : Part). IsAway s l p h) is.part_is (subst (IsAway s l step.rule.part) is.group_is here))
      steps part group (All-tail (IsOfRules s.lower) step steps among) (All-tail Holds step steps holds) leads.1

pub forced : WaysMakeChecksFail
forced s check steps l system labelling way holds check_holds =
    let away = leads_away s system l labelling Nothing (λ part group none. absurd none) steps check.part way.group way.rules holds way.leads in
    true≢false (sym (check_holds way.group way.through.low way.through.holds) ∙ away.fails)
