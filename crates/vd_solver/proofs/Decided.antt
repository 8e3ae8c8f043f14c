-- Whether a system keeps what every system keeps is decided.
use Rattle.std.proofs.Common.{◌≡◌, ℕ, zero, suc, ◌^◌, ◌<◌, ◌≤◌, Bool, List, length, sym, ◌∙◌, subst, arith, inl, inr, ◌⊎◌}
use Rattle.std.specs.Prelude.{All, IsTrue}
use Rattle.std.proofs.lemmas.Bool.{cases_Bool, cases_eq, cases_lt, true≢false}
use Rattle.vd_formula.specs.TruthTable.{TruthTable, at, is_subset, IsFormula, IsMonotone}
use Rattle.vd_formula.proofs.Front.{subset-le}
use Rattle.vd_constraints.specs.declared.system.Place.{Place}
use Rattle.vd_constraints.specs.declared.system.Place.TheVariants.{Slot, Block}
use Rattle.vd_constraints.specs.declared.system.Bound.{Bound}
use Rattle.vd_constraints.specs.declared.system.Bound.TheVariants.{Constant, Same, Given, Or}
use Rattle.vd_constraints.specs.declared.system.Lower.{Lower}
use Rattle.vd_constraints.specs.declared.system.Check.{Check}
use Rattle.vd_constraints.specs.Systems.{Constraints, IsOver, IsPlaceIn, IsBoundIn, IsRuleIn, IsCheckIn, IsRuleOf, IsCheckOf, IsSystem}
use Rattle.vd_constraints.proofs.Front.{item_has, all_or_first}

-- it holds, or it does not
abbrev pub Decided : Type 0 → Type 0
Decided P = P ⊎ (P → ⊥)

-- ---- of numbers and tests
less_or_not : (m n : ℕ) → Decided (m < n)
less_or_not m n = elim (cases_lt m n) [ inl less ↦ inl less | inr more ↦ inr (λ less. absurd (omega arith)) ]

at_most_or_not : (m n : ℕ) → Decided (m ≤ n)
at_most_or_not m n = elim (cases_lt n m) [ inl less ↦ inr (λ most. absurd (omega arith)) | inr most ↦ inl most ]

true_or_not : (b : Bool) → Decided (IsTrue b)
true_or_not b = elim (cases_Bool b) [ inl holds ↦ inl holds | inr fails ↦ inr (λ holds. true≢false (sym holds ∙ fails)) ]

-- ---- of what is made of others
both_or_not : (P Q : Type 0) → Decided P → Decided Q → Decided (P × Q)
both_or_not P Q (inr fails) q = inr (λ both. fails both.0)
both_or_not P Q (inl p) (inr fails) = inr (λ both. fails both.1)
both_or_not P Q (inl p) (inl q) = inl (p, q)

leads_or_not : (P Q : Type 0) → Decided P → Decided Q → Decided (P → Q)
leads_or_not P Q (inr fails) q = inl (λ p. absurd (fails p))
leads_or_not P Q (inl p) (inl q) = inl (λ _. q)
leads_or_not P Q (inl p) (inr fails) = inr (λ leads. fails (leads p))

same_or_not : (P Q : Type 0) → (P → Q) → (Q → P) → Decided P → Decided Q
same_or_not P Q to from (inl p) = inl (to p)
same_or_not P Q to from (inr fails) = inr (λ q. fails (from q))

-- at all numbers below a bound
below_or_not : (P : ℕ → Type 0) → ((i : ℕ) → Decided (P i)) → (n : ℕ) → Decided ((i : ℕ) → i < n → P i)
below_or_not P decide zero = inl (λ i low. absurd (omega arith))
below_or_not P decide (suc n) = elim (below_or_not P decide n) [
  | inr fails ↦ inr (λ all. fails (λ i low. all i (omega arith)))
  | inl all ↦ elim (decide n) [
    | inr fails ↦ inr (λ more. fails (more n (omega arith)))
    | inl has ↦ inl (λ i low. elim (cases_eq n i) [ inl last ↦ subst P last has | inr early ↦ all i (omega (arith, early)) ])
  ]
]

-- at all items of a list
all_or_not : {X : Type 0} (P : X → Type 0) → ((x : X) → Decided (P x)) → (list : List X) → Decided (All P list)
all_or_not P decide list = elim (all_or_first P decide list) [
  | inl all ↦ inl all
  | inr found ↦ inr (λ all. found.1.fails (item_has P list P all found.0 found.1))
]

-- ---- of formulas
abbrev Grows : TruthTable → ℕ → ℕ → Type 0
Grows f larger set = IsTrue (is_subset set larger) → IsTrue (at f set) → IsTrue (at f larger)

grows_or_not : (f : TruthTable) (larger set : ℕ) → Decided (Grows f larger set)
grows_or_not f larger set =
    leads_or_not (IsTrue (is_subset set larger)) (IsTrue (at f set) → IsTrue (at f larger)) (true_or_not (is_subset set larger))
    (leads_or_not (IsTrue (at f set)) (IsTrue (at f larger)) (true_or_not (at f set)) (true_or_not (at f larger)))

-- a set within a larger one is among as many sets
abbrev GrowsBelow : TruthTable → Type 0
GrowsBelow f = (larger : ℕ) → larger < 2 ^ f.names → (set : ℕ) → set < 2 ^ f.names → Grows f larger set

low_subset : (n set larger : ℕ) → larger < n → IsTrue (is_subset set larger) → set < n
low_subset n set larger low within = let less = subset-le set larger within in omega arith

monotone_or_not : (f : TruthTable) → Decided (IsMonotone f)
monotone_or_not f =
    let sets = 2 ^ f.names in
    same_or_not (GrowsBelow f) (IsMonotone f)
    (λ all set larger low within. all larger low set (low_subset sets set larger low within) within)
    (λ monotone larger low set _. monotone set larger low)
    (below_or_not (λ larger. (set : ℕ) → set < sets → Grows f larger set) (λ larger. below_or_not (Grows f larger) (grows_or_not f larger) sets) sets)

formula_or_not : (f : TruthTable) → Decided (IsFormula f)
formula_or_not f =
    let Few : Type 0 = f.names ≤ 6 in
    let Small : Type 0 = f.truths < 2 ^ (2 ^ f.names) in
    same_or_not (Few × (Small × IsMonotone f)) (IsFormula f)
    (λ facts. record { few_names = facts.0; no_other_bits = facts.1.0; monotone = facts.1.1 })
    (λ is. (is.few_names, (is.no_other_bits, is.monotone)))
    (both_or_not Few (Small × IsMonotone f) (at_most_or_not f.names 6) (both_or_not Small (IsMonotone f) (less_or_not f.truths (2 ^ (2 ^ f.names))) (monotone_or_not f)))

over_or_not : (names : ℕ) (f : TruthTable) → Decided (IsOver names f)
over_or_not names f =
    same_or_not (IsFormula f × (f.names ≡ names)) (IsOver names f)
    (λ facts. record { is_formula = facts.0; over = facts.1 })
    (λ is. (is.is_formula, is.over))
    (both_or_not (IsFormula f) (f.names ≡ names) (formula_or_not f) (cases_eq f.names names))

-- ---- of rules and checks
module _ (names slots blocks : ℕ) where
  place_or_not : (at : Place) → Decided (IsPlaceIn slots blocks at)
  place_or_not (Slot x) = less_or_not x.0 slots
  place_or_not (Block b) = less_or_not b blocks

  bound_or_not : (bound : Bound) → Decided (IsBoundIn names slots blocks bound)
  bound_or_not (Constant f) = over_or_not names f
  bound_or_not (Same part) = place_or_not part.at
  bound_or_not (Given f part) = both_or_not (IsOver names f) (IsPlaceIn slots blocks part.at) (over_or_not names f) (place_or_not part.at)
  bound_or_not (Or f part) = both_or_not (IsOver names f) (IsPlaceIn slots blocks part.at) (over_or_not names f) (place_or_not part.at)

  rule_or_not : (rule : Lower) → Decided (IsRuleIn names slots blocks rule)
  rule_or_not rule =
      let Within : Type 0 = IsPlaceIn slots blocks rule.part.at in
      let Bounded : Type 0 = IsBoundIn names slots blocks rule.bound in
      same_or_not (Within × Bounded) (IsRuleIn names slots blocks rule)
      (λ facts. record { part = facts.0; bound = facts.1 })
      (λ is. (is.part, is.bound))
      (both_or_not Within Bounded (place_or_not rule.part.at) (bound_or_not rule.bound))

  check_or_not : (check : Check) → Decided (IsCheckIn names slots blocks check)
  check_or_not check =
      let Over : Type 0 = IsOver names check.constant in
      let Within : Type 0 = IsPlaceIn slots blocks check.part.at in
      same_or_not (Over × Within) (IsCheckIn names slots blocks check)
      (λ facts. record { constant = facts.0; part = facts.1 })
      (λ is. (is.constant, is.part))
      (both_or_not Over Within (over_or_not names check.constant) (place_or_not check.part.at))

-- ---- of systems
pub system_or_not : (s : Constraints) → IsSystem s ⊎ (IsSystem s → ⊥)
system_or_not s =
    let names = length s.principals in
    let Few : Type 0 = names ≤ 6 in
    let Rules : Type 0 = All (IsRuleOf s) s.lower in
    let Checks : Type 0 = All (IsCheckOf s) s.checks in
    let FewRules : Type 0 = length s.lower < 2 ^ 32 in
    let FewChecks : Type 0 = length s.checks < 2 ^ 32 in
    same_or_not ((Few × (FewRules × FewChecks)) × (Rules × Checks)) (IsSystem s)
    (λ facts. record { few_principals = facts.0.0; rules = facts.1.0; checks = facts.1.1; few_rules = facts.0.1.0; few_checks = facts.0.1.1 })
    (λ is. ((is.few_principals, (is.few_rules, is.few_checks)), (is.rules, is.checks)))
    (both_or_not (Few × (FewRules × FewChecks)) (Rules × Checks)
    (both_or_not Few (FewRules × FewChecks) (at_most_or_not names 6)
    (both_or_not FewRules FewChecks (less_or_not (length s.lower) (2 ^ 32)) (less_or_not (length s.checks) (2 ^ 32))))
    (both_or_not Rules Checks (all_or_not (IsRuleOf s) (rule_or_not names s.slots s.blocks) s.lower) (all_or_not (IsCheckOf s) (check_or_not names s.slots s.blocks) s.checks)))
