-- What acts for what, among formulas over the same names.
use Rattle.std.proofs.Common.{◌≡◌, ℕ, ◌^◌, ◌<◌, ◌≤◌, Bool, true, not, ◌&&◌, ◌||◌, sym, ap, ◌∙◌, refl, subst, arith, inl, inr, ◌⊎◌}
use Rattle.std.specs.Prelude.{bit_and}
use Rattle.std.specs.List.{list_all}
use Rattle.std.proofs.lemmas.Bool.{cases_Bool, true≢false, and_parts, and_from, or_cases, or_left, or_right}
use Rattle.std.proofs.lemmas.Nat.{and_le_l}
use Rattle.vd_formula.specs.TruthTable.{TruthTable, at, sets, ActsFor, IsFormula, any_of, both_of, either_of, implies_of}
use Rattle.vd_formula.proofs.Tables.{table, at-formula_where, at_each_set, all_sets_from, both_is}
use Rattle.vd_formula.proofs.Implies.{if_so, then_so, at-implies_sound, at-implies_complete}

pub acts_refl : (f : TruthTable) → ActsFor f f
acts_refl f set low here = here

pub acts_trans : (f g h : TruthTable) → f.names ≡ g.names → ActsFor f g → ActsFor g h → ActsFor f h
acts_trans f g h names first second set low here = second set (subst (λ n. set < 2 ^ n) names low) (first set low here)

-- ---- it acts, or it does not
pub acts_or_not : (f g : TruthTable) → ActsFor f g ⊎ (ActsFor f g → ⊥)
acts_or_not f g =
    let test : ℕ → Bool = λ set. not (at f set) || at g set in
    elim (cases_Bool (list_all test (sets f.names))) [
      | inl all ↦ inl (λ set low. if_so (at f set) (at g set) (at_each_set f.names test all set low))
      | inr fails ↦ inr (λ acts. true≢false (sym (all_sets_from f.names test (λ set low. then_so (at f set) (at g set) (acts set low))) ∙ fails))
    ]

-- ---- the formula that is true at every set
pub acts_for_any : (n : ℕ) (f : TruthTable) → f.names ≡ n → ActsFor f (any_of n)
unfolding any_of
acts_for_any n f names set low here = at-formula_where n (λ s. true) set (subst (λ k. set < 2 ^ k) names low)

pub names-any : (n : ℕ) → (any_of n).names ≡ n
unfolding any_of
names-any n = refl

-- ---- conjunction
pub both_first : (f g : TruthTable) → ActsFor (both_of f g) f
unfolding both_of
both_first f g set low here = (and_parts (at f set) (at g set) (sym (at-formula_where f.names (λ s. at f s && at g s) set low) ∙ here)).0

pub both_second : (f g : TruthTable) → ActsFor (both_of f g) g
unfolding both_of
both_second f g set low here = (and_parts (at f set) (at g set) (sym (at-formula_where f.names (λ s. at f s && at g s) set low) ∙ here)).1

pub acts_for_both : (h f g : TruthTable) → h.names ≡ f.names → ActsFor h f → ActsFor h g → ActsFor h (both_of f g)
unfolding both_of
acts_for_both h f g names first second set low here =
    at-formula_where f.names (λ s. at f s && at g s) set (subst (λ n. set < 2 ^ n) names low) ∙ and_from _ _ (first set low here) (second set low here)

pub names-both : (f g : TruthTable) → (both_of f g).names ≡ f.names
unfolding both_of
names-both f g = refl

-- where one does not act for the other, their conjunction is true at fewer sets
pub both_less : (f g : TruthTable) → IsFormula f → IsFormula g → f.names ≡ g.names → (ActsFor f g → ⊥) → (both_of f g).truths < f.truths
unfolding both_of
both_less f g is_f is_g names fails =
    let same : bit_and f.truths g.truths ≡ (both_of f g).truths = ap (λ (t : TruthTable). t.truths) (both_is f g is_f is_g names) in
    let less : bit_and f.truths g.truths ≤ f.truths = and_le_l f.truths g.truths in
    let differs : (both_of f g).truths ≡ f.truths → ⊥ = λ e. fails (subst (λ (t : TruthTable). ActsFor t g) (ap (table f.names) e) (both_second f g)) in
    omega (arith, differs)

-- ---- disjunction
pub either_grows : (f g h : TruthTable) → f.names ≡ g.names → ActsFor g h → ActsFor (either_of f g) (either_of f h)
unfolding either_of
either_grows f g h names acts set low here =
    at-formula_where f.names (λ s. at f s || at h s) set low
    ∙ (elim (or_cases (at f set) (at g set) (sym (at-formula_where f.names (λ s. at f s || at g s) set low) ∙ here)) [
      | inl first ↦ or_left _ _ first
      | inr second ↦ or_right _ _ (acts set (subst (λ n. set < 2 ^ n) names low) second)
    ])

-- ---- the weakest formula whose conjunction with f acts for another
names-implies : (f g : TruthTable) → (implies_of f g).names ≡ f.names
unfolding implies_of
names-implies f g = refl

pub implies_grows : (f g h : TruthTable) → IsFormula f → IsFormula g → IsFormula h → f.names ≡ g.names → f.names ≡ h.names → ActsFor g h → ActsFor (implies_of f g) (implies_of f h)
implies_grows f g h is_f is_g is_h names_g names_h acts set in_first here =
    let low : set < 2 ^ f.names = subst (λ n. set < 2 ^ n) (names-implies f g) in_first in
    at-implies_complete f h is_f is_h names_h set low (λ larger below within f_true.
    acts larger (subst (λ n. larger < 2 ^ n) names_g below) (at-implies_sound f g is_f is_g names_g set larger low below within here f_true))
