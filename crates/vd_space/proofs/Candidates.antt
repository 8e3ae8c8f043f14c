-- Candidates: the loop over protocols, and what stands is a candidate.
use Rattle.std.proofs.Common.{◌≡◌, ℕ, zero, suc, ◌+◌, ◌-◌, ◌<◌, Bool, false, ◌||◌, ◌&&◌, List, [], ◌∷◌, length, refl, ap, ◌∙◌, subst, arith}
use Rattle.std.specs.Prelude.{IsTrue, nat_lt, is_some}
use Rattle.std.specs.List.{list_all, list_any, range_with_len}
use Rattle.std.proofs.lemmas.Bool.{and_parts, and_from, or_left, or_right, ltb-true}
use Rattle.vd_base.specs.Costs.{cost_at}
use Rattle.vd_protocol.specs.Authority.{authority_of}
use Rattle.vd_space.specs.declared.problem.Problem.{Problem}
use Rattle.vd_space.specs.declared.problem.Making.{Making}
use Rattle.vd_space.specs.Validity.{protocols, protocol, covers, can_stand, has_candidate, stand}

-- ---- the loop over protocols: what is left decides

pub place_passed : (test : ℕ → Bool) (k n : ℕ) → k < n → test k ≡ false → list_any test (range_with_len k (n - k)) ≡ list_any test (range_with_len (k + 1) (n - (k + 1)))
place_passed test k n low fails =
    let one : n - k ≡ suc (n - (k + 1)) = omega arith in
    ap (λ m. list_any test (range_with_len k m)) one ∙ ap (λ b. b || list_any test (range_with_len (k + 1) (n - (k + 1)))) fails

-- a number of a range that passes
any_of_range : (test : ℕ → Bool) (a n k : ℕ) → k < n → IsTrue (test (k + a)) → IsTrue (list_any test (range_with_len a n))
any_of_range test a zero k low passes = absurd (omega arith)
any_of_range test a (suc n) zero low passes =
    let same : 0 + a ≡ a = omega arith in
    or_left (test a) (list_any test (range_with_len (a + 1) n)) (subst (λ m. IsTrue (test m)) same passes)
any_of_range test a (suc n) (suc k) low passes =
    let same : suc k + a ≡ k + (a + 1) = omega arith in
    or_right (test a) (list_any test (range_with_len (a + 1) n)) (any_of_range test (a + 1) n k (omega arith) (subst (λ m. IsTrue (test m)) same passes))

-- ---- what stands

-- what stands where a slot can stand is in the list of protocols
pub listed_at : (problem : Problem) (making : Making) (p : ℕ) → IsTrue (can_stand problem making p) → p < length (protocols problem)
listed_at problem making p can =
    let front = and_parts (nat_lt p (length (protocols problem)) && is_some (cost_at making.row (protocol problem p))) (covers (authority_of (protocol problem p) problem.hosts) making.label) can in
    ltb-true p (length (protocols problem)) (and_parts (nat_lt p (length (protocols problem))) (is_some (cost_at making.row (protocol problem p))) front.0).0

-- where a slot can stand is a candidate of it
pub one_stands : (problem : Problem) (making : Making) (p : ℕ) → IsTrue (can_stand problem making p) → IsTrue (has_candidate problem making)
one_stands problem making p stands =
    let same : p ≡ p + 0 = omega arith in
    any_of_range (can_stand problem making) 0 (length (protocols problem)) p (listed_at problem making p stands) (subst (λ m. IsTrue (can_stand problem making m)) same stands)

-- whatever is decided, each slot has a candidate
pub stands_have : (problem : Problem) (makings : List Making) (list : List ℕ) → IsTrue (stand problem makings list) → IsTrue (list_all (has_candidate problem) makings)
stands_have problem makings [] stands = stands
stands_have problem [] (p ∷ list) stands = refl
stands_have problem (making ∷ makings) (p ∷ list) stands =
    let parts = and_parts (can_stand problem making p) (stand problem makings list) stands in
    and_from (has_candidate problem making) (list_all (has_candidate problem) makings) (one_stands problem making p parts.0) (stands_have problem makings list parts.1)
