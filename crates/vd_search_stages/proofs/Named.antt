-- The usual shifts name uses and protocols of their problem.
use Rattle.std.proofs.Common.{◌≡◌, ℕ, zero, suc, ◌+◌, ◌<◌, ◌≤◌, true, false, Option, Some, None, List, [], ◌∷◌, ◌++◌, length, sym, ◌∙◌, subst, arith, ℤ, pos, negsuc}
use Rattle.std.specs.List.{AllByRecursion}
use Rattle.std.proofs.lemmas.Bool.{cond_both}
use Rattle.vd_search_tree.specs.Texts.{IsShift}
use Rattle.vd_search_tree.specs.declared.shift.Shift.{Shift}
use Rattle.vd_space.specs.declared.problem.Problem.{Problem}
use Rattle.vd_space.specs.declared.problem.Use.{Use}
use Rattle.vd_space.specs.Validity.{protocols, is_candidate}
use Rattle.vd_space.specs.Bounds.{least_at, shifted_one, shifted_use}
use Rattle.vd_space.specs.Usual.{with_amount, shift_to, from_target, to_source, in_list_order, usual_from, usual}
use Rattle.vd_search_stages.specs.Naming.{NamesUse}

record Names (uses choices : ℕ) (shift : Shift) : Type 0 where
  at : shift.at < uses
  proto : shift.proto < choices
  side : shift.side ≤ 1
  some : 1 ≤ shift.amount

push : (P : Shift → Type 0) (xs : List Shift) (x : Shift) → AllByRecursion P xs → P x → AllByRecursion P (xs ++ x ∷ [])
push P [] x all is = (is, tt)
push P (y ∷ ys) x all is = (all.0, push P ys x all.1 is)

module _ (problem : Problem) (uses : ℕ) where
  abbrev Good : List Shift → Type 0
  Good shifts = AllByRecursion (Names uses (length (protocols problem))) shifts

  amount_good : (amount : Option ℤ) (make : ℕ → Shift) (shifts : List Shift) → ((n : ℕ) → Names uses (length (protocols problem)) (make (suc n))) → Good shifts → Good (with_amount amount make shifts)
  amount_good None make shifts is good = good
  amount_good (Some (negsuc n)) make shifts is good = good
  amount_good (Some (pos zero)) make shifts is good = good
  amount_good (Some (pos (suc n))) make shifts is good = push (Names uses (length (protocols problem))) shifts (make (suc n)) good (is n)

  target_good : (at : ℕ) (u : Use) → at < uses → (p : ℕ) (shifts : List Shift) → p < length (protocols problem) → Good shifts → Good (from_target problem at u p shifts)
  target_good at u lt p shifts low good =
      cond_both (is_candidate problem u.target.0 p) (with_amount ((shifted_one problem shifts u.target.0).value p) (shift_to at 1 p false) shifts) shifts Good
      (λ e. amount_good ((shifted_one problem shifts u.target.0).value p) (shift_to at 1 p false) shifts (λ n. record { at = lt; proto = low; side = omega arith; some = omega arith }) good)
      (λ e. good)

  source_good : (at : ℕ) (u : Use) → at < uses → (p : ℕ) (shifts : List Shift) → p < length (protocols problem) → Good shifts → Good (to_source problem at u p shifts)
  source_good at u lt p shifts low good =
      cond_both (is_candidate problem u.source.0 p) (with_amount (least_at problem [] u.target.0 ((shifted_use problem shifts at u).value p)) (shift_to at 0 p true) shifts) shifts Good
      (λ e. amount_good (least_at problem [] u.target.0 ((shifted_use problem shifts at u).value p)) (shift_to at 0 p true) shifts (λ n. record { at = lt; proto = low; side = omega arith; some = omega arith }) good)
      (λ e. good)

  order_good : (step : ℕ → List Shift → List Shift) → ((p : ℕ) (shifts : List Shift) → p < length (protocols problem) → Good shifts → Good (step p shifts)) → (n : ℕ) (shifts : List Shift) → n ≤ length (protocols problem) → Good shifts → Good (in_list_order step n shifts)
  order_good step kept zero shifts le good = good
  order_good step kept (suc n) shifts le good = kept n (in_list_order step n shifts) (omega arith) (order_good step kept n shifts (omega arith) good)

  from_good : (at : ℕ) (us : List Use) → at + length us ≤ uses → Good (usual_from problem at us)
  from_good at [] le = tt
  from_good at (u ∷ us) le =
      let n = length (protocols problem) in
      let lt : at < uses = omega arith in
      order_good (to_source problem at u) (source_good at u lt) n (in_list_order (from_target problem at u) n (usual_from problem (at + 1) us)) (omega arith)
      (order_good (from_target problem at u) (target_good at u lt) n (usual_from problem (at + 1) us) (omega arith) (from_good (at + 1) us (omega arith)))

-- with amounts that fit, they can stand in a certificate
joined : (problem : Problem) (shifts : List Shift) → length problem.uses ≤ 2048 → length (protocols problem) ≤ 64 → AllByRecursion (Names (length problem.uses) (length (protocols problem))) shifts
    → AllByRecursion (λ (shift : Shift). shift.amount < 4294967296) shifts → AllByRecursion (NamesUse problem) shifts
joined problem [] few_uses few good small = tt
joined problem (shift ∷ shifts) few_uses few good small = (
  record { at = (good.0).at; proto = (good.0).proto; is = is good.0 small.0 },
  joined problem shifts few_uses few good.1 small.1,
)
  where
    is : Names (length problem.uses) (length (protocols problem)) shift → shift.amount < 4294967296 → IsShift shift
    is names fits = record { at = let a = names.at in omega arith; side = names.side; proto = let a = names.proto in omega arith; some = names.some; amount = omega arith }

pub usual_named : (problem : Problem) (shifts : List Shift) → shifts ≡ usual problem → length problem.uses ≤ 2048 → length (protocols problem) ≤ 64
    → AllByRecursion (λ (shift : Shift). shift.amount < 4294967296) shifts → AllByRecursion (NamesUse problem) shifts
usual_named problem shifts is few_uses few small =
    joined problem shifts few_uses few (subst (AllByRecursion (Names (length problem.uses) (length (protocols problem)))) (sym is) (from_good problem (length problem.uses) 0 problem.uses (omega arith))) small
