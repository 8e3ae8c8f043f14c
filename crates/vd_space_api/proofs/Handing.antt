-- What the two steps of a use need, and what they leave.
use Rattle.std.proofs.Common.{◌≡◌, ℕ, ◌<◌, Bool, false, Option, Some, None, List, [], length, get_or, set, sym, ap, ◌∙◌, subst, arith, inl, inr}
use Rattle.std.specs.Prelude.{option_map, unwrap_or}
use Rattle.std.proofs.lemmas.Bool.{cases_eq}
use Rattle.std.proofs.lemmas.List.{get_or_default, get_or-set_same, get_or-set_other, set_past}
use Rattle.vd_base.specs.declared.protocols.Proto.{Proto}
use Rattle.vd_base.specs.Holders.{proto_in}
use Rattle.vd_space.specs.declared.problem.Use.{Use}
use Rattle.vd_space.proofs.Front.{listed_or_not}
use Rattle.vd_space_api.specs.declared.space_shifts.ledger.Ledger.{Ledger}
use Rattle.vd_space_api.specs.Rows.{amounts_of, emptied_of, if_passes, given_from, givens_of}
use Rattle.vd_space_api.specs.Terms.{row_at}
use Rattle.vd_space_api.specs.Ledger.{AreSmall, AreSmallTerms, places_at, given_by, with_taken, with_given, handed_on}
use Rattle.vd_space_api.proofs.Burden.{amount_at_is, emptied_at, size_by}

-- a list read out of a list of lists
pub row_read : {X : Type 0} (rows slice : List (List X)) (row inner : List X) (i : ℕ) → slice ≡ rows → row ≡ get_or slice i row → i < length rows → inner ≡ row → inner ≡ get_or rows i []
row_read rows slice row inner i same is low inner_is =
    let size = ap length same in
    inner_is ∙ is ∙ get_or_default slice i row [] (omega (arith, size, low)) ∙ ap (λ s. get_or s i []) same

pub amounts_small : (terms : List (List (Option ℕ))) (slot : ℕ) → AreSmallTerms terms → AreSmall (amounts_of (row_at terms slot))
amounts_small terms slot small p = subst (λ n. n < 4294967296) (sym (amount_at_is (row_at terms slot) p)) (small slot p)

nothing_small : (o : Option ℕ) → unwrap_or (option_map (λ v. 0) o) 0 < 4294967296
nothing_small None = omega arith
nothing_small (Some v) = omega arith

pub taken_small : (terms : List (List (Option ℕ))) (slot : ℕ) → AreSmallTerms terms → AreSmallTerms (set terms slot (emptied_of (row_at terms slot)))
taken_small terms slot small s p = elim (listed_or_not (length terms) slot) [
  | inl low ↦ elim (cases_eq s slot) [
    | inl same ↦ subst (λ k. unwrap_or (get_or (row_at (set terms slot (emptied_of (row_at terms slot))) k) p None) 0 < 4294967296) (sym same)
        (subst (λ row. unwrap_or (get_or row p None) 0 < 4294967296) (sym (get_or-set_same terms slot (emptied_of (row_at terms slot)) [] low))
        (subst (λ o. unwrap_or o 0 < 4294967296) (sym (emptied_at (row_at terms slot) p)) (nothing_small (get_or (row_at terms slot) p None))))
    | inr other ↦ subst (λ row. unwrap_or (get_or row p None) 0 < 4294967296) (sym (get_or-set_other terms slot s (emptied_of (row_at terms slot)) [] other)) (small s p)
  ]
  | inr past ↦ subst (λ rows. unwrap_or (get_or (row_at rows s) p None) 0 < 4294967296) (sym (set_past terms slot (emptied_of (row_at terms slot)) past)) (small s p)
]

-- by place, what is given
pub given_is : (list : List Proto) (candidates : List (List Bool)) (u : Use) (ledger : Ledger) (source target : ℕ) (sources targets : List Bool) (taken given : List ℕ) → source ≡ u.source.0 → target ≡ u.target.0
    → sources ≡ places_at candidates source → targets ≡ places_at candidates target → taken ≡ amounts_of (row_at ledger.terms target) → given ≡ givens_of list u.weight sources targets taken → given ≡ given_by list candidates u ledger
given_is list candidates u ledger source target sources targets taken given source_is target_is sources_are targets_are taken_is is =
    let first : sources ≡ places_at candidates u.source.0 = sources_are ∙ ap (places_at candidates) source_is in
    let second : targets ≡ places_at candidates u.target.0 = targets_are ∙ ap (places_at candidates) target_is in
    let third : taken ≡ amounts_of (row_at ledger.terms u.target.0) = taken_is ∙ ap (λ k. amounts_of (row_at ledger.terms k)) target_is in
    is ∙ (λ i. givens_of list u.weight (first i) (second i) (third i))

pub handed_is : (list : List Proto) (candidates : List (List Bool)) (at : ℕ) (u : Use) (ledger between after : Ledger) (source target : ℕ) (given : List ℕ) → source ≡ u.source.0 → target ≡ u.target.0
    → between ≡ with_taken at target ledger → given ≡ given_by list candidates u ledger → after ≡ with_given at source given between → after ≡ handed_on list candidates at u ledger
handed_is list candidates at u ledger between after source target given source_is target_is between_is given_is_ after_is =
    let first : between ≡ with_taken at u.target.0 ledger = between_is ∙ ap (λ k. with_taken at k ledger) target_is in
    after_is ∙ (λ i. with_given at (source_is i) (given_is_ i) (first i))

pub givens_few : (list : List Proto) (weight : ℕ) (sources targets : List Bool) (taken given : List ℕ) → given ≡ givens_of list weight sources targets taken → length list < 256 → length given < 256
givens_few list weight sources targets taken given is few =
    let size = ap length is ∙ size_by (length list) (λ p. unwrap_or (if_passes (get_or sources p false) (given_from list weight targets taken (proto_in list p))) 0) in
    omega (arith, size, few)
