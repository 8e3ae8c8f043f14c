-- Which slots may bring a host in.
use Rattle.std.proofs.Common.{◌≡◌, ℕ, zero, suc, ◌+◌, ◌-◌, ◌<◌, ◌≤◌, Bool, true, false, ◌||◌, ◌&&◌, List, [], filter, length, get_or, refl, sym, ap, ap₂, ◌∙◌, subst, arith, inl, inr}
use Rattle.std.specs.List.{list_any, range_with_len}
use Rattle.std.specs.Option.{option_map_or}
use Rattle.std.proofs.lemmas.Bool.{cases_lt}
use Rattle.std.proofs.lemmas.List.{get_or_past, length-map}
use Rattle.std.proofs.lemmas.Option.{slice_get_past}
use Rattle.vd_base.specs.declared.ids.HostId.{HostId}
use Rattle.vd_base.specs.declared.ids.SlotId.{SlotId}
use Rattle.vd_space.specs.declared.problem.Problem.{Problem}
use Rattle.vd_space.specs.declared.problem.Making.{Making}
use Rattle.vd_space.specs.declared.problem.Guard.{Guard}
use Rattle.vd_cost_network_prefix.specs.declared.made.SwitchTable.{SwitchTable}
use Rattle.vd_space.specs.Labelled.{IsLabelled}
use Rattle.vd_space.specs.Validity.{protocols, can_stand, holds_at, is_candidate}
use Rattle.vd_space.proofs.Front.{few_in}
use Rattle.vd_space_prefix.specs.Transfers.{by_place}
use Rattle.vd_space_prefix.proofs.Front.{candidates, size_by_place, at_place}
use Rattle.vd_space_tables.specs.Prices.{candidates_of}
use Rattle.vd_space_tables.proofs.Front.{candidates_at}
use Rattle.vd_space.specs.Points.{may_bring}
use Rattle.vd_cost_network_tables.specs.Tables.{is_kept, switch_table}

any_same : (f g : ℕ → Bool) (first n : ℕ) → ((k : ℕ) → first ≤ k → k < first + n → f k ≡ g k) → list_any f (range_with_len first n) ≡ list_any g (range_with_len first n)
any_same f g first zero same = refl
any_same f g first (suc n) same = ap₂ (λ a b. a || b) (same first (omega arith) (omega arith)) (any_same f g (first + 1) n (λ k low high. same k (omega (arith, low)) (omega (arith, high))))

any_none : (f : ℕ → Bool) (first n : ℕ) → ((k : ℕ) → f k ≡ false) → list_any f (range_with_len first n) ≡ false
any_none f first zero none = refl
any_none f first (suc n) none = ap₂ (λ a b. a || b) (none first) (any_none f (first + 1) n none)

one_left : (k n : ℕ) → k < n → n - k ≡ suc (n - (k + 1))
one_left k n low = omega (arith, low)

-- a number that does not pass, one that does, and the end
pub any_passed : (f : ℕ → Bool) (k n : ℕ) → k < n → f k ≡ false → list_any f (range_with_len k (n - k)) ≡ list_any f (range_with_len (k + 1) (n - (k + 1)))
any_passed f k n low none = ap (λ m. list_any f (range_with_len k m)) (one_left k n low) ∙ ap (λ b. b || list_any f (range_with_len (k + 1) (n - (k + 1)))) none

pub any_found : (f : ℕ → Bool) (k n : ℕ) → k < n → f k ≡ true → list_any f (range_with_len k (n - k)) ≡ true
any_found f k n low found = ap (λ m. list_any f (range_with_len k m)) (one_left k n low) ∙ ap (λ b. b || list_any f (range_with_len (k + 1) (n - (k + 1)))) found

pub any_ended : (f : ℕ → Bool) (k n : ℕ) → n ≤ k → list_any f (range_with_len k (n - k)) ≡ false
any_ended f k n past = let none : n - k ≡ 0 = omega (arith, past) in ap (λ m. list_any f (range_with_len k m)) none

row_past : (problem : Problem) (slot : ℕ) → length problem.slots ≤ slot → get_or (candidates_of problem) slot [] ≡ []
row_past problem slot past =
    let stands : Making → List Bool = λ making. by_place (length (protocols problem)) (can_stand problem making) in
    get_or_past (candidates_of problem) slot [] (subst (λ n. n ≤ slot) (sym (length-map problem.slots stands)) past)

pub few_tests : (problem : Problem) (slot : ℕ) → IsLabelled problem → length (get_or (candidates_of problem) slot []) < 4294967296
few_tests problem slot labelled = elim (cases_lt slot (length problem.slots)) [
  | inl low ↦
      let size = ap length (candidates_at problem slot low) in
      let many = size_by_place (length (protocols problem)) (is_candidate problem slot) in
      let few = few_in problem labelled in
      omega (arith, size, many, few)
  | inr past ↦ let size = ap length (row_past problem slot past) in omega (arith, size)
]

pub may_bring_is : (problem : Problem) (h : HostId) (slot : SlotId)
    → list_any (is_kept (protocols problem) (get_or (candidates_of problem) slot.0 []) h) (range_with_len 0 (length (get_or (candidates_of problem) slot.0 []))) ≡ may_bring problem h slot
may_bring_is problem h slot =
    let list = protocols problem in
    let many = length list in
    elim (cases_lt slot.0 (length problem.slots)) [
      | inl low ↦
          ap (λ tests. list_any (is_kept list tests h) (range_with_len 0 (length tests))) (candidates_at problem slot.0 low)
          ∙ ap (λ n. list_any (is_kept list (candidates problem slot.0) h) (range_with_len 0 n)) (size_by_place many (is_candidate problem slot.0))
          ∙ any_same (is_kept list (candidates problem slot.0) h) (λ p. is_candidate problem slot.0 p && holds_at problem h p) 0 many
          (λ p start high. ap (λ b. b && holds_at problem h p) (at_place many (is_candidate problem slot.0) p false (omega (arith, high))))
      | inr past ↦
          ap (λ tests. list_any (is_kept list tests h) (range_with_len 0 (length tests))) (row_past problem slot.0 past)
          ∙ sym (any_none (λ p. is_candidate problem slot.0 p && holds_at problem h p) 0 many
          (λ p. ap (λ o. option_map_or (λ making. can_stand problem making p) o false && holds_at problem h p) (slice_get_past problem.slots slot.0 past)))
    ]

pub members_same : (problem : Problem) (number : ℕ) (guard : Guard) (h : HostId) (found slots : List SlotId) → slots ≡ guard.slots → found ≡ filter (may_bring problem h) slots
    → ◌≡◌ {A = SwitchTable} (record { guard = number; host = h; members = found }) (switch_table problem number guard h)
members_same problem number guard h found slots same is = λ i. record { guard = number; host = h; members = (is ∙ ap (filter (may_bring problem h)) same) i }
