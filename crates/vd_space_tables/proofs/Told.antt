-- What tellings of guards mean for a problem.
use Rattle.std.proofs.Common.{◌≡◌, ℕ, ◌<◌, Option, Some, List, [], length, map, get_or, sym, ap, ap₂, ◌∙◌, subst, arith, ℤ, pos, inl, inr, slice_get, cond}
use Rattle.std.specs.Prelude.{IfSome, ◌≤◌}
use Rattle.std.specs.List.{range_with_len}
use Rattle.std.specs.Option.{option_map_or, option_map}
use Rattle.std.proofs.lemmas.List.{get_or_past}
use Rattle.std.proofs.lemmas.Option.{slice_get-map, slice_get_cases}
use Rattle.vd_base.specs.declared.ids.HostId.{HostId}
use Rattle.vd_base.specs.HostSets.{host}
use Rattle.vd_space.specs.declared.problem.Problem.{Problem}
use Rattle.vd_space.specs.declared.problem.Guard.{Guard}
use Rattle.vd_space.specs.Validity.{takes_part}
use Rattle.vd_space.specs.Costs.{total, guard_term}
use Rattle.vd_space.specs.Bounds.{least_one}
use Rattle.vd_space.specs.Growth.{guard_sum}
use Rattle.vd_space.specs.Labelled.{IsLabelled}
use Rattle.vd_space.specs.Sizes.{IsWithinLimits}
use Rattle.vd_space.proofs.Front.{listed_or_not, total_same, total_map, each_below}
use Rattle.vd_space_prefix.specs.declared.guards.Telling.{Telling}
use Rattle.vd_space_prefix.specs.Guards.{IsTelling, AreTellings, told_under, told_if, guard_under}
use Rattle.vd_space_prefix.specs.Tables.{AreListed}
use Rattle.vd_space_prefix.specs.Transfers.{IsWithin}
use Rattle.vd_space_prefix.proofs.Front.{at_place, size_by_place}
use Rattle.vd_space_tables.specs.Charges.{IsCharge, told_charge_of, telling_of}
use Rattle.vd_space_tables.proofs.Small.{zero_within, told_small}
use Rattle.vd_space_tables.proofs.Charged.{one_under}

total_below : (n : ℕ) (f g : ℕ → ℤ) → ((k : ℕ) → k < n → f k ≡ g k) → total f (range_with_len 0 n) ≡ total g (range_with_len 0 n)
total_below n f g same = total_same (λ k. f k ≡ g k) f g (λ k is. is) (range_with_len 0 n) (each_below (λ k. f k ≡ g k) 0 n (λ k low. same k (subst (λ m. k < m) (omega arith) low)))

module _ (problem : Problem) (guard : Guard) where
  abbrev many : ℕ
  many = length problem.hosts

  free_at : (h : ℕ) → h < many → get_or (telling_of problem guard).free h (pos 0) ≡ (told_charge_of problem guard h).free
  free_at h low = at_place many (λ k. (told_charge_of problem guard k).free) h (pos 0) low

  costs_at : (h : ℕ) → h < many → get_or (telling_of problem guard).costs h [] ≡ (told_charge_of problem guard h).costs
  costs_at h low = at_place many (λ k. (told_charge_of problem guard k).costs) h [] low

  told_is : (prefix : List ℕ) (h : ℕ) → AreListed problem prefix → h < many → told_under (telling_of problem guard) prefix h ≡ least_one problem prefix (guard_term problem guard (host h))
  told_is prefix h listed low =
      ap₂ (λ costs free. option_map_or (λ p. get_or costs p (pos 0)) (slice_get prefix guard.slot.0) free) (costs_at h low) (free_at h low)
      ∙ sym (one_under problem (guard_term problem guard (host h)) prefix listed)

  -- under a prefix
  pub guard_is : (prefix : List ℕ) → AreListed problem prefix → guard_under problem prefix guard (telling_of problem guard) ≡ guard_sum problem prefix guard
  guard_is prefix listed =
      let f : HostId → ℤ = λ h. cond (takes_part problem prefix guard h) (least_one problem prefix (guard_term problem guard h)) (pos 0) in
      total_below many (told_if problem prefix guard (telling_of problem guard)) (λ h. f (host h)) (λ h low. ap (λ z. cond (takes_part problem prefix guard (host h)) z (pos 0)) (told_is prefix h listed low))
      ∙ sym (total_map f host (range_with_len 0 many))

  pub telling_small : IsLabelled problem → guard.weight ≤ 65536 → IsTelling (telling_of problem guard)
  telling_small labelled light = record {
    free = λ h. elim (listed_or_not many h) [
      | inl low ↦ subst (IsWithin 1073741824) (sym (free_at h low)) (each h).free
      | inr past ↦
          let size = size_by_place many (λ k. (told_charge_of problem guard k).free) in
          subst (IsWithin 1073741824) (sym (get_or_past (telling_of problem guard).free h (pos 0) (omega (arith, size, past)))) (zero_within 1073741824)
    ];
    costs = λ h p. elim (listed_or_not many h) [
      | inl low ↦ subst (λ costs. IsWithin 1073741824 (get_or costs p (pos 0))) (sym (costs_at h low)) ((each h).costs p)
      | inr past ↦
          let size = size_by_place many (λ k. (told_charge_of problem guard k).costs) in
          subst (λ costs. IsWithin 1073741824 (get_or costs p (pos 0))) (sym (get_or_past (telling_of problem guard).costs h [] (omega (arith, size, past)))) (zero_within 1073741824)
    ];
  }
    where
      each : (h : ℕ) → IsCharge 1073741824 (told_charge_of problem guard h)
      each h = told_small problem labelled guard.slot.0 guard.weight (host h) light

-- all of them
pub tellings_small : (problem : Problem) → IsLabelled problem → IsWithinLimits problem → AreTellings (map (telling_of problem) problem.guards)
tellings_small problem labelled limits number =
    let P : Option Telling → Type 0 = λ o. IfSome o IsTelling in
    subst P (sym (slice_get-map (telling_of problem) problem.guards number))
    (elim (slice_get_cases problem.guards number).1 [
      | inl found ↦
          let light : found.0.weight ≤ 65536 = subst (λ (g : Guard). g.weight ≤ 65536) found.3 (limits.guards number found.0 found.1) in
          subst (λ o. P (option_map (telling_of problem) o)) (sym found.2) (telling_small problem found.0 labelled light)
      | inr past ↦ subst (λ o. P (option_map (telling_of problem) o)) (sym past.1) tt
    ])

pub telling_at : (problem : Problem) (k : ℕ) (guard : Guard) → slice_get problem.guards k ≡ Some guard
    → (t : Telling) × (slice_get (map (telling_of problem) problem.guards) k ≡ Some t) × ((front : List ℕ) → AreListed problem front → guard_under problem front guard t ≡ guard_sum problem front guard)
telling_at problem k guard at =
    (telling_of problem guard, slice_get-map (telling_of problem) problem.guards k ∙ ap (option_map (telling_of problem)) at, guard_is problem guard)
