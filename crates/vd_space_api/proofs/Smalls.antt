-- Each least is small, and a sum over a list grows item by item.
use Rattle.std.proofs.Common.{◌≡◌, ℕ, ◌+◌, ◌*◌, ◌<◌, ◌≤◌, Option, Some, None, List, [], ◌∷◌, length, get_or, take, refl, sym, ap, ◌∙◌, subst, arith, slice_get}
use Rattle.std.specs.Prelude.{unwrap_or, All}
use Rattle.std.specs.Option.{option_and_then}
use Rattle.std.proofs.lemmas.Option.{get_or_from_slice_get, slice_get_within}
use Rattle.std.proofs.lemmas.List.{take_more, take_all}
use Rattle.vd_base.specs.declared.ids.HostId.{HostId}
use Rattle.vd_base.specs.Costs.{cost_at}
use Rattle.vd_space.specs.declared.problem.Problem.{Problem}
use Rattle.vd_space.specs.declared.problem.Making.{Making}
use Rattle.vd_space.specs.declared.problem.Use.{Use}
use Rattle.vd_space.specs.declared.problem.Index.{Index}
use Rattle.vd_space.specs.declared.problem.Output.{Output}
use Rattle.vd_space.specs.Validity.{protocols, protocol, move, move_to_host}
use Rattle.vd_space.specs.Costs.{moves_to, hosts_at}
use Rattle.vd_space.specs.Bounds.{may_stand}
use Rattle.vd_space.specs.Sizes.{heft, IsWithinLimits}
use Rattle.vd_space.proofs.Front.{heft_append, index_price, small, told_price, row_price, move_price}
use Rattle.vd_space_api.specs.Rows.{if_passes, weighed}
use Rattle.vd_space_api.proofs.Numbers.{least_low, passes_low, weighed_low}
use Rattle.vd_space_api.specs.Low.{least_place, number_left, operation_number, told_number, use_number, index_number, least_operation, least_told, least_use, least_index}

left_low : (o : Option ℕ) → unwrap_or o 0 ≤ 1000000000 → number_left o ≤ 1000000000
left_low None low = omega arith
left_low (Some n) low = low

module _ (problem : Problem) (few : length problem.hosts ≤ 4) (prefix : List ℕ) where
  place_low : (slot : ℕ) (value : ℕ → Option ℕ) → ((p : ℕ) → unwrap_or (value p) 0 ≤ 1000000000) → unwrap_or (least_place problem prefix slot value) 0 ≤ 1000000000
  place_low slot value each = least_low (length (protocols problem)) (λ p. if_passes (may_stand problem prefix slot p) (value p)) 1000000000 (λ p. passes_low (may_stand problem prefix slot p) (value p) 1000000000 (each p))

  item_low : (p : ℕ) (slot : ℕ) (item : Option Making) → ((m : Making) → item ≡ Some m → m.weight ≤ 65536) → unwrap_or (option_and_then (λ making. weighed making.weight (cost_at making.row (protocol problem p))) item) 0 ≤ 1000000000
  item_low p slot None each = omega arith
  item_low p slot (Some m) each =
      let cost = weighed_low m.weight 220 (cost_at m.row (protocol problem p)) (row_price m.row (protocol problem p) (small problem few p)) in
      let weight = each m refl in
      omega (arith, cost, weight)

  weight_at : IsWithinLimits problem → (slot : ℕ) (m : Making) → slice_get problem.slots slot ≡ Some m → m.weight ≤ 65536
  weight_at limits slot m is = subst (λ (v : Making). v.weight ≤ 65536) (get_or_from_slice_get problem.slots slot m m is) (limits.slots slot m (slice_get_within problem.slots slot m is))

  pub operation_small : IsWithinLimits problem → (slot : ℕ) → least_operation problem prefix slot ≤ 1000000000
  operation_small limits slot = left_low (least_place problem prefix slot (operation_number problem slot)) (place_low slot (operation_number problem slot) (λ p. item_low p slot (slice_get problem.slots slot) (weight_at limits slot)))

  pub told_small : (slot weight : ℕ) (h : HostId) → weight ≤ 65536 → least_told problem prefix slot weight h ≤ 1000000000
  told_small slot weight h low =
      left_low (least_place problem prefix slot (told_number problem weight h)) (place_low slot (told_number problem weight h) (λ p.
      let cost = weighed_low weight 212 (move_to_host problem h p) (told_price problem few h p) in
      omega (arith, cost, low)))

  pub use_small : (u : Use) → u.weight ≤ 65536 → least_use problem prefix u ≤ 1000000000
  use_small u low =
      left_low (least_place problem prefix u.source.0 (λ p. least_place problem prefix u.target.0 (use_number problem u p)))
      (place_low u.source.0 (λ p. least_place problem prefix u.target.0 (use_number problem u p)) (λ p. place_low u.target.0 (use_number problem u p) (λ q.
      let cost = weighed_low u.weight 212 (move problem p q) (move_price (protocol problem p) (protocol problem q) (small problem few p) (small problem few q)) in
      omega (arith, cost, low))))

  pub index_small : (i : Index) → i.weight ≤ 65536 → least_index problem prefix i ≤ 1000000000
  index_small i low =
      left_low (least_place problem prefix i.array.0 (λ p. least_place problem prefix i.index.0 (index_number problem i p)))
      (place_low i.array.0 (λ p. least_place problem prefix i.index.0 (index_number problem i p)) (λ p. place_low i.index.0 (index_number problem i p) (λ q.
      let cost = weighed_low i.weight 848 (moves_to problem q (hosts_at problem p)) (index_price problem few p q) in
      omega (arith, cost, low))))

-- ---- sums

-- a sum so far, which is at most so much for each item
pub record IsSum {X : Type 0} (f : X → ℕ) (xs : List X) (most i sum : ℕ) : Type 0 where
  pub sum_is : sum ≡ heft f (take i xs)
  pub small_sum : sum ≤ most * i

pub no_sum : {X : Type 0} (f : X → ℕ) (xs : List X) (most : ℕ) → IsSum f xs most 0 0
no_sum f xs most = record { sum_is = refl; small_sum = omega arith }

pub next_sum : {X : Type 0} (f : X → ℕ) (xs slice : List X) (d : X) (most i sum item : ℕ) → slice ≡ xs → i < length slice → IsSum f xs most i sum → item ≡ f (get_or slice i d) → item ≤ most → IsSum f xs most (i + 1) (sum + item)
next_sum f xs slice d most i sum item same low is item_is small_item =
    let size = ap length same in
    let more = ap (heft f) (take_more xs i d (omega (arith, size, low))) in
    let split = heft_append f (take i xs) (get_or xs i d ∷ []) in
    let here : item ≡ f (get_or xs i d) = item_is ∙ ap (λ s. f (get_or s i d)) same in
    let so_far = is.sum_is in
    let small_ = is.small_sum in
    record { sum_is = omega (arith, more, split, here, so_far); small_sum = omega (arith, small_, small_item) }

pub next_sum_read : {X : Type 0} (f : X → ℕ) (xs slice : List X) (x : X) (most i sum item : ℕ) → slice ≡ xs → i < length slice → x ≡ get_or slice i x → IsSum f xs most i sum → item ≡ f x → item ≤ most → IsSum f xs most (i + 1) (sum + item)
next_sum_read f xs slice x most i sum item same low read is item_is small_item = next_sum f xs slice x most i sum item same low is (item_is ∙ ap f read) small_item

pub whole_sum : {X : Type 0} (f : X → ℕ) (xs : List X) (most i sum : ℕ) → length xs ≤ i → IsSum f xs most i sum → sum ≡ heft f xs
whole_sum f xs most i sum past is = is.sum_is ∙ ap (heft f) (take_all i xs past)

-- ---- what stands in a list

abbrev pub no_use : Use
no_use = record { source = record { 0 = 0 }; target = record { 0 = 0 }; weight = 0 }

abbrev pub no_index : Index
no_index = record { array = record { 0 = 0 }; index = record { 0 = 0 }; weight = 0 }

abbrev pub no_output : Output
no_output = record { slot = record { 0 = 0 }; host = record { 0 = 0 }; weight = 0 }

pub weight_in : {X : Type 0} (weight : X → ℕ) (xs slice : List X) (d : X) (i : ℕ) → slice ≡ xs → i < length slice → All (λ x. weight x ≤ 65536) xs → weight (get_or slice i d) ≤ 65536
weight_in weight xs slice d i same low each =
    let size = ap length same in
    subst (λ s. weight (get_or s i d) ≤ 65536) (sym same) (each i d (omega (arith, size, low)))
