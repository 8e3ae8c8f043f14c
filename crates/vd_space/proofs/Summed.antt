-- Without shifts, all points and arcs of a whole valid list come to its cost.
use Rattle.std.proofs.Common.{◌≡◌, ℕ, ◌+◌, ◌-◌, ◌<◌, ◌≤◌, Bool, true, false, cond, Option, Some, None, List, [], ◌∷◌, map, length, refl, ap, ◌∙◌, subst, arith, ℤ, pos, ◌-ℤ◌, ◌*ℤ◌, option_map, slice_get}
use Rattle.std.specs.Prelude.{IsTrue, if◌then◌else◌, unwrap_or}
use Rattle.std.specs.List.{range_with_len}
use Rattle.std.specs.Option.{option_and_then}
use Rattle.std.proofs.lemmas.Int.{ints}
use Rattle.vd_base.specs.declared.ids.SlotId.{SlotId}
use Rattle.vd_space.specs.declared.problem.Problem.{Problem}
use Rattle.vd_space.specs.declared.problem.Use.{Use}
use Rattle.vd_space.specs.Validity.{all_hosts, move_to_host, takes_part, is_valid}
use Rattle.vd_space.specs.Costs.{Pair, total, weigh, use_value, use_term, index_term, guard_term, guards_total, slots_of, pairs, one_at, pair_at, cost}
use Rattle.vd_space.specs.Bounds.{shifted_one, shifted_use, shifted_uses, shifted_ones, shifted_pairs}
use Rattle.vd_space.specs.Spaces.{IsProblem}
use Rattle.vd_space.proofs.Terms.{HasPair, one_is, pair_is, sum_at, total_same}
use Rattle.vd_space.proofs.Totals.{total_append, total_map, total_ext, total_zero}
use Rattle.vd_space.proofs.Valued.{decided, each_below, terms_have}
use Rattle.vd_space.proofs.Shifted.{shifted_has, shifted_sum}
use Rattle.vd_space.specs.Points.{Switch, switch_of, switches, points, may_bring, members}
use Rattle.vd_space.specs.Arcs.{parts, in_parts, guard_arc, member_arc, switch_arcs, arcs_from, arcs}
use Rattle.vd_space.proofs.Items.{within, each_filtered, each_in_range, total_flat, total_times, total_split}
use Rattle.vd_space.proofs.CostNetworkTerms.{point_at, arc_at, point_is, arc_is, network_sum_at}
use Rattle.vd_space.proofs.CostNetworkValued.{plain_one, slot_has, switch_has, pair_has, told_parts, guard_arc_has, Brings, each_brings, member_arc_has, Continues, first_switch, later_switches, all_switches, one_on, none_on, switch_is}

minus_nothing : (o : Option ℤ) → option_map (λ v. v -ℤ pos 0) o ≡ o
minus_nothing None = refl
minus_nothing (Some v) = ap Some (omega (arith, ints))

parts_times : (o : Option ℤ) → unwrap_or (parts o) (pos 0) ≡ unwrap_or o (pos 0) *ℤ pos 256
parts_times None = refl
parts_times (Some v) = refl

if_times : (test : Bool) (a b : ℤ) → a ≡ b *ℤ pos 256 → cond test a (pos 0) ≡ cond test b (pos 0) *ℤ pos 256
if_times true a b same = same
if_times false a b same = refl

-- ---- uses without shifts
module _ (problem : Problem) (list : List ℕ) where
  plain_use_at : (at : ℕ) (u : Use) (first second : Option ℕ)
      → unwrap_or (option_and_then (λ p. option_and_then ((shifted_use problem [] at u).value p) second) first) (pos 0)
      ≡ unwrap_or (option_and_then (λ p. option_and_then (use_value problem u p) second) first) (pos 0)
  plain_use_at at u None second = refl
  plain_use_at at u (Some p) None = refl
  plain_use_at at u (Some p) (Some q) = ap (λ o. unwrap_or o (pos 0)) (minus_nothing (use_value problem u p q))

  plain_use : (at : ℕ) (u : Use) → pair_at list (shifted_use problem [] at u) ≡ pair_at list (use_term problem u)
  plain_use at u = plain_use_at at u (slice_get list u.source.0) (slice_get list u.target.0)

  plain_uses : (at : ℕ) (us : List Use) → total (pair_at list) (shifted_uses problem [] at us) ≡ total (pair_at list) (map (use_term problem) us)
  plain_uses at [] = refl
  plain_uses at (u ∷ us) = let first = plain_use at u in let rest = plain_uses (at + 1) us in omega (arith, ints, first, rest)

  plain_pairs : total (pair_at list) (shifted_pairs problem []) ≡ total (pair_at list) (pairs problem)
  plain_pairs =
      let indexes = map (index_term problem) problem.indexes in
      let front = total_append (pair_at list) (shifted_uses problem [] 0 problem.uses) indexes in
      let back = total_append (pair_at list) (map (use_term problem) problem.uses) indexes in
      let same = plain_uses 0 problem.uses in
      omega (arith, ints, front, back, same)

module _ (problem : Problem) (is : IsProblem problem) (list : List ℕ) (full : length list ≡ length problem.slots) (valid : IsTrue (is_valid problem list)) where
  -- ---- points

  slot_is : (slot : ℕ) → slot < length problem.slots → point_at problem list (plain_one problem slot) ≡ one_at list (shifted_one problem [] slot) *ℤ pos 256
  unfolding slot_has
  slot_is slot low =
      let first = point_is problem list (plain_one problem slot) (slot_has problem is list full valid slot low) in
      let second = one_is problem list (shifted_one problem [] slot) (shifted_has problem is list full valid [] slot low) in
      omega (arith, ints, first, second)

  switch_is_nothing : (k : ℕ) (w : Switch) → slice_get (switches problem) k ≡ Some w → point_at problem list (plain_one problem (length problem.slots + k)) ≡ pos 0
  unfolding switch_has
  switch_is_nothing k w at = point_is problem list (plain_one problem (length problem.slots + k)) (switch_has problem is list full valid k w at)

  behind_is_nothing : (point : ℕ) → length problem.slots ≤ point → point < length problem.slots + length (switches problem) → point_at problem list (plain_one problem point) ≡ pos 0
  behind_is_nothing point high low =
      let k = point - length problem.slots in
      let w = within (switches problem) k (omega (arith, low, high)) in
      let same : length problem.slots + k ≡ point = omega (arith, high) in
      subst (λ j. point_at problem list (plain_one problem j) ≡ pos 0) same (switch_is_nothing k w.0 w.1)

  points_total : total (point_at problem list) (map (plain_one problem) (points problem)) ≡ total (one_at list) (shifted_ones problem []) *ℤ pos 256
  points_total =
      let n = length problem.slots in
      let m = length (switches problem) in
      let plain : ℕ → ℤ = λ point. point_at problem list (plain_one problem point) in
      let own : ℕ → ℤ = λ slot. one_at list (shifted_one problem [] slot) in
      let mapped = total_map (point_at problem list) (plain_one problem) (points problem) in
      let split = total_split plain 0 n m in
      let front = total_same (λ slot. slot < n) plain (λ slot. own slot *ℤ pos 256) slot_is (slots_of problem) (each_below (λ slot. slot < n) 0 n (λ slot low. omega (arith, low))) in
      let times = total_times own (slots_of problem) in
      let back = total_same (λ point. plain point ≡ pos 0) plain (λ point. pos 0) (λ point none. none) (range_with_len (0 + n) m)
      (each_in_range (λ point. plain point ≡ pos 0) (0 + n) m (λ point high low. behind_is_nothing point (omega (arith, high)) (omega (arith, low)))) in
      let nothing = total_zero (λ (point : ℕ). pos 0) (λ point. refl) (range_with_len (0 + n) m) in
      let base = total_map (one_at list) (shifted_one problem []) (slots_of problem) in
      omega (arith, ints, mapped, split, front, times, back, nothing, base)

  -- ---- arcs of uses and indexes

  pair_is_parts : (pair : Pair) → HasPair problem list pair → arc_at problem list (in_parts pair) ≡ pair_at list pair *ℤ pos 256
  unfolding pair_has
  pair_is_parts pair has =
      let first = arc_is problem list (in_parts pair) (pair_has problem is list full valid pair has) in
      let second = pair_is problem list pair has in
      omega (arith, ints, first, second)

  pairs_total : total (arc_at problem list) (map in_parts (pairs problem)) ≡ total (pair_at list) (pairs problem) *ℤ pos 256
  pairs_total =
      let mapped = total_map (arc_at problem list) in_parts (pairs problem) in
      let each = total_same (HasPair problem list) (λ pair. arc_at problem list (in_parts pair)) (λ pair. pair_at list pair *ℤ pos 256) pair_is_parts (pairs problem) (terms_have problem is list full valid).pair in
      let times = total_times (pair_at list) (pairs problem) in
      omega (arith, ints, mapped, each, times)

  -- ---- arcs of switches

  guard_cost : Switch → ℤ
  guard_cost w = if takes_part problem list w.guard w.host then one_at list (guard_term problem w.guard w.host) else pos 0

  guard_term_is : (w : Switch) (p : ℕ) → slice_get list w.guard.slot.0 ≡ Some p → one_at list (guard_term problem w.guard w.host) ≡ unwrap_or (weigh w.guard.weight (move_to_host problem w.host p)) (pos 0)
  guard_term_is w p at = ap (λ o. unwrap_or (option_and_then (λ q. weigh w.guard.weight (move_to_host problem w.host q)) o) (pos 0)) at

  guard_arc_is : (k : ℕ) (w : Switch) → slice_get (switches problem) k ≡ Some w → arc_at problem list (guard_arc problem (length problem.slots + k) w) ≡ guard_cost w *ℤ pos 256
  unfolding guard_arc_has guard_cost
  guard_arc_is k w at =
      let known = switch_is problem is list full valid k w at in
      let place = decided problem is list full valid w.guard.slot.0 known.slot in
      let term = guard_term_is w place.0 place.1.decided in
      let scaled = parts_times (weigh w.guard.weight (move_to_host problem w.host place.0)) in
      arc_is problem list (guard_arc problem (length problem.slots + k) w) (guard_arc_has problem is list full valid k w at)
      ∙ if_times (takes_part problem list w.guard w.host) (unwrap_or (told_parts problem is list full valid w place.0) (pos 0)) (one_at list (guard_term problem w.guard w.host)) (omega (arith, ints, term, scaled))

  member_arc_is : (k : ℕ) (w : Switch) → slice_get (switches problem) k ≡ Some w → (slot : SlotId) → IsTrue (may_bring problem w.host slot) → Brings problem is list full valid w slot
      → arc_at problem list (member_arc problem (length problem.slots + k) w.host slot) ≡ pos 0
  unfolding member_arc_has
  member_arc_is k w at slot may brings = arc_is problem list (member_arc problem (length problem.slots + k) w.host slot) (member_arc_has problem is list full valid k w at slot may brings)

  members_total : (k : ℕ) (w : Switch) → slice_get (switches problem) k ≡ Some w → total (arc_at problem list) (map (member_arc problem (length problem.slots + k) w.host) (members problem w)) ≡ pos 0
  members_total k w at =
      let arc : SlotId → Pair = member_arc problem (length problem.slots + k) w.host in
      let mapped = total_map (arc_at problem list) arc (members problem w) in
      let each = each_filtered (may_bring problem w.host) (Brings problem is list full valid w) (λ slot. arc_at problem list (arc slot) ≡ pos 0) (member_arc_is k w at) w.guard.slots (each_brings problem is list full valid w) in
      let same = total_same (λ slot. arc_at problem list (arc slot) ≡ pos 0) (λ slot. arc_at problem list (arc slot)) (λ slot. pos 0) (λ slot none. none) (members problem w) each in
      let nothing = total_zero (λ (slot : SlotId). pos 0) (λ slot. refl) (members problem w) in
      omega (arith, ints, mapped, same, nothing)

  switch_arcs_total : (k : ℕ) (w : Switch) → slice_get (switches problem) k ≡ Some w → total (arc_at problem list) (switch_arcs problem (length problem.slots + k) w) ≡ guard_cost w *ℤ pos 256
  switch_arcs_total k w at = let first = guard_arc_is k w at in let rest = members_total k w at in omega (arith, ints, first, rest)

  arcs_from_total : (k : ℕ) (ws : List Switch) → Continues problem is list full valid k ws → total (arc_at problem list) (arcs_from problem (length problem.slots + k) ws) ≡ total guard_cost ws *ℤ pos 256
  arcs_from_total k [] goes = refl
  arcs_from_total k (w ∷ ws) goes =
      let n = length problem.slots in
      let split = total_append (arc_at problem list) (switch_arcs problem (n + k) w) (arcs_from problem (n + k + 1) ws) in
      let first = switch_arcs_total k w (first_switch problem is list full valid k w ws goes) in
      let rest = arcs_from_total (k + 1) ws (later_switches problem is list full valid k w ws goes) in
      let same = ap (λ m. total (arc_at problem list) (arcs_from problem m ws)) (one_on problem is list full valid k) in
      omega (arith, ints, split, first, rest, same)

  guards_are : total guard_cost (switches problem) ≡ guards_total problem (one_at list) list
  unfolding guard_cost
  guards_are =
      total_flat guard_cost (λ guard. map (switch_of guard) (all_hosts problem)) problem.guards
      ∙ total_ext (λ guard. total guard_cost (map (switch_of guard) (all_hosts problem))) (λ guard. total (λ h. if takes_part problem list guard h then one_at list (guard_term problem guard h) else pos 0) (all_hosts problem))
      (λ guard. total_map guard_cost (switch_of guard) (all_hosts problem)) problem.guards

  -- ---- together

  pub plain_sum : network_sum_at problem (map (plain_one problem) (points problem)) (arcs problem) list ≡ cost problem list *ℤ pos 256
  unfolding network_sum_at sum_at
  plain_sum =
      let first = points_total in
      let split = total_append (arc_at problem list) (map in_parts (pairs problem)) (arcs_from problem (length problem.slots) (switches problem)) in
      let second = pairs_total in
      let third = arcs_from_total 0 (switches problem) (all_switches problem is list full valid) in
      let start = ap (λ m. total (arc_at problem list) (arcs_from problem m (switches problem))) (none_on problem is list full valid) in
      let guards = guards_are in
      let base = shifted_sum problem is list full valid [] in
      let same = plain_pairs problem list in
      omega (arith, ints, first, split, second, third, start, guards, base, same)
