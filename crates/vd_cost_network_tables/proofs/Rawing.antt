-- The arcs as they are made are the arcs of the problem.
use Rattle.std.proofs.Common.{◌≡◌, ℕ, zero, suc, ◌+◌, ◌<◌, Some, List, [], ◌∷◌, ◌++◌, length, map, filter, flat_map, drop, ◌&&◌, refl, sym, ap, ap₂, ◌∙◌, subst, arith, add-one, get_or, slice_get}
use Rattle.std.specs.Option.{option_map_or}
use Rattle.std.specs.Prelude.{IsTrue}
use Rattle.std.specs.List.{AllByRecursion, range_with_len}
use Rattle.std.proofs.lemmas.Bool.{and_parts}
use Rattle.vd_base.specs.declared.ids.HostId.{HostId}
use Rattle.vd_base.specs.declared.ids.SlotId.{SlotId}
use Rattle.vd_base.specs.HostSets.{host as nth}
use Rattle.vd_space.specs.declared.problem.Problem.{Problem}
use Rattle.vd_space.specs.declared.problem.Use.{Use}
use Rattle.vd_space.specs.declared.problem.Index.{Index}
use Rattle.vd_space.specs.declared.problem.Guard.{Guard}
use Rattle.vd_space.specs.Spaces.{IsProblem, IsUse, IsIndex}
use Rattle.vd_space.specs.Validity.{protocols, all_hosts, holds_at, is_candidate}
use Rattle.vd_space.specs.Costs.{pairs, use_term, index_term}
use Rattle.vd_space_tables.specs.Prices.{moves_of, tells_of}
use Rattle.vd_space.proofs.Front.{each_map}
use Rattle.vd_space.specs.Points.{Switch, switch_of, switches, may_bring, members}
use Rattle.vd_space.specs.Arcs.{in_parts, member_arc, switch_arcs, arcs_from, arcs}
use Rattle.vd_space.proofs.Front.{any_held, each_filtered, candidate_inside}
use Rattle.vd_cost_network_prefix.specs.declared.made.SwitchTable.{SwitchTable}
use Rattle.vd_cost_network_tables.specs.Tables.{raw_arc, switch_table, switch_tables_at, switch_tables_from}
use Rattle.vd_cost_network_tables.specs.Raws.{guard_raw, index_raw, member_raw, raws_by, raws_from, switch_raws, use_raw}
use Rattle.vd_cost_network_tables.proofs.Costs.{use_cells, index_cells, guard_cells_are, member_cells_are}
use Rattle.vd_cost_network_tables.proofs.Switching.{at_start, map_append}

-- what stands at a number of a list
drop_at : {X : Type 0} (xs : List X) (k : ℕ) (x : X) (rest : List X) → drop k xs ≡ x ∷ rest → (slice_get xs k ≡ Some x) × (drop (suc k) xs ≡ rest)
drop_at [] zero x rest is = cc
drop_at [] (suc k) x rest is = cc
drop_at (y ∷ xs) zero x rest is = let same : y ≡ x = cc in let after : xs ≡ rest = cc in (ap Some same, after)
drop_at (y ∷ xs) (suc k) x rest is = drop_at xs k x rest is

module _ (problem : Problem) (is : IsProblem problem) where
  uses_are : (us : List Use) → AllByRecursion (IsUse (length problem.slots)) us → map (use_raw (moves_of (protocols problem))) us ≡ map (raw_arc problem) (map in_parts (map (use_term problem) us))
  uses_are [] each = refl
  uses_are (u ∷ us) each =
      ap₂ (λ x xs. x ∷ xs) (λ i. record { first = u.source.0; second = u.target.0; cells = use_cells problem u each.0 i }) (uses_are us each.1)

  indexes_are : (is_ : List Index) → AllByRecursion (IsIndex (length problem.slots)) is_ → map (index_raw (tells_of problem)) is_ ≡ map (raw_arc problem) (map in_parts (map (index_term problem) is_))
  indexes_are [] each = refl
  indexes_are (i ∷ is_) each =
      ap₂ (λ x xs. x ∷ xs) (λ j. record { first = i.array.0; second = i.index.0; cells = index_cells problem i each.0 j }) (indexes_are is_ each.1)

  -- ---- switches

  pub record IsTableOf (t : SwitchTable) (w : Switch) : Type 0 where
    pub guard : slice_get problem.guards t.guard ≡ Some w.guard
    pub slot : w.guard.slot.0 < length problem.slots
    pub host : t.host ≡ w.host
    pub known : w.host.0 < length problem.hosts
    pub members_are : t.members ≡ members problem w

  Aligned : List SwitchTable → List Switch → Type 0
  Aligned [] [] = Unit {0}
  Aligned [] (w ∷ ws) = ⊥
  Aligned (t ∷ ts) [] = ⊥
  Aligned (t ∷ ts) (w ∷ ws) = IsTableOf t w × Aligned ts ws

  aligned_append : (ts us : List SwitchTable) (ws xs : List Switch) → Aligned ts ws → Aligned us xs → Aligned (ts ++ us) (ws ++ xs)
  unfolding Aligned
  aligned_append [] us [] xs first second = second
  aligned_append [] us (w ∷ ws) xs first second = absurd first
  aligned_append (t ∷ ts) us [] xs first second = absurd first
  aligned_append (t ∷ ts) us (w ∷ ws) xs first second = (first.0, aligned_append ts us ws xs first.1 second)

  aligned_hosts : (number : ℕ) (guard : Guard) → slice_get problem.guards number ≡ Some guard → guard.slot.0 < length problem.slots → (hs : List HostId) → AllByRecursion (λ (h : HostId). h.0 < length problem.hosts) hs
      → Aligned (map (switch_table problem number guard) hs) (map (switch_of guard) hs)
  unfolding Aligned
  aligned_hosts number guard at low [] known = tt
  aligned_hosts number guard at low (h ∷ hs) known = (record { guard = at; slot = low; host = refl; known = known.0; members_are = refl }, aligned_hosts number guard at low hs known.1)

  below : (first count : ℕ) → AllByRecursion (λ k. k < first + count) (range_with_len first count)
  below first zero = tt
  below first (suc count) =
      let same : first + 1 + count ≡ first + suc count = omega arith in
      (omega arith, subst (λ n. AllByRecursion (λ k. k < n) (range_with_len (first + 1) count)) same (below (first + 1) count))

  all_known : AllByRecursion (λ (h : HostId). h.0 < length problem.hosts) (all_hosts problem)
  all_known =
      let n = length problem.hosts in
      let start : 0 + n ≡ n = omega arith in
      each_map (λ (h : HostId). h.0 < n) nth (range_with_len 0 n) (subst (λ m. AllByRecursion (λ k. k < m) (range_with_len 0 n)) start (below 0 n))

  aligned_all : (number : ℕ) (guards : List Guard) → drop number problem.guards ≡ guards → AllByRecursion (λ (guard : Guard). guard.slot.0 < length problem.slots) guards
      → Aligned (switch_tables_from problem number guards) (flat_map (λ guard. map (switch_of guard) (all_hosts problem)) guards)
  unfolding Aligned
  aligned_all number [] rest low = tt
  aligned_all number (guard ∷ guards) rest low =
      let start = at_start problem.guards guards number guard rest in
      aligned_append (switch_tables_at problem number guard) (switch_tables_from problem (number + 1) guards) (map (switch_of guard) (all_hosts problem)) (flat_map (λ other. map (switch_of other) (all_hosts problem)) guards)
      (aligned_hosts number guard start.0 low.0 (all_hosts problem) all_known) (aligned_all (number + 1) guards (ap (λ n. drop n problem.guards) (add-one number) ∙ start.1) low.1)

  aligned_at : (ts : List SwitchTable) (ws : List Switch) → Aligned ts ws → (k : ℕ) → k < length ts → (t : SwitchTable) → t ≡ get_or ts k t → (w : Switch) × (slice_get ws k ≡ Some w) × IsTableOf t w
  unfolding Aligned
  aligned_at [] ws aligned k low t is = absurd (omega (arith, low))
  aligned_at (u ∷ ts) [] aligned k low t is = absurd aligned
  aligned_at (u ∷ ts) (w ∷ ws) aligned zero low t is = (w, refl, subst (λ table. IsTableOf table w) (sym is) aligned.0)
  aligned_at (u ∷ ts) (w ∷ ws) aligned (suc k) low t is = aligned_at ts ws aligned.1 k (omega (arith, low)) t is

  aligned_size : (ts : List SwitchTable) (ws : List Switch) → Aligned ts ws → length ts ≡ length ws
  unfolding Aligned
  aligned_size [] [] aligned = refl
  aligned_size [] (w ∷ ws) aligned = absurd aligned
  aligned_size (t ∷ ts) [] aligned = absurd aligned
  aligned_size (t ∷ ts) (w ∷ ws) aligned = let rest = aligned_size ts ws aligned.1 in omega (arith, rest)

  pub switch_at : (ts : List SwitchTable) → ts ≡ switch_tables_from problem 0 problem.guards → (k : ℕ) → k < length ts → (t : SwitchTable) → t ≡ get_or ts k t → (w : Switch) × (slice_get (switches problem) k ≡ Some w) × IsTableOf t w
  switch_at ts are = aligned_at ts (switches problem) (subst (λ list. Aligned list (switches problem)) (sym are) (aligned_all 0 problem.guards refl is.guards))

  pub switches_size : (ts : List SwitchTable) → ts ≡ switch_tables_from problem 0 problem.guards → length ts ≡ length (switches problem)
  switches_size ts are = aligned_size ts (switches problem) (subst (λ list. Aligned list (switches problem)) (sym are) (aligned_all 0 problem.guards refl is.guards))

  -- ---- their arcs

  members_raw : (k : ℕ) (w : Switch) → slice_get (switches problem) k ≡ Some w → (slots : List SlotId) → AllByRecursion (λ (slot : SlotId). slot.0 < length problem.slots) slots
      → map (member_raw (protocols problem) (length problem.slots + k) w.host) slots ≡ map (raw_arc problem) (map (member_arc problem (length problem.slots + k) w.host) slots)
  members_raw k w at [] low = refl
  members_raw k w at (slot ∷ slots) low =
      ap₂ (λ x xs. x ∷ xs) (λ i. record { first = slot.0; second = length problem.slots + k; cells = member_cells_are problem k w at slot low.0 i }) (members_raw k w at slots low.1)

  each_inside : (h : HostId) (slots : List SlotId) → AllByRecursion (λ (slot : SlotId). slot.0 < length problem.slots) (filter (may_bring problem h) slots)
  each_inside h slots = each_filtered (may_bring problem h) (λ (slot : SlotId). Unit {0}) (λ (slot : SlotId). slot.0 < length problem.slots) (λ slot may none. inside_slot h slot may) slots (nothing slots)
    where
      inside_slot : (h : HostId) (slot : SlotId) → IsTrue (may_bring problem h slot) → slot.0 < length problem.slots
      inside_slot h slot may =
          let found = any_held (λ p. is_candidate problem slot.0 p && holds_at problem h p) (range_with_len 0 (length (protocols problem))) may in
          candidate_inside problem slot.0 found.0 (and_parts (is_candidate problem slot.0 found.0) (holds_at problem h found.0) found.1).0

      nothing : (xs : List SlotId) → AllByRecursion (λ (slot : SlotId). Unit {0}) xs
      nothing [] = tt
      nothing (x ∷ xs) = (tt, nothing xs)

  switch_is : (k : ℕ) (t : SwitchTable) (w : Switch) → IsTableOf t w → slice_get (switches problem) k ≡ Some w
      → option_map_or (switch_raws (protocols problem) (length problem.slots + k) t) (slice_get problem.guards t.guard) [] ≡ map (raw_arc problem) (switch_arcs problem (length problem.slots + k) w)
  switch_is k t w table at =
      let list = protocols problem in
      let point = length problem.slots + k in
      ap (λ o. option_map_or (switch_raws list point t) o []) table.guard
      ∙ ap₂ (λ h slots. guard_raw list point h w.guard ∷ map (member_raw list point h) slots) table.host table.members_are
      ∙ ap₂ (λ x xs. x ∷ xs) (λ i. record { first = w.guard.slot.0; second = point; cells = guard_cells_are problem k w at table.slot i }) (members_raw k w at (members problem w) (each_inside w.host w.guard.slots))

  from_are : (k : ℕ) (ts : List SwitchTable) (ws : List Switch) → Aligned ts ws → drop k (switches problem) ≡ ws → raws_from problem (protocols problem) (length problem.slots + k) ts ≡ map (raw_arc problem) (arcs_from problem (length problem.slots + k) ws)
  unfolding Aligned
  from_are k [] [] aligned rest = refl
  from_are k [] (w ∷ ws) aligned rest = absurd aligned
  from_are k (t ∷ ts) [] aligned rest = absurd aligned
  from_are k (t ∷ ts) (w ∷ ws) aligned rest =
      let n = length problem.slots in
      let at = drop_at (switches problem) k w ws rest in
      let one : n + k + 1 ≡ n + (k + 1) = omega arith in
      let later = from_are (k + 1) ts ws aligned.1 (ap (λ n. drop n (switches problem)) (add-one k) ∙ at.1) in
      ap₂ (λ front back. front ++ back) (switch_is k t w aligned.0 at.0)
      (ap (λ m. raws_from problem (protocols problem) m ts) one ∙ later ∙ ap (λ m. map (raw_arc problem) (arcs_from problem m ws)) (sym one))
      ∙ sym (map_append (raw_arc problem) (switch_arcs problem (n + k) w) (arcs_from problem (n + k + 1) ws))

  pub raws_are : raws_by problem (protocols problem) (moves_of (protocols problem)) (tells_of problem) (switch_tables_from problem 0 problem.guards) ≡ map (raw_arc problem) (arcs problem)
  raws_are =
      let n = length problem.slots in
      let start : n ≡ n + 0 = omega arith in
      let tables = switch_tables_from problem 0 problem.guards in
      let us = map (use_term problem) problem.uses in
      let is_ = map (index_term problem) problem.indexes in
      ap₂ (λ a b. a ++ b ++ raws_from problem (protocols problem) n tables) (uses_are problem.uses is.uses) (indexes_are problem.indexes is.indexes)
      ∙ ap (λ front. front ++ raws_from problem (protocols problem) n tables) (sym (map_append (raw_arc problem) (map in_parts us) (map in_parts is_)) ∙ ap (map (raw_arc problem)) (sym (map_append in_parts us is_)))
      ∙ ap (λ back. map (raw_arc problem) (map in_parts (pairs problem)) ++ back)
      (ap (λ m. raws_from problem (protocols problem) m tables) start ∙ from_are 0 tables (switches problem) (aligned_all 0 problem.guards refl is.guards) refl ∙ ap (λ m. map (raw_arc problem) (arcs_from problem m (switches problem))) (sym start))
      ∙ sym (map_append (raw_arc problem) (map in_parts (pairs problem)) (arcs_from problem n (switches problem)))
