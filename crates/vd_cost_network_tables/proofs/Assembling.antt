-- What all tables are made with: the settings of points, and few of everything.
use Rattle.std.proofs.Common.{◌≡◌, ℕ, ◌+◌, ◌-◌, ◌*◌, ◌<◌, ◌≤◌, Bool, true, List, [], ◌∷◌, ◌++◌, length, replicate, get_or, refl, sym, ap, ◌∙◌, subst, arith, inl, inr, length-append}
use Rattle.std.proofs.lemmas.Bool.{cases_lt}
use Rattle.std.proofs.lemmas.List.{get_or_append_left, get_or_past, get_or-append_right, get_or-replicate, length-map, length-replicate}
use Rattle.std.proofs.lemmas.List.FromFn.{fill_by_all, length-range_with_len}
use Rattle.std.proofs.lemmas.Option.{slice_get_past}
use Rattle.std.specs.Option.{option_map_or}
use Rattle.std.specs.List.{range_with_len}
use Rattle.vd_base.specs.HostSets.{host}
use Rattle.vd_space.specs.declared.problem.Problem.{Problem}
use Rattle.vd_space.specs.declared.problem.Guard.{Guard}
use Rattle.vd_space.specs.declared.problem.Making.{Making}
use Rattle.vd_space.specs.Labelled.{IsLabelled}
use Rattle.vd_space.specs.Sizes.{IsWithinLimits}
use Rattle.vd_space.specs.Spaces.{IsProblem}
use Rattle.vd_space.specs.Validity.{protocols, all_hosts, can_stand, is_candidate}
use Rattle.vd_space_prefix.specs.Transfers.{by_place}
use Rattle.vd_space_prefix.proofs.Front.{at_place, size_by_place}
use Rattle.vd_space_tables.specs.Prices.{candidates_of}
use Rattle.vd_space_tables.proofs.Front.{candidates_at}
use Rattle.vd_space.specs.Points.{Switch, switches}
use Rattle.vd_space.proofs.Front.{within, at_either, at_slot, at_switch}
use Rattle.vd_cost_network_prefix.specs.States.{count_of_points}
use Rattle.vd_cost_network_tables.proofs.Rawing.{switches_size}
use Rattle.vd_cost_network_tables.specs.Tables.{switch_table, switch_tables_at, switch_tables_from, tests_of}

-- ---- settings

abbrev two : List Bool
two = true ∷ true ∷ []

module _ (problem : Problem) where
  abbrev places : ℕ → List Bool
  places slot = by_place (length (protocols problem)) (is_candidate problem slot)

  front_size : length (candidates_of problem) ≡ length problem.slots
  front_size = length-map problem.slots (λ (making : Making). by_place (length (protocols problem)) (can_stand problem making))

  abbrev all : List (List Bool)
  all = candidates_of problem ++ replicate (length (switches problem)) two

  row_is : (k : ℕ) → k < count_of_points problem → get_or all k [] ≡ tests_of problem k
  row_is k low = elim (cases_lt k (length problem.slots)) [
    | inl front ↦
        get_or_append_left (candidates_of problem) (replicate (length (switches problem)) two) [] k (let size = front_size in omega (arith, size, front))
        ∙ candidates_at problem k front
        ∙ sym (at_slot problem places (λ (w : Switch). two) [] k front)
    | inr past ↦
        let size = front_size in
        let j = k - length problem.slots in
        let low_j : j < length (switches problem) = omega (arith, low, past) in
        let whole : length problem.slots + j ≡ k = omega (arith, past) in
        let item = within (switches problem) j low_j in
        get_or-append_right (candidates_of problem) (replicate (length (switches problem)) two) (length problem.slots) k [] size past
        ∙ get_or-replicate (length (switches problem)) j two [] low_j
        ∙ sym (at_switch problem places (λ (w : Switch). two) [] j item.0 item.1)
        ∙ ap (tests_of problem) whole
  ]

  pub settings_are : (settings : List (List Bool)) (count : ℕ) → settings ≡ candidates_of problem ++ replicate count two → count ≡ length (switches problem) → settings ≡ by_place (count_of_points problem) (tests_of problem)
  settings_are settings count are count_is =
      let front = front_size in
      let back = length-replicate (length (switches problem)) two in
      let size = length-append (candidates_of problem) (replicate (length (switches problem)) two) in
      are
      ∙ ap (λ n. candidates_of problem ++ replicate n two) count_is
      ∙ fill_by_all (tests_of problem) all (count_of_points problem) [] (omega (arith, front, back, size)) row_is

  no_tests : (point : ℕ) → count_of_points problem ≤ point → tests_of problem point ≡ []
  no_tests point past = elim (at_either problem places (λ (w : Switch). two) [] point) [
    | inl slot ↦ let low = slot.0 in absurd (omega (arith, low, past))
    | inr behind ↦
        let first = behind.0 in
        behind.1 ∙ ap (λ o. option_map_or (λ (w : Switch). two) o []) (slice_get_past (switches problem) (point - length problem.slots) (omega (arith, first, past)))
  ]

  pub tests_found : (settings : List (List Bool)) → settings ≡ by_place (count_of_points problem) (tests_of problem) → (point : ℕ) → get_or settings point [] ≡ tests_of problem point
  tests_found settings are point = ap (λ (rows : List (List Bool)). get_or rows point []) are ∙ elim (cases_lt point (count_of_points problem)) [
    | inl low ↦ at_place (count_of_points problem) (tests_of problem) point [] low
    | inr past ↦
        get_or_past (by_place (count_of_points problem) (tests_of problem)) point [] (subst (λ n. n ≤ point) (sym (size_by_place (count_of_points problem) (tests_of problem))) past)
        ∙ sym (no_tests point past)
  ]

  -- ---- few points

  at_size : (number : ℕ) (guard : Guard) → length (switch_tables_at problem number guard) ≡ length problem.hosts
  at_size number guard = length-map (all_hosts problem) (switch_table problem number guard) ∙ length-map (range_with_len 0 (length problem.hosts)) host ∙ length-range_with_len 0 (length problem.hosts)

  from_size : (number : ℕ) (guards : List Guard) → length problem.hosts ≤ 4 → length (switch_tables_from problem number guards) ≤ 4 * length guards
  from_size number [] few = omega arith
  from_size number (guard ∷ guards) few =
      let size = length-append (switch_tables_at problem number guard) (switch_tables_from problem (number + 1) guards) in
      let here = at_size number guard in
      let rest = from_size (number + 1) guards few in
      omega (arith, size, here, rest, few)

  pub few_switches : IsLabelled problem → IsWithinLimits problem → length problem.slots + length (switch_tables_from problem 0 problem.guards) < 4294967296
  few_switches labelled limits =
      let hosts = labelled.few_hosts in
      let count = limits.count in
      let size = from_size 0 problem.guards hosts in
      omega (arith, count, size)

  pub few_points : IsProblem problem → IsLabelled problem → IsWithinLimits problem → count_of_points problem < 4294967296
  few_points is labelled limits =
      let few = few_switches labelled limits in
      let size = switches_size problem is (switch_tables_from problem 0 problem.guards) refl in
      omega (arith, few, size)
