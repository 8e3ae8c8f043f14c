-- The sum of what tables give is the bound by arcs.
use Rattle.std.proofs.Common.{◌≡◌, ℕ, suc, ◌+◌, ◌<◌, Option, Some, List, [], ◌∷◌, length, map, refl, sym, ap, ◌∙◌, arith, ℤ, slice_get}
use Rattle.std.specs.List.{range_with_len}
use Rattle.std.proofs.lemmas.Int.{ints}
use Rattle.vd_search_tree.specs.declared.shift.Shift.{Shift}
use Rattle.vd_space.specs.declared.problem.Problem.{Problem}
use Rattle.vd_space.specs.Costs.{Pair, total}
use Rattle.vd_space.proofs.Front.{total_map, total_same}
use Rattle.vd_space_prefix.specs.Tables.{AreListed}
use Rattle.vd_space.specs.Points.{States, decided, points}
use Rattle.vd_space.specs.Arcs.{arcs}
use Rattle.vd_space.specs.Network.{least_arc, least_point, by_arcs, network_one, network_pairs}
use Rattle.vd_space.proofs.Front.{each_in_range}
use Rattle.vd_cost_network_prefix.specs.declared.made.NetworkTables.{NetworkTables}
use Rattle.vd_cost_network_prefix.specs.States.{AreSettings, as_states, count_of_points, arc_part, parts_by, point_part, states_of}
use Rattle.vd_cost_network_prefix.specs.Tables.{AreNetworkTables}
use Rattle.vd_cost_network_prefix.proofs.Decided.{states_are, are_settings}

-- a sum over a list, by numbers
total_by_number : {X : Type 0} (g : X → ℤ) (f : ℕ → ℤ) (xs : List X) (first : ℕ) → ((k : ℕ) (x : X) → slice_get xs k ≡ Some x → f (first + k) ≡ g x) → total f (range_with_len first (length xs)) ≡ total g xs
total_by_number g f [] first each = refl
total_by_number g f (x ∷ xs) first each =
    let start : first ≡ first + 0 = omega arith in
    let here : f first ≡ g x = ap f start ∙ each 0 x refl in
    let rest = total_by_number g f xs (first + 1) (λ k y at. let next : first + 1 + k ≡ first + suc k = omega arith in ap f next ∙ each (suc k) y at) in
    omega (arith, ints, here, rest)

pub pairs_size : (shifts : List Shift) (at : ℕ) (arcs : List Pair) → length (network_pairs shifts at arcs) ≡ length arcs
pairs_size shifts at [] = refl
pairs_size shifts at (arc ∷ arcs) = ap suc (pairs_size shifts (at + 1) arcs)

module _ (problem : Problem) (tables : NetworkTables) (are : AreNetworkTables problem tables) (states : States) (settings : AreSettings problem states) where
  points_are : total (point_part tables.points states) (range_with_len 0 (length tables.points)) ≡ total (least_point problem states) (map (network_one problem tables.shifts) (points problem))
  points_are =
      ap (λ n. total (point_part tables.points states) (range_with_len 0 n)) are.points.size
      ∙ total_same (λ point. point < count_of_points problem) (point_part tables.points states) (λ point. least_point problem states (network_one problem tables.shifts point)) (are.points.least states settings) (points problem)
      (each_in_range (λ point. point < count_of_points problem) 0 (count_of_points problem) (λ point low high. omega (arith, high)))
      ∙ sym (total_map (least_point problem states) (network_one problem tables.shifts) (points problem))

  arcs_are : total (arc_part tables.arcs states) (range_with_len 0 (length tables.arcs)) ≡ total (least_arc problem states) (network_pairs tables.shifts 0 (arcs problem))
  arcs_are =
      ap (λ n. total (arc_part tables.arcs states) (range_with_len 0 n)) (are.arcs.size ∙ sym (pairs_size tables.shifts 0 (arcs problem)))
      ∙ total_by_number (least_arc problem states) (arc_part tables.arcs states) (network_pairs tables.shifts 0 (arcs problem)) 0
      (λ k arc at. let start : 0 + k ≡ k = omega arith in ap (arc_part tables.arcs states) start ∙ are.arcs.least states settings k arc at)

pub parts_are : (problem : Problem) (tables : NetworkTables) (prefix : List ℕ) (states : List (Option ℕ)) → AreNetworkTables problem tables → AreListed problem prefix → states ≡ states_of problem prefix → parts_by tables (as_states states) ≡ by_arcs problem tables.shifts prefix
parts_are problem tables prefix states are listed written =
    let settings = are_settings problem prefix listed in
    let first = points_are problem tables are (decided problem prefix) settings in
    let second = arcs_are problem tables are (decided problem prefix) settings in
    let whole : parts_by tables (decided problem prefix) ≡ by_arcs problem tables.shifts prefix = omega (arith, ints, first, second) in
    ap (λ list. parts_by tables (as_states list)) written ∙ ap (parts_by tables) (states_are problem prefix) ∙ whole
