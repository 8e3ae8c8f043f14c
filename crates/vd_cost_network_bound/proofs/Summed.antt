-- What points and arcs come to under shifts is the bound by arcs.
use Rattle.std.proofs.Common.{◌≡◌, ℕ, ◌≤◌, Option, List, length, refl, sym, ap, ◌∙◌, subst, arith, ℤ, ◌+ℤ◌}
use Rattle.std.specs.List.{range_with_len}
use Rattle.std.proofs.lemmas.Int.{ints}
use Rattle.vd_base.specs.declared.protocols.Proto.{Proto}
use Rattle.vd_search_tree.specs.declared.shift.Shift.{Shift}
use Rattle.vd_space.specs.declared.problem.Problem.{Problem}
use Rattle.vd_space.specs.Costs.{total}
use Rattle.vd_space.specs.WellFormed.{IsWellFormed}
use Rattle.vd_space_prefix.specs.Tables.{AreListed}
use Rattle.vd_space_prefix.proofs.Front.{size_by_place}
use Rattle.vd_space.specs.Arcs.{arcs}
use Rattle.vd_space.specs.Network.{by_arcs}
use Rattle.vd_cost_network_prefix.specs.declared.made.NetworkTables.{NetworkTables}
use Rattle.vd_cost_network_prefix.specs.declared.made.SwitchTable.{SwitchTable}
use Rattle.vd_cost_network_prefix.specs.States.{AreSettings, AreSwitchTables, as_states, count_of_points, arc_part, point_part, settings, states_of}
use Rattle.vd_cost_network_prefix.specs.Tables.{AreNetworkTables}
use Rattle.vd_cost_network_prefix.proofs.Front.{are_settings, states_are, parts_are}
use Rattle.vd_space_tables.specs.Sums.{AreSmallShifts}
use Rattle.vd_cost_network_tables.specs.Tables.{arc_tables_of, point_tables_of}
use Rattle.vd_cost_network_tables.proofs.Front.{arc_tables_are, point_tables_are, point_tables_small, arc_tables_small, few_settings}
use Rattle.vd_cost_network_bound.specs.declared.made.NetworkBound.{NetworkBound}
use Rattle.vd_cost_network_bound.specs.Bounds.{IsBoundOf, values_at}

module _ (problem : Problem) (bound : NetworkBound) (is : IsBoundOf problem bound) where
  pub few_at : (list : List Proto) (most : ℕ) → list ≡ bound.list → length list ≤ most → 2 ≤ most → (point : ℕ) → settings problem point ≤ most
  few_at list most same places two point = few_settings problem most point (subst (λ (l : List Proto). length l ≤ most) (same ∙ is.list) places) two

  pub count_is : (values : List (List (Option ℤ))) → values ≡ bound.values → length values ≡ count_of_points problem
  count_is values same = ap length (same ∙ is.values) ∙ size_by_place (count_of_points problem) (values_at problem)

pub settings_decided : (problem : Problem) (prefix : List ℕ) (states : List (Option ℕ)) → AreListed problem prefix → states ≡ states_of problem prefix → AreSettings problem (as_states states)
settings_decided problem prefix states listed written = subst (AreSettings problem) (sym (ap as_states written ∙ states_are problem prefix)) (are_settings problem prefix listed)

module _ (problem : Problem) (formed : IsWellFormed problem) (shifts : List Shift) (few : length shifts ≤ 131072) (amounts : AreSmallShifts shifts) where
  pub bound_is : (switches : List SwitchTable) → AreSwitchTables problem switches → (prefix : List ℕ) → AreListed problem prefix → (states : List (Option ℕ)) → states ≡ states_of problem prefix → (first second : ℤ)
      → first ≡ total (point_part (point_tables_of problem shifts) (as_states states)) (range_with_len 0 (count_of_points problem))
      → second ≡ total (arc_part (arc_tables_of problem shifts) (as_states states)) (range_with_len 0 (length (arcs problem)))
      → first +ℤ second ≡ by_arcs problem shifts prefix
  bound_is switches switched prefix listed states written first second first_is second_is =
      let tables : NetworkTables = record { shifts = shifts; points = point_tables_of problem shifts; arcs = arc_tables_of problem shifts; switches = switches } in
      let are : AreNetworkTables problem tables =
      record {
        well_formed = formed;
        points = point_tables_are problem shifts (point_tables_of problem shifts) refl;
        arcs = arc_tables_are problem shifts (arc_tables_of problem shifts) refl;
        switches = switched;
        small_points = point_tables_small problem formed.labelled formed.limits shifts few amounts;
        small_arcs = arc_tables_small problem shifts few amounts formed.labelled formed.limits;
      } in
      let points_sum : first ≡ total (point_part tables.points (as_states states)) (range_with_len 0 (length tables.points)) =
      first_is ∙ ap (λ n. total (point_part tables.points (as_states states)) (range_with_len 0 n)) (sym are.points.size) in
      let arcs_sum : second ≡ total (arc_part tables.arcs (as_states states)) (range_with_len 0 (length tables.arcs)) =
      second_is ∙ ap (λ n. total (arc_part tables.arcs (as_states states)) (range_with_len 0 n)) (sym are.arcs.size) in
      let whole = parts_are problem tables prefix states are listed written in
      omega (arith, ints, points_sum, arcs_sum, whole)
