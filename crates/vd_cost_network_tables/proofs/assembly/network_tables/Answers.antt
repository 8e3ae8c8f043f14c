use Rattle.std.proofs.Common.{◌≤◌, [], ◌∷◌, ◌++◌, true, Bool, List, length, replicate, ap, ◌∙◌, subst}
use Rattle.vd_base.specs.declared.protocols.Proto.{Proto}
use Rattle.vd_space.specs.Validity.{protocols}
use Rattle.vd_cost_network_tables.specs.Tables.{arc_tables_of, point_tables_of}
use Rattle.vd_cost_network_tables.proofs.Assembling.{settings_are}
use Rattle.vd_cost_network_tables.proofs.Placed.{arc_tables_are, point_tables_are}
use Rattle.vd_cost_network_tables.proofs.Rawing.{switches_size}
use Rattle.vd_cost_network_tables.proofs.Shifting.{few_settings}
use Rattle.vd_cost_network_tables.proofs.Switching.{switch_tables_are}
use Rattle.vd_cost_network_tables.proofs.assembly.network_tables.Goals as goal

pub arc_tables-requires-clause-settings : goal.arc_tables-requires-clause-settings
arc_tables-requires-clause-settings c =
    let problem = c.args.problem.now in
    let count = length c.as_slice-3.result.now in
    let many = ap length c.as_slice-3.ensures ∙ switches_size problem c.requires.well_formed.holds c.in_ok-switches.switches c.in_ok-switches.ensures in
    let places : length (protocols problem) ≤ c.most_settings-most.result = subst (λ (list : List Proto). length list ≤ c.most_settings-most.result) (c.as_slice-list.ensures ∙ c.in_ok-list.ensures.all) c.most_settings-most.ensures.places in
    record {
      are = c.as_slice-5.ensures ∙ settings_are problem c.in_ok-settings.settings count (c.in_ok-settings.ensures ∙ ap (λ (front : List (List Bool)). front ++ replicate count (true ∷ true ∷ [])) c.in_ok-candidates.ensures) many;
      few = λ point. few_settings problem c.most_settings-most.result point places c.most_settings-most.ensures.switches;
    }

pub point_tables-requires-clause-settings : goal.point_tables-requires-clause-settings
point_tables-requires-clause-settings c =
    let problem = c.args.problem.now in
    let count = length c.as_slice-3.result.now in
    let many = ap length c.as_slice-3.ensures ∙ switches_size problem c.requires.well_formed.holds c.in_ok-switches.switches c.in_ok-switches.ensures in
    let places : length (protocols problem) ≤ c.most_settings-most.result = subst (λ (list : List Proto). length list ≤ c.most_settings-most.result) (c.as_slice-list.ensures ∙ c.in_ok-list.ensures.all) c.most_settings-most.ensures.places in
    record {
      are = c.as_slice-9.ensures ∙ settings_are problem c.in_ok-settings.settings count (c.in_ok-settings.ensures ∙ ap (λ (front : List (List Bool)). front ++ replicate count (true ∷ true ∷ [])) c.in_ok-candidates.ensures) many;
      few = λ point. few_settings problem c.most_settings-most.result point places c.most_settings-most.ensures.switches;
    }

pub returns-clause-tables : goal.returns-clause-tables
returns-clause-tables c =
    let problem = c.args.problem.now in
    record {
      well_formed = c.requires.well_formed;
      points = point_tables_are problem c.args.shifts c.in_ok-points.points (c.in_ok-points.ensures.tables ∙ ap (point_tables_of problem) c.as_slice-10.ensures);
      arcs = arc_tables_are problem c.args.shifts c.in_ok-arcs.arcs (c.in_ok-arcs.ensures.tables ∙ ap (arc_tables_of problem) c.as_slice-6.ensures);
      switches = switch_tables_are problem c.in_ok-switches.switches c.in_ok-switches.ensures;
      small_points = c.in_ok-points.ensures.small;
      small_arcs = c.in_ok-arcs.ensures.small;
    }
