use Rattle.std.proofs.Common.{◌≤◌, [], ◌∷◌, ◌++◌, true, Bool, List, length, map, replicate, ap, ◌∙◌, subst, arith}
use Rattle.std.specs.List.{range_with_len}
use Rattle.vd_base.specs.declared.protocols.Proto.{Proto}
use Rattle.vd_space.specs.Validity.{protocols}
use Rattle.vd_cost_network_prefix.specs.States.{count_of_points}
use Rattle.vd_cost_network_tables.specs.Tables.{tests_of}
use Rattle.vd_cost_network_tables.proofs.Front.{settings_are, tests_found, map_map, tests_size, switches_size, few_settings}
use Rattle.vd_cost_network_bound.specs.Least.{passing}
use Rattle.vd_cost_network_bound.proofs.made.NetworkBound.new.Goals as goal

pub all_passing-requires : goal.all_passing-requires
all_passing-requires c point =
    let problem = c.args.problem.now in
    let count = length c.as_slice-6.result.now in
    let many = ap length c.as_slice-6.ensures ∙ switches_size problem c.requires.holds c.in_ok-switches.switches c.in_ok-switches.ensures in
    let are = settings_are problem c.in_ok-settings.settings count (c.in_ok-settings.ensures ∙ ap (λ (front : List (List Bool)). front ++ replicate count (true ∷ true ∷ [])) c.in_ok-candidates.ensures) many in
    let row = tests_found problem c.as_slice-7.result.now (c.as_slice-7.ensures ∙ are) point in
    let size = ap length row ∙ tests_size problem point in
    let places : length (protocols problem) ≤ 64 = subst (λ (list : List Proto). length list ≤ 64) c.in_ok-list.ensures.all c.in_ok-list.ensures.few in
    let few = few_settings problem 64 point places (omega arith) in
    omega (arith, size, few)

pub returns : goal.returns
returns c =
    let problem = c.args.problem.now in
    let count = length c.as_slice-6.result.now in
    let many = ap length c.as_slice-6.ensures ∙ switches_size problem c.requires.holds c.in_ok-switches.switches c.in_ok-switches.ensures in
    let are = settings_are problem c.in_ok-settings.settings count (c.in_ok-settings.ensures ∙ ap (λ (front : List (List Bool)). front ++ replicate count (true ∷ true ∷ [])) c.in_ok-candidates.ensures) many in
    record {
      well_formed = c.requires;
      list = c.in_ok-list.ensures.all;
      switches = c.in_ok-switches.ensures;
      arcs = c.in_ok-arcs.ensures;
      free = c.in_ok-free.ensures ∙ ap (map passing) (c.as_slice-7.ensures ∙ are) ∙ map_map passing (tests_of problem) (range_with_len 0 (count_of_points problem));
      values = c.in_ok-values.ensures;
    }
