use Rattle.std.proofs.Common.{◌<◌, List, ℤ, length, ap, sym, ◌∙◌, subst}
use Rattle.vd_space.specs.Costs.{total}
use Rattle.vd_space_prefix.specs.Transfers.{by_place}
use Rattle.vd_space_prefix.proofs.Front.{size_by_place}
use Rattle.vd_cost_network_prefix.specs.States.{AreSmallPoints, count_of_points}
use Rattle.vd_space_tables.specs.declared.space_terms.sums.Rows.TheVariants.{Ends}
use Rattle.vd_space_tables.specs.Sums.{AreSmallSums}
use Rattle.vd_cost_network_tables.specs.Sums.{part, side_of, sums_of}
use Rattle.vd_cost_network_tables.specs.Tables.{table_by, tests_of}
use Rattle.vd_cost_network_tables.proofs.Assembling.{few_points}
use Rattle.vd_space_tables.proofs.Front.{sums_small}
use Rattle.vd_cost_network_tables.proofs.Pointing.{point_tables_made, point_tables_small}
use Rattle.vd_cost_network_tables.proofs.points.point_tables.Goals as goal

pub slot_tables-requires-clause-sums : goal.slot_tables-requires-clause-sums
slot_tables-requires-clause-sums c =
    let problem = c.args.problem.now in
    let count = length c.args.settings.now in
    let formed = c.requires.well_formed in
    let size =
    ap length (c.as_slice.ensures.value ∙ c.in_ok-sums.ensures.sums)
    ∙ size_by_place count (λ row. by_place c.args.most (λ place. total (part c.args.raws.now Ends row place) c.args.shifts.now))
    ∙ ap length c.requires.settings.are
    ∙ size_by_place (count_of_points problem) (tests_of problem) in
    record {
      few = subst (λ n. n < 4294967296) (sym size) (few_points problem formed.holds formed.labelled formed.limits);
      size = size;
      small =
          subst AreSmallSums (sym (c.as_slice.ensures.value ∙ c.in_ok-sums.ensures.sums))
          (sums_small side_of c.args.raws.now Ends (length c.args.settings.now) c.args.most c.args.shifts.now c.requires.few c.in_ok-sums.ensures.small);
    }

pub push_switch_tables-requires-clause-sums : goal.push_switch_tables-requires-clause-sums
push_switch_tables-requires-clause-sums c =
    let problem = c.args.problem.now in
    let count = length c.args.settings.now in
    let formed = c.requires.well_formed in
    let size =
    ap length (c.as_slice-2.ensures.value ∙ c.in_ok-sums.ensures.sums)
    ∙ size_by_place count (λ row. by_place c.args.most (λ place. total (part c.args.raws.now Ends row place) c.args.shifts.now))
    ∙ ap length c.requires.settings.are
    ∙ size_by_place (count_of_points problem) (tests_of problem) in
    record {
      few = subst (λ n. n < 4294967296) (sym size) (few_points problem formed.holds formed.labelled formed.limits);
      size = size;
      small =
          subst AreSmallSums (sym (c.as_slice-2.ensures.value ∙ c.in_ok-sums.ensures.sums))
          (sums_small side_of c.args.raws.now Ends (length c.args.settings.now) c.args.most c.args.shifts.now c.requires.few c.in_ok-sums.ensures.small);
    }

pub returns-clause-tables : goal.returns-clause-tables
returns-clause-tables c =
    let problem = c.args.problem.now in
    let raws = c.args.raws.now in
    let most = c.args.most in
    let shifts = c.args.shifts.now in
    let size = ap length c.requires.settings.are ∙ size_by_place (count_of_points problem) (tests_of problem) in
    let sums_are = c.in_ok-sums.ensures.sums ∙ ap (λ n. sums_of raws Ends n most shifts) size in
    (c.in_ok-push_switch_tables.ensures {u = tt})
    ∙ ap (λ (sums : List (List ℤ)). by_place (count_of_points problem) (table_by problem sums)) c.as_slice-2.ensures.value
    ∙ point_tables_made problem shifts raws most c.in_ok-sums.sums.items c.requires.network.by_arcs sums_are c.requires.settings.few

pub returns-clause-small : goal.returns-clause-small
returns-clause-small c number =
    let problem = c.args.problem.now in
    let raws = c.args.raws.now in
    let most = c.args.most in
    let shifts = c.args.shifts.now in
    let size = ap length c.requires.settings.are ∙ size_by_place (count_of_points problem) (tests_of problem) in
    let sums_are = c.in_ok-sums.ensures.sums ∙ ap (λ n. sums_of raws Ends n most shifts) size in
    let same =
    (c.in_ok-push_switch_tables.ensures {u = tt})
    ∙ ap (λ (sums : List (List ℤ)). by_place (count_of_points problem) (table_by problem sums)) c.as_slice-2.ensures.value
    ∙ point_tables_made problem shifts raws most c.in_ok-sums.sums.items c.requires.network.by_arcs sums_are c.requires.settings.few in
    (subst AreSmallPoints (sym same) (point_tables_small problem c.requires.well_formed.labelled c.requires.well_formed.limits shifts c.requires.few c.in_ok-sums.ensures.small)) number
