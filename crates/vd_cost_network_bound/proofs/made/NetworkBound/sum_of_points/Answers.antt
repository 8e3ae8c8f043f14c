use Rattle.std.proofs.Common.{◌≡◌, ◌<◌, [], Option, List, ℤ, length, get_or, ap, ◌∙◌, arith}
use Rattle.std.specs.List.{range_with_len}
use Rattle.std.proofs.lemmas.Int.{ints}
use Rattle.vd_space.specs.Costs.{total}
use Rattle.vd_space_prefix.specs.Transfers.{by_place}
use Rattle.vd_space_prefix.proofs.Front.{total_range_more, at_place, size_by_place}
use Rattle.vd_space_tables.proofs.Front.{get_or_any}
use Rattle.vd_cost_network_prefix.specs.States.{as_states, count_of_points, point_part}
use Rattle.vd_space_tables.specs.declared.space_terms.sums.Rows.TheVariants.{Ends}
use Rattle.vd_cost_network_tables.specs.Sums.{part, sums_of}
use Rattle.vd_cost_network_tables.specs.Tables.{point_tables_of}
use Rattle.vd_cost_network_tables.proofs.Front.{row_is, row_small}
use Rattle.vd_cost_network_bound.specs.Bounds.{values_at}
use Rattle.vd_cost_network_bound.proofs.Alone.{point_is, values_light}
use Rattle.vd_cost_network_bound.proofs.Summed.{count_is, few_at}
use Rattle.vd_cost_network_bound.proofs.made.NetworkBound.sum_of_points.Goals as goal

pub index-requires : goal.index-requires
index-requires c =
    let count = length c.as_slice-count.result.now in
    let same = ap length c.in_ok-sums.ensures.sums in
    let size = size_by_place count (λ row. by_place c.most_settings-most.result (λ place. total (part c.as_slice-2.result.now Ends row place) c.args.shifts.now)) in
    omega (arith, same, size)

pub least_of_point-requires-clause-values : goal.least_of_point-requires-clause-values
least_of_point-requires-clause-values c v =
    let problem = c.args.problem.now in
    let point = c.loop-point.point in
    let all = c.as_slice-in-loop-point-2.ensures ∙ c.requires.bound.values in
    let count = count_is problem c.args.self.now c.requires.bound c.as_slice-count.result.now c.as_slice-count.ensures in
    let low : point < count_of_points problem = omega (arith, count) in
    let own = c.index-as_slice-point.result in
    let values = c.as_slice-values.ensures ∙ c.index-as_slice-point.is ∙ ap (λ (rows : List (List (Option ℤ))). get_or rows point own) all ∙ at_place (count_of_points problem) (values_at problem) point own low in
    values_light problem c.requires.bound.well_formed.labelled c.requires.bound.well_formed.limits point c.as_slice-values.result.now values v

pub least_of_point-requires-clause-amounts : goal.least_of_point-requires-clause-amounts
least_of_point-requires-clause-amounts c v =
    let raws = c.as_slice-2.result.now in
    let most = c.most_settings-most.result in
    let shifts = c.args.shifts.now in
    let point = c.loop-point.point in
    let line = c.as_slice-in-loop-point-3.result.now in
    let is = row_is raws Ends (length c.as_slice-count.result.now) most shifts c.in_ok-sums.sums.items point line c.index.result.now c.in_ok-sums.ensures.sums c.loop-point-test.true (c.as_slice-in-loop-point-3.ensures ∙ c.index.ensures) in
    row_small raws Ends most shifts point line c.requires.few c.in_ok-sums.ensures.small is v

pub loop-point-preserved : goal.loop-point-preserved
loop-point-preserved c =
    let problem = c.args.problem.now in
    let bound = c.args.self.now in
    let raws = c.as_slice-2.result.now in
    let most = c.most_settings-most.result in
    let shifts = c.args.shifts.now in
    let states = c.args.states.now in
    let point = c.loop-point.point in
    let line = c.as_slice-in-loop-point-3.result.now in
    let sums = c.in_ok-sums.sums.items in
    let own = c.index-as_slice-point.result in
    let count = count_is problem bound c.requires.bound c.as_slice-count.result.now c.as_slice-count.ensures in
    let low : point < count_of_points problem = omega (arith, count) in
    let sums_are : sums ≡ sums_of raws Ends (count_of_points problem) most shifts = c.in_ok-sums.ensures.sums ∙ ap (λ n. sums_of raws Ends n most shifts) count in
    let same = ap length c.in_ok-sums.ensures.sums in
    let size = size_by_place (length c.as_slice-count.result.now) (λ row. by_place most (λ place. total (part raws Ends row place) shifts)) in
    let low_row : point < length sums = omega (arith, same, size) in
    let line_is = c.as_slice-in-loop-point-3.ensures ∙ c.index.ensures ∙ get_or_any sums point c.index.result.now [] low_row in
    let all = c.as_slice-in-loop-point-2.ensures ∙ c.requires.bound.values in
    let values = c.as_slice-values.ensures ∙ c.index-as_slice-point.is ∙ ap (λ (rows : List (List (Option ℤ))). get_or rows point own) all ∙ at_place (count_of_points problem) (values_at problem) point own low in
    let few = few_at problem bound c.requires.bound c.as_slice.result.now most c.as_slice.ensures c.most_settings-most.ensures.places c.most_settings-most.ensures.switches in
    let is = point_is problem c.requires.bound.well_formed.labelled c.requires.bound.well_formed.limits shifts c.requires.few c.in_ok-sums.ensures.small most few states c.requires.states
    c.as_slice-in-loop-point.result.now (c.as_slice-in-loop-point.ensures ∙ c.requires.bound.free)
    raws point sums line c.as_slice-values.result.now c.settings_at-settings.result.now c.least_of_point.result
    (c.as_slice-2.ensures ∙ c.requires.bound.arcs) sums_are low line_is values c.settings_at-settings.ensures c.least_of_point.ensures in
    let more = total_range_more (point_part (point_tables_of problem shifts) (as_states states)) point in
    let so_far = c.loop-point.invariant.sum in
    let sum_low = c.loop-point.invariant.within.low in
    let sum_high = c.loop-point.invariant.within.high in
    let here = is.is in
    let here_low = is.within.low in
    let here_high = is.within.high in
    record {
      sum = omega (arith, ints, more, so_far, sum_low, sum_high, here, here_low, here_high);
      within = record { low = omega (arith, ints, sum_low, sum_high, here_low, here_high); high = omega (arith, ints, sum_low, sum_high, here_low, here_high) };
    }

pub returns-clause-sum : goal.returns-clause-sum
returns-clause-sum c =
    let problem = c.args.problem.now in
    let shifts = c.args.shifts.now in
    let count = count_is problem c.args.self.now c.requires.bound c.as_slice-count.result.now c.as_slice-count.ensures in
    let whole : c.loop-point.point ≡ count_of_points problem = omega (arith, count) in
    c.loop-point.invariant.sum ∙ ap (λ n. total (point_part (point_tables_of problem shifts) (as_states c.args.states.now)) (range_with_len 0 n)) whole
