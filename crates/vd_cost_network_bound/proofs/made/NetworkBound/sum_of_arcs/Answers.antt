use Rattle.std.proofs.Common.{[], None, Option, List, ℕ, ℤ, pos, length, get_or, sym, ap, ◌∙◌, subst, arith}
use Rattle.std.specs.Prelude.{unwrap_or}
use Rattle.std.proofs.lemmas.Int.{ints}
use Rattle.vd_space.specs.Costs.{total}
use Rattle.vd_space_prefix.specs.Transfers.{IsWithin, by_place}
use Rattle.vd_space_prefix.proofs.Front.{total_range_more, size_by_place}
use Rattle.vd_cost_network_prefix.specs.States.{as_states, arc_part}
use Rattle.vd_space_tables.specs.declared.space_terms.sums.Rows.TheVariants.{Firsts, Seconds}
use Rattle.vd_cost_network_tables.specs.Sums.{part}
use Rattle.vd_cost_network_tables.specs.Tables.{arc_tables_of}
use Rattle.vd_cost_network_tables.proofs.Front.{row_is, row_small, raw_light}
use Rattle.vd_cost_network_bound.specs.Least.{settings_at}
use Rattle.vd_cost_network_bound.proofs.Joined.{part_is}
use Rattle.vd_cost_network_bound.proofs.Summed.{few_at}
use Rattle.vd_cost_network_bound.proofs.made.NetworkBound.sum_of_arcs.Goals as goal

pub index-requires : goal.index-requires
index-requires c =
    let raws = c.as_slice-arcs.result.now in
    let same = ap length c.in_ok-from.ensures.sums in
    let size = size_by_place (length raws) (λ row. by_place c.most_settings-most.result (λ place. total (part raws Firsts row place) c.args.shifts.now)) in
    omega (arith, same, size)

pub index-requires-in-loop-number : goal.index-requires-in-loop-number
index-requires-in-loop-number c =
    let raws = c.as_slice-arcs.result.now in
    let same = ap length c.in_ok-to.ensures.sums in
    let size = size_by_place (length raws) (λ row. by_place c.most_settings-most.result (λ place. total (part raws Seconds row place) c.args.shifts.now)) in
    omega (arith, same, size)

pub least_of_arc-requires-clause-cells : goal.least_of_arc-requires-clause-cells
least_of_arc-requires-clause-cells c v w =
    let raws = c.as_slice-arcs.result.now in
    subst (λ (cells : List (List (Option ℤ))). IsWithin 562949953421312 (unwrap_or (get_or (get_or cells v []) w None) (pos 0))) (sym c.as_slice-cells.ensures)
    (raw_light c.args.problem.now c.requires.bound.well_formed.labelled c.requires.bound.well_formed.limits raws c.index-arcs-number.result c.loop-number.number (c.as_slice-arcs.ensures ∙ c.requires.bound.arcs) c.loop-number-test.true c.index-arcs-number.is v w)

pub least_of_arc-requires-clause-from : goal.least_of_arc-requires-clause-from
least_of_arc-requires-clause-from c v =
    let raws = c.as_slice-arcs.result.now in
    let most = c.most_settings-most.result in
    let n = c.loop-number.number in
    let is = row_is raws Firsts (length raws) most c.args.shifts.now c.in_ok-from.from.items n c.as_slice-from.result.now c.index.result.now c.in_ok-from.ensures.sums c.loop-number-test.true (c.as_slice-from.ensures ∙ c.index.ensures) in
    row_small raws Firsts most c.args.shifts.now n c.as_slice-from.result.now c.requires.few c.in_ok-from.ensures.small is v

pub least_of_arc-requires-clause-to : goal.least_of_arc-requires-clause-to
least_of_arc-requires-clause-to c w =
    let raws = c.as_slice-arcs.result.now in
    let most = c.most_settings-most.result in
    let n = c.loop-number.number in
    let is = row_is raws Seconds (length raws) most c.args.shifts.now c.in_ok-to.to.items n c.as_slice-to.result.now c.index-in-loop-number.result.now c.in_ok-to.ensures.sums c.loop-number-test.true (c.as_slice-to.ensures ∙ c.index-in-loop-number.ensures) in
    row_small raws Seconds most c.args.shifts.now n c.as_slice-to.result.now c.requires.few c.in_ok-to.ensures.small is w

pub loop-number-preserved : goal.loop-number-preserved
loop-number-preserved c =
    let problem = c.args.problem.now in
    let bound = c.args.self.now in
    let raws = c.as_slice-arcs.result.now in
    let raw = c.index-arcs-number.result in
    let most = c.most_settings-most.result in
    let shifts = c.args.shifts.now in
    let states = c.args.states.now in
    let n = c.loop-number.number in
    let from_is = row_is raws Firsts (length raws) most shifts c.in_ok-from.from.items n c.as_slice-from.result.now c.index.result.now c.in_ok-from.ensures.sums c.loop-number-test.true (c.as_slice-from.ensures ∙ c.index.ensures) in
    let to_is = row_is raws Seconds (length raws) most shifts c.in_ok-to.to.items n c.as_slice-to.result.now c.index-in-loop-number.result.now c.in_ok-to.ensures.sums c.loop-number-test.true (c.as_slice-to.ensures ∙ c.index-in-loop-number.ensures) in
    let firsts = c.settings_at-firsts.ensures ∙ ap (λ (free : List (List ℕ)). settings_at free states raw.first) c.as_slice-in-loop-number.ensures in
    let seconds = c.settings_at-seconds.ensures ∙ ap (λ (free : List (List ℕ)). settings_at free states raw.second) c.as_slice-in-loop-number-2.ensures in
    let few = few_at problem bound c.requires.bound c.as_slice.result.now most c.as_slice.ensures c.most_settings-most.ensures.places c.most_settings-most.ensures.switches in
    let is = part_is problem c.requires.bound.well_formed.labelled c.requires.bound.well_formed.limits shifts c.requires.few c.in_ok-from.ensures.small most few states c.requires.states bound.free c.requires.bound.free
    raws n raw c.as_slice-from.result.now c.as_slice-to.result.now c.settings_at-firsts.result.now c.settings_at-seconds.result.now c.as_slice-cells.result.now c.least_of_arc.result
    (c.as_slice-arcs.ensures ∙ c.requires.bound.arcs) c.loop-number-test.true c.index-arcs-number.is from_is to_is firsts seconds c.as_slice-cells.ensures c.least_of_arc.ensures in
    let more = total_range_more (arc_part (arc_tables_of problem shifts) (as_states states)) n in
    let so_far = c.loop-number.invariant.sum in
    let sum_low = c.loop-number.invariant.within.low in
    let sum_high = c.loop-number.invariant.within.high in
    let here = is.is in
    let here_low = is.within.low in
    let here_high = is.within.high in
    record {
      sum = omega (arith, ints, more, so_far, sum_low, sum_high, here, here_low, here_high);
      within = record { low = omega (arith, ints, sum_low, sum_high, here_low, here_high); high = omega (arith, ints, sum_low, sum_high, here_low, here_high) };
    }
