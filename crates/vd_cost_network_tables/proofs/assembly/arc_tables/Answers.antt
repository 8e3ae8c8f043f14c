use Rattle.std.proofs.Common.{◌≡◌, ◌<◌, None, Option, [], List, ℤ, pos, length, get_or, map, sym, ap, ◌∙◌, subst, arith}
use Rattle.std.specs.Prelude.{unwrap_or}
use Rattle.std.proofs.lemmas.List.{length-map, take_all}
use Rattle.vd_space.specs.Costs.{Pair, total}
use Rattle.vd_space_prefix.specs.Transfers.{IsWithin, by_place}
use Rattle.vd_space_prefix.proofs.Front.{size_by_place}
use Rattle.vd_space_tables.proofs.Front.{mapped}
use Rattle.vd_space.specs.Arcs.{arcs}
use Rattle.vd_space.specs.Network.{network_pairs}
use Rattle.vd_cost_network_prefix.specs.States.{AreSmallArcs}
use Rattle.vd_cost_network_prefix.proofs.Front.{pairs_size}
use Rattle.vd_space_tables.specs.declared.space_terms.sums.Rows.TheVariants.{Firsts, Seconds}
use Rattle.vd_cost_network_tables.specs.Sums.{part}
use Rattle.vd_cost_network_tables.specs.Tables.{arc_table, raw_arc, shifted_cells}
use Rattle.vd_cost_network_tables.proofs.Assembling.{tests_found}
use Rattle.vd_cost_network_tables.proofs.Placing.{row_is, row_small}
use Rattle.vd_cost_network_tables.proofs.Ranging.{arc_tables_small, raw_light}
use Rattle.vd_cost_network_tables.proofs.Shifting.{next_table}
use Rattle.vd_cost_network_tables.proofs.assembly.arc_tables.Goals as goal

abbrev none : Pair
none = record { first = 0; second = 0; value = λ p q. None }

pub index-requires : goal.index-requires
index-requires c =
    let raws = c.args.raws.now in
    let same = ap length c.in_ok-from.ensures.sums in
    let size = size_by_place (length raws) (λ row. by_place c.args.most (λ place. total (part raws Firsts row place) c.args.shifts.now)) in
    omega (arith, same, size)

pub index-requires-in-loop-number : goal.index-requires-in-loop-number
index-requires-in-loop-number c =
    let raws = c.args.raws.now in
    let same = ap length c.in_ok-to.ensures.sums in
    let size = size_by_place (length raws) (λ row. by_place c.args.most (λ place. total (part raws Seconds row place) c.args.shifts.now)) in
    omega (arith, same, size)

pub shifted-requires-clause-cells : goal.shifted-requires-clause-cells
shifted-requires-clause-cells c v w =
    let raws = c.args.raws.now in
    let n = c.loop-number.number in
    subst (λ (cells : List (List (Option ℤ))). IsWithin 562949953421312 (unwrap_or (get_or (get_or cells v []) w None) (pos 0))) (sym c.as_slice.ensures)
    (raw_light c.args.problem.now c.requires.well_formed.labelled c.requires.well_formed.limits raws c.index-raws-number.result n c.requires.raws c.loop-number-test.true c.index-raws-number.is v w)

pub shifted-requires-clause-from : goal.shifted-requires-clause-from
shifted-requires-clause-from c v =
    let raws = c.args.raws.now in
    let n = c.loop-number.number in
    let is = row_is raws Firsts (length raws) c.args.most c.args.shifts.now c.in_ok-from.from.items n c.as_slice-from.result.now c.index.result.now c.in_ok-from.ensures.sums c.loop-number-test.true (c.as_slice-from.ensures ∙ c.index.ensures) in
    row_small raws Firsts c.args.most c.args.shifts.now n c.as_slice-from.result.now c.requires.few c.in_ok-from.ensures.small is v

pub shifted-requires-clause-to : goal.shifted-requires-clause-to
shifted-requires-clause-to c w =
    let raws = c.args.raws.now in
    let n = c.loop-number.number in
    let is = row_is raws Seconds (length raws) c.args.most c.args.shifts.now c.in_ok-to.to.items n c.as_slice-to.result.now c.index-in-loop-number.result.now c.in_ok-to.ensures.sums c.loop-number-test.true (c.as_slice-to.ensures ∙ c.index-in-loop-number.ensures) in
    row_small raws Seconds c.args.most c.args.shifts.now n c.as_slice-to.result.now c.requires.few c.in_ok-to.ensures.small is w

pub loop-number-preserved : goal.loop-number-preserved
loop-number-preserved c =
    let problem = c.args.problem.now in
    let shifts = c.args.shifts.now in
    let raws = c.args.raws.now in
    let raw = c.index-raws-number.result in
    let n = c.loop-number.number in
    let pairs = network_pairs shifts 0 (arcs problem) in
    let from_is = row_is raws Firsts (length raws) c.args.most shifts c.in_ok-from.from.items n c.as_slice-from.result.now c.index.result.now c.in_ok-from.ensures.sums c.loop-number-test.true (c.as_slice-from.ensures ∙ c.index.ensures) in
    let to_is = row_is raws Seconds (length raws) c.args.most shifts c.in_ok-to.to.items n c.as_slice-to.result.now c.index-in-loop-number.result.now c.in_ok-to.ensures.sums c.loop-number-test.true (c.as_slice-to.ensures ∙ c.index-in-loop-number.ensures) in
    let cells : c.in_ok-cells.cells ≡ shifted_cells raw.cells c.as_slice-from.result.now c.as_slice-to.result.now =
    c.in_ok-cells.ensures ∙ ap (λ (list : List (List (Option ℤ))). shifted_cells list c.as_slice-from.result.now c.as_slice-to.result.now) c.as_slice.ensures in
    let item = next_table problem shifts c.args.most n raws raw none c.as_slice-from.result.now c.as_slice-to.result.now c.tests_at-firsts.result.now c.tests_at-seconds.result.now c.in_ok-cells.cells c.in_ok-arc_table.field-0
    c.requires.raws c.loop-number-test.true c.index-raws-number.is from_is to_is c.requires.settings.few (c.tests_at-firsts.ensures ∙ tests_found problem c.args.settings.now c.requires.settings.are raw.first) (c.tests_at-seconds.ensures ∙ tests_found problem c.args.settings.now c.requires.settings.are raw.second) cells c.in_ok-arc_table.ensures in
    let size = ap length c.requires.raws ∙ length-map (arcs problem) (raw_arc problem) in
    let many = pairs_size shifts 0 (arcs problem) in
    let low : n < length pairs = omega (arith, size, many) in
    mapped (arc_table problem) pairs n none c.loop-number.tables c.push.new.self c.in_ok-arc_table.field-0 low c.loop-number.invariant item c.in_ok-push.ensures.ok

pub returns-clause-tables : goal.returns-clause-tables
returns-clause-tables c =
    let problem = c.args.problem.now in
    let shifts = c.args.shifts.now in
    let size = ap length c.requires.raws ∙ length-map (arcs problem) (raw_arc problem) in
    let many = pairs_size shifts 0 (arcs problem) in
    let past = c.loop-number-test.false in
    c.loop-number.invariant ∙ ap (map (arc_table problem)) (take_all c.loop-number.number (network_pairs shifts 0 (arcs problem)) (omega (arith, size, many, past)))

pub returns-clause-small : goal.returns-clause-small
returns-clause-small c =
    let problem = c.args.problem.now in
    let shifts = c.args.shifts.now in
    let size = ap length c.requires.raws ∙ length-map (arcs problem) (raw_arc problem) in
    let many = pairs_size shifts 0 (arcs problem) in
    let past = c.loop-number-test.false in
    let same = c.loop-number.invariant ∙ ap (map (arc_table problem)) (take_all c.loop-number.number (network_pairs shifts 0 (arcs problem)) (omega (arith, size, many, past))) in
    subst AreSmallArcs (sym same) (arc_tables_small problem shifts c.requires.few c.in_ok-from.ensures.small c.requires.well_formed.labelled c.requires.well_formed.limits)
