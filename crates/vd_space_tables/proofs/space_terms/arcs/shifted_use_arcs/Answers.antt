use Rattle.std.proofs.Common.{◌≡◌, length, sym, ap, ◌∙◌, subst, arith}
use Rattle.vd_space.specs.declared.problem.Use.{Use}
use Rattle.vd_space.specs.Validity.{protocols}
use Rattle.vd_space.specs.Bounds.{side_of}
use Rattle.vd_space.specs.Costs.{total}
use Rattle.vd_space_prefix.specs.Transfers.{ArePrices, by_place}
use Rattle.vd_space_prefix.proofs.Front.{size_by_place}
use Rattle.vd_space_tables.specs.declared.space_terms.sums.Rows.TheVariants.{Firsts, Seconds}
use Rattle.vd_space_tables.specs.Sums.{part}
use Rattle.vd_space_tables.proofs.Cells.{moves_small, moves_size}
use Rattle.vd_space_tables.proofs.Network.{shifted_size}
use Rattle.vd_space_tables.proofs.Placing.{row_is}
use Rattle.vd_space_tables.proofs.Stepping.{use_next, use_transfer_is, all_network}
use Rattle.vd_space_tables.proofs.space_terms.arcs.shifted_use_arcs.Goals as goal

pub index-requires : goal.index-requires
index-requires c =
    let uses = c.as_slice-uses.result.now in
    let same = ap length c.in_ok-from.ensures.sums in
    let size = size_by_place (length uses) (λ row. by_place (length c.args.moves.now) (λ place. total (part side_of uses Firsts row place) c.args.shifts.now)) in
    omega (arith, same, size)

pub index-requires-in-loop-number : goal.index-requires-in-loop-number
index-requires-in-loop-number c =
    let uses = c.as_slice-uses.result.now in
    let same = ap length c.in_ok-to.ensures.sums in
    let size = size_by_place (length uses) (λ row. by_place (length c.args.moves.now) (λ place. total (part side_of uses Seconds row place) c.args.shifts.now)) in
    omega (arith, same, size)

pub use_arc-requires-clause-moves : goal.use_arc-requires-clause-moves
use_arc-requires-clause-moves c = subst ArePrices (sym c.requires.moves) (moves_small c.args.problem.now c.requires.well_formed.labelled)

abbrev none : Use
none = record { source = record { 0 = 0 }; target = record { 0 = 0 }; weight = 0 }

pub use_arc-requires-clause-transfer : goal.use_arc-requires-clause-transfer
use_arc-requires-clause-transfer c =
    let problem = c.args.problem.now in
    let shifts = c.args.shifts.now in
    let uses = c.as_slice-uses.result.now in
    let n = c.loop-number.number in
    let many = length (protocols problem) in
    let same : length c.args.moves.now ≡ many = ap length c.requires.moves ∙ moves_size problem in
    let from = row_is side_of uses problem.uses Firsts (length uses) (length c.args.moves.now) many shifts c.in_ok-from.from.items n c.as_slice-from.result.now c.index.result.now
    c.as_slice-uses.ensures c.in_ok-from.ensures.sums c.loop-number-test.true same (c.as_slice-from.ensures ∙ c.index.ensures) in
    let to = row_is side_of uses problem.uses Seconds (length uses) (length c.args.moves.now) many shifts c.in_ok-to.to.items n c.as_slice-to.result.now c.index-in-loop-number.result.now
    c.as_slice-uses.ensures c.in_ok-to.ensures.sums c.loop-number-test.true same (c.as_slice-to.ensures ∙ c.index-in-loop-number.ensures) in
    use_transfer_is problem c.requires.well_formed.labelled c.requires.well_formed.limits shifts c.requires.few c.in_ok-from.ensures.small uses n none c.as_slice-from.result.now c.as_slice-to.result.now c.as_slice-uses.ensures c.loop-number-test.true from to

pub loop-number-preserved : goal.loop-number-preserved
loop-number-preserved c =
    let problem = c.args.problem.now in
    let shifts = c.args.shifts.now in
    let uses = c.as_slice-uses.result.now in
    let n = c.loop-number.number in
    let many = length (protocols problem) in
    let same : length c.args.moves.now ≡ many = ap length c.requires.moves ∙ moves_size problem in
    let from = row_is side_of uses problem.uses Firsts (length uses) (length c.args.moves.now) many shifts c.in_ok-from.from.items n c.as_slice-from.result.now c.index.result.now
    c.as_slice-uses.ensures c.in_ok-from.ensures.sums c.loop-number-test.true same (c.as_slice-from.ensures ∙ c.index.ensures) in
    let to = row_is side_of uses problem.uses Seconds (length uses) (length c.args.moves.now) many shifts c.in_ok-to.to.items n c.as_slice-to.result.now c.index-in-loop-number.result.now
    c.as_slice-uses.ensures c.in_ok-to.ensures.sums c.loop-number-test.true same (c.as_slice-to.ensures ∙ c.index-in-loop-number.ensures) in
    use_next problem c.requires.well_formed.labelled c.requires.well_formed.limits c.requires.well_formed.holds c.args.candidates.now c.requires.candidates c.args.moves.now c.requires.moves shifts c.requires.few c.in_ok-from.ensures.small uses c.as_slice-uses.ensures
    n none c.as_slice-from.result.now c.as_slice-to.result.now c.loop-number.arcs c.push.new.self c.in_ok-use_arc.field-0 c.loop-number-test.true from to c.loop-number.invariant c.in_ok-use_arc.ensures c.in_ok-push.ensures.ok

pub returns : goal.returns
returns c =
    let size = shifted_size c.args.problem.now c.args.shifts.now 0 c.args.problem.now.uses in
    let same = ap length c.as_slice-uses.ensures in
    all_network c.args.problem.now c.args.moves.now _ c.loop-number.arcs c.loop-number.number (omega (arith, size, same)) c.loop-number.invariant
