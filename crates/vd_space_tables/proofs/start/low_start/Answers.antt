use Rattle.std.proofs.Common.{ap, ◌∙◌, arith}
use Rattle.std.proofs.lemmas.Int.{ints}
use Rattle.vd_space_tables.specs.Start.{both_total, free_total}
use Rattle.vd_space_tables.proofs.start.low_start.Goals as goal

pub returns : goal.returns
returns c =
    let operations = c.free_sum.ensures.sum ∙ ap free_total c.as_slice.ensures in
    let outputs = c.free_sum-2.ensures.sum ∙ ap free_total c.as_slice-2.ensures in
    let arcs = c.both_sum.ensures.sum ∙ ap both_total c.as_slice-3.ensures in
    let operations_low = c.free_sum.ensures.within.low in
    let operations_high = c.free_sum.ensures.within.high in
    let outputs_low = c.free_sum-2.ensures.within.low in
    let outputs_high = c.free_sum-2.ensures.within.high in
    let arcs_low = c.both_sum.ensures.within.low in
    let arcs_high = c.both_sum.ensures.within.high in
    omega (arith, ints, operations, outputs, arcs, operations_low, operations_high, outputs_low, outputs_high, arcs_low, arcs_high)
