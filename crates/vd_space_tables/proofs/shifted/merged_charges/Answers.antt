use Rattle.std.proofs.Common.{◌∙◌, ◌<◌, length, arith}
use Rattle.vd_space.specs.Bounds.{shifted_one}
use Rattle.vd_space_prefix.proofs.Front.{grows}
use Rattle.vd_space_tables.specs.Charges.{charge_of}
use Rattle.vd_space_tables.proofs.Merged.{merged_charged, small_on_slots}
use Rattle.vd_space_tables.proofs.shifted.merged_charges.Goals as goal

pub loop-slot-preserved : goal.loop-slot-preserved
loop-slot-preserved c =
    let problem = c.args.problem.now in
    let slot = c.loop-slot.slot in
    let test = c.loop-slot-test.true in
    let size = c.requires.candidates.size in
    let low : slot < length problem.slots = omega (arith, test, size) in
    grows (λ s. charge_of problem (shifted_one problem c.args.shifts.now s)) slot c.loop-slot.charges c.push.new.self c.in_ok-charge.charge c.loop-slot.invariant
    (c.in_ok-charge.ensures ∙ merged_charged problem c.args.shifts.now slot c.args.list.now c.args.candidates.now c.as_slice.result.now c.in_ok-sums.sums c.as_slice.ensures c.in_ok-sums.ensures.sums c.requires.list.all c.requires.candidates low) c.in_ok-push.ensures.ok

pub returns-clause-small : goal.returns-clause-small
returns-clause-small c = small_on_slots c.args.problem.now c.args.shifts.now c.args.list.now c.in_ok-sums.sums c.in_ok-sums.ensures.sums c.in_ok-sums.ensures.small c.requires.list.all
