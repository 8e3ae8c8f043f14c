use Rattle.std.proofs.Common.{◌<◌, length, get_or, ◌∙◌, arith}
use Rattle.std.proofs.lemmas.List.{get_or_default, length-set}
use Rattle.vd_execution.specs.declared.instructions.Reg.{Reg}
use Rattle.vd_machine.specs.Machines.{held}
use Rattle.vd_machine.proofs.Packets.{one_more}
use Rattle.vd_machine.proofs.did.packet_of.Goals as goal

pub loop-i-preserved : goal.loop-i-preserved
loop-i-preserved c =
    let first : Reg = record { 0 = 0 } in
    let registers = c.args.registers.now.items in
    let at = (get_or c.args.from.now c.loop-i.i first).0 in
    let inside : at < length registers = c.requires.within c.loop-i.i first c.loop-i-test.true in
    let full = c.loop-i.invariant.full in
    let more = c.loop-i-test.true in
    let few = c.requires.few in
    record {
      full = length-set c.loop-i.words c.loop-i.i c.index.result.now ∙ full;
      within = omega (arith, more);
      so_far = one_more (held registers) c.args.from.now c.loop-i.words c.loop-i.i c.index.result.now first more (omega (arith, more, full, few))
          (c.index.ensures ∙ get_or_default registers at c.index.result.now 0 inside) c.loop-i.invariant.so_far;
    }
