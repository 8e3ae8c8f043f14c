use Rattle.std.proofs.Common.{refl, arith, subst, sym, List}
use Rattle.std.specs.Prelude.{All}
use Rattle.vd_execution.specs.declared.instructions.Instr.{Instr}
use Rattle.vd_machine.specs.Widths.{InstrFits}
use Rattle.vd_machine.proofs.Widths.{text_fits, code_fits}
use Rattle.vd_machine.proofs.Loading.{load_sound, load_pending, load_room, load_registers, load_peers, load_packets, at_start_is}
use Rattle.vd_machine.proofs.machine.Machine.load.Goals as goal

pub invariant_of-result : goal.invariant_of-result
invariant_of-result c =
    let many = c.in_ok-below.ensures.exact in
    let k = c.requires.code.0 in
    let is = c.in_ok-code.ensures k c.requires.code.1 in (
      load_sound c.in_ok-code.code.items c.len.result c.in_ok-below.below.items c.in_ok-registers.registers.items _ c.in_ok-taken.taken c.width.result k is
          (omega (arith, c.len.ensures, c.in_ok-code.code.ok.0)) c.in_ok-below.ensures.items c.in_ok-registers.ensures (code_fits c.width.result c.args.code k c.requires.code.1 (subst (λ l. All (λ i. InstrFits c.width.result i) l) c.as_slice.ensures c.width.ensures.fits))
          (load_peers _ c.in_ok-taken.taken _ c.requires.deal refl c.in_ok-taken.ensures.triples c.in_ok-taken.ensures.bits c.in_ok-taken.ensures.pairs),
      load_room c.args.code c.in_ok-code.code.items c.len.result c.in_ok-below.below.items k 512 c.requires.code.1 is (omega (arith, c.len.ensures, c.in_ok-code.code.ok.0)) c.in_ok-below.ensures.items c.requires.code.2.blocks,
      omega (arith, many),
      load_packets c.args.deal.hosts c.in_ok-code.code.items k is c.requires.code.2.packets,
    )

pub returns-clause-pending : goal.returns-clause-pending
returns-clause-pending c = λ k is.
    at_start_is _ k _ _
    (load_pending c.args.code c.in_ok-code.code.items c.len.result c.in_ok-below.below.items k is (c.in_ok-code.ensures k is) (omega (arith, c.len.ensures, c.in_ok-code.code.ok.0)) c.in_ok-below.ensures.items)
    (load_registers c.in_ok-registers.registers.items c.width.result c.in_ok-registers.ensures) c.in_ok-taken.ensures.cursors

pub width-requires : goal.width-requires
width-requires c =
    let k = c.requires.code.0 in
    subst (λ (l : List Instr). All (λ i. InstrFits 2097152 i) l) (sym c.as_slice.ensures) (text_fits 2097152 c.args.code k c.requires.code.1 c.requires.code.2.registers)
