use Rattle.std.proofs.Common.{List, sym, subst}
use Rattle.vd_execution.specs.declared.instructions.Instr.{Instr}
use Rattle.vd_deal_needs.specs.Counted.{IsCountable}
use Rattle.vd_deal_needs.proofs.Front.{of_can_run}
use Rattle.vd_cmd_needs.proofs.program.needs_in.Goals as goal

pub host_needs-requires : goal.host_needs-requires
host_needs-requires c = subst (λ (code : List Instr). IsCountable code) (sym c.as_slice-2.ensures) (of_can_run c.args.program.now c.requires.code)
