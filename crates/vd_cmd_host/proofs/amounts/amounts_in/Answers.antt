use Rattle.std.proofs.Common.{List, sym, subst}
use Rattle.vd_execution.specs.declared.instructions.Instr.{Instr}
use Rattle.vd_deal_needs.specs.Counted.{IsCountable}
use Rattle.vd_deal_needs.proofs.Front.{of_can_run}
use Rattle.vd_cmd_host.proofs.amounts.amounts_in.Goals as goal

pub amounts_of-requires : goal.amounts_of-requires
amounts_of-requires c = subst (λ (code : List Instr). IsCountable code) (sym c.as_slice-2.ensures) (of_can_run c.args.loaded.now.program c.requires.code)
