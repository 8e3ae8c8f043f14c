use Rattle.std.proofs.Common.{List, sym, subst}
use Rattle.vd_execution.specs.declared.instructions.Instr.{Instr}
use Rattle.vd_rounds.specs.Tallies.{IsTold}
use Rattle.vd_cmd_needs.proofs.Rounding.{told_of_can_run}
use Rattle.vd_cmd_needs.proofs.program.told_by.Goals as goal

pub told_text-requires-clause-told : goal.told_text-requires-clause-told
told_text-requires-clause-told c = subst (λ (code : List Instr). IsTold code) (sym c.as_slice-code.ensures) (told_of_can_run c.args.program.now c.requires.code)
