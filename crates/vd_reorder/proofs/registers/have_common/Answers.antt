use Rattle.std.proofs.Common.{sym, ◌∙◌, rules, tests}
use Rattle.std.proofs.lemmas.Iterator.{YieldsList-from_slice}
use Rattle.std.proofs.lemmas.Iterator.Search.{any_from_yields_List}
use Rattle.vd_execution.specs.declared.instructions.Reg.{Reg}
use Rattle.vd_reorder.specs.ReorderLawsTesting.{has}
use Rattle.vd_reorder.proofs.InRows.{meet_any}
use Rattle.vd_reorder.proofs.registers.have_common.Goals as goal

pub returns : goal.returns
returns c =
    any_from_yields_List (λ (x : Reg). has x c.args.others.now) _ _ _ c.any.ensures.ran (YieldsList-from_slice c.args.registers.now cc) (λ x b q k. search (rules, tests))
    ∙ sym (meet_any c.args.registers.now c.args.others.now)
