use Rattle.std.proofs.Common.{sym, ◌∙◌, rules, tests}
use Rattle.std.proofs.lemmas.Iterator.{YieldsList-from_slice}
use Rattle.std.proofs.lemmas.Iterator.Search.{any_from_yields_List}
use Rattle.vd_execution.specs.declared.instructions.Reg.{Reg}
use Rattle.vd_reorder.specs.ReorderLawsTesting.{has}
use Rattle.vd_reorder.specs.InRows.{in_rows}
use Rattle.vd_reorder.proofs.InRows.{meet_any, meet_turned}
use Rattle.vd_reorder.proofs.registers.any_among.Goals as goal

pub returns-clause-among : goal.returns-clause-among
returns-clause-among c =
    any_from_yields_List (λ (x : Reg). has x (in_rows c.args.rows)) _ _ _ c.any.ensures.ran (YieldsList-from_slice c.args.registers.now cc) (λ x b q k. search (rules, tests))
    ∙ sym (meet_any c.args.registers.now (in_rows c.args.rows))

pub returns-clause-turned : goal.returns-clause-turned
returns-clause-turned c =
    any_from_yields_List (λ (x : Reg). has x (in_rows c.args.rows)) _ _ _ c.any.ensures.ran (YieldsList-from_slice c.args.registers.now cc) (λ x b q k. search (rules, tests))
    ∙ sym (meet_any c.args.registers.now (in_rows c.args.rows))
    ∙ meet_turned c.args.registers.now (in_rows c.args.rows)
