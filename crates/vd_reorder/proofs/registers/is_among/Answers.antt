use Rattle.std.proofs.Common.{nat_eq, sym, ◌∙◌, rules, tests}
use Rattle.std.proofs.lemmas.Iterator.{YieldsList-from_slice}
use Rattle.std.proofs.lemmas.Iterator.Search.{any_from_yields_List}
use Rattle.vd_execution.specs.declared.instructions.Reg.{Reg}
use Rattle.vd_reorder.proofs.InRows.{has_any}
use Rattle.vd_reorder.proofs.registers.is_among.Goals as goal

pub returns : goal.returns
returns c =
    any_from_yields_List (λ (x : Reg). nat_eq c.args.register.0 x.0) _ _ _ c.any.ensures.ran (YieldsList-from_slice c.args.registers.now cc) (λ x b q k. search (rules, tests))
    ∙ sym (has_any c.args.register c.args.registers.now)
