use Rattle.std.proofs.Common.{◌≡◌, List, subst, ◌∙◌}
use Rattle.std.specs.Prelude.{IfOk}
use Rattle.vd_execution.specs.declared.instructions.Instr.{Instr}
use Rattle.vd_deal_needs.specs.Needs.{needs_of}
use Rattle.vd_deal_needs.proofs.Countable.{few_codes, few_needs, split_codes}
use Rattle.vd_deal_needs.proofs.deal_needs_programs.needed.needs_of_program.Goals as goal

pub needs-requires-clause-few : goal.needs-requires-clause-few
needs-requires-clause-few c =
    few_codes c.args.program.now c.args.protocols.now c.requires.made (c.as_slice.result.now) (c.as_slice.ensures ∙ c.in_ok-codes.ensures {u = tt})

pub needs-requires-clause-countable : goal.needs-requires-clause-countable
needs-requires-clause-countable c =
    split_codes c.args.program.now c.args.protocols.now c.requires
    (c.as_slice.result.now) (c.as_slice.ensures ∙ c.in_ok-codes.ensures {u = tt})

pub returns-clause-needs : goal.returns-clause-needs
returns-clause-needs c =
    subst (λ (codes : List (List Instr)). IfOk c.needs.result (λ needs. needs ≡ needs_of codes)) (c.as_slice.ensures ∙ c.in_ok-codes.ensures {u = tt}) c.needs.ensures

pub returns-clause-few : goal.returns-clause-few
returns-clause-few c =
    few_needs c.needs.result c.as_slice.result.now
    (few_codes c.args.program.now c.args.protocols.now c.requires.made c.as_slice.result.now (c.as_slice.ensures ∙ c.in_ok-codes.ensures {u = tt})) c.needs.ensures
