use Rattle.std.proofs.Common.{◌≡◌, ◌∙◌}
use Rattle.std.proofs.lemmas.Result.{IfOk-weaker}
use Rattle.vd_space.specs.Costs.{operation_term}
use Rattle.vd_space_tables.specs.Charges.{charge_from, charge_of}
use Rattle.vd_space_tables.proofs.Loops.{charged}
use Rattle.vd_space_tables.proofs.charges.operation_charge.Goals as goal

pub returns : goal.returns
returns c =
    let problem = c.args.problem.now in
    let term = operation_term problem c.args.slot in
    IfOk-weaker c.of.result (λ charge. charge ≡ charge_from c.args.slot c.as_slice.result.now c.tests_at-tests.result.now) (λ charge. charge ≡ charge_of problem term)
    (λ charge is. is ∙ charged problem term c.args.list.now c.args.candidates.now c.in_ok-values.values c.as_slice.result.now c.tests_at-tests.result.now c.requires.list.all c.requires.candidates c.requires.slot c.as_slice.ensures c.in_ok-values.ensures c.tests_at-tests.ensures)
    c.of.ensures
