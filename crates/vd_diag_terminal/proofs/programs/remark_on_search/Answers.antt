use Rattle.std.proofs.Common.{None, refl}
use Rattle.vd_diag_terminal.specs.Programs.{IsBudgetRemark}
use Rattle.vd_diag_terminal.proofs.Least.{least_of}
use Rattle.vd_diag_terminal.proofs.Parts.{of_space}
use Rattle.vd_diag_terminal.proofs.programs.remark_on_search.Goals as goal

pub space_for-requires : goal.space_for-requires
space_for-requires c = least_of c.args.found.now c.program-program.result.now c.labels-labels.result.now c.program-program.ensures c.labels-labels.ensures.same c.labels-labels.ensures.least

pub returns : goal.returns
returns c =
    let sentence = c.in_ok-sentence.sentence in
    of_space (IsBudgetRemark c.args.budget) c.args.found.now c.program-program.result.now c.labels-labels.result.now c.program-program.ensures c.labels-labels.ensures.same c.in_ok-space.space (record { offset = None; sentence = sentence })
    (c.in_ok-space.ensures {u = tt}) (record { place = refl; tells = c.in_ok-sentence.ensures {u = tt} })
