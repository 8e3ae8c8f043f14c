use Rattle.std.proofs.Common.{List, ap₂, ◌∙◌}
use Rattle.vd_execution.specs.declared.instructions.Reg.{Reg}
use Rattle.vd_duet.specs.Calls.{appended}
use Rattle.vd_commit.specs.Commit.{same_each}
use Rattle.vd_commit.proofs.calls.check.Goals as goal

pub returns : goal.returns
returns c =
    c.in_ok-compare.ensures {u = tt}
    ∙ ap₂ (λ (i j : List Reg). appended (same_each c.args.host i j) c.args.code.now) c.eight.ensures c.eight-2.ensures
