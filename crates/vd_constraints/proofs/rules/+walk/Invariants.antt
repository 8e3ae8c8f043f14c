use Rattle.std.proofs.Common.{◌+◌, ◌*◌, ◌++◌, drop}
use Rattle.vd_constraints.specs.Origins.{body_origins}
use Rattle.vd_constraints.specs.Rules.{with_body}
use Rattle.vd_core.specs.Facts.{count_of, statement_count}
use Rattle.vd_constraints.proofs.Walks.{BodySoFar}
use Rattle.vd_constraints.proofs.rules.+walk.Given as goal

abbrev pub decreases-add_body : goal.decreases-add_body
decreases-add_body l = 2 * statement_count l.body.now + 1

abbrev pub decreases-add_stmt : goal.decreases-add_stmt
decreases-add_stmt l = 2 * count_of l.stmt.now

abbrev pub invariant-add_body-loop-stmt : goal.invariant-add_body-loop-stmt
invariant-add_body-loop-stmt l =
    BodySoFar l.initial.system l.system
    (with_body (drop l.stmt-index l.body) l.program l.pc l.system)
    (with_body l.body l.program l.pc l.initial.system)
    (l.origins ++ body_origins l.program (drop l.stmt-index l.body))
    (l.initial.origins ++ body_origins l.program l.body)
