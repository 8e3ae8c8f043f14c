use Rattle.std.proofs.Common.{◌≡◌, ◌+◌, ◌*◌, drop}
use Rattle.vd_core.specs.Facts.{count_of, statement_count}
use Rattle.vd_noninter.specs.InfluenceEdges.{with_body_made}
use Rattle.vd_noninter.proofs.influence_walk.+walk.Given as goal

abbrev pub decreases-add_body : goal.decreases-add_body
decreases-add_body l = 2 * statement_count l.body.now + 1

abbrev pub decreases-add_stmt : goal.decreases-add_stmt
decreases-add_stmt l = 2 * count_of l.stmt.now

-- what is left leads to what is wanted
abbrev pub invariant-add_body-loop-stmt : goal.invariant-add_body-loop-stmt
invariant-add_body-loop-stmt l =
    with_body_made l.passed l.host.0 (drop l.stmt-index l.body) l.around l.edges
    ≡ with_body_made l.passed l.host.0 l.body l.around l.initial.edges
