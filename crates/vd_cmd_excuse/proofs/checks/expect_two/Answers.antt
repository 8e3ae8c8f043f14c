use Rattle.std.proofs.Common.{List, ℕ, length, sym, ap, ◌∙◌}
use Rattle.vd_cmd_excuse.proofs.Looked.{are_not_two, are_two}
use Rattle.vd_cmd_excuse.proofs.checks.expect_two.Goals as goal

pub returns-then-count-eq2-clause-checks : goal.returns-then-count-eq2-clause-checks
returns-then-count-eq2-clause-checks c = record { ok = are_two c.args.names.now c.as_slice-count.result.now c.as_slice-count.ensures c.if-count-eq2.true; err = tt }

pub returns-then-count-eq2-clause-two : goal.returns-then-count-eq2-clause-two
returns-then-count-eq2-clause-two c = sym (ap (λ (ns : List (List ℕ)). length ns) c.as_slice-count.ensures) ∙ c.if-count-eq2.true

pub returns-else-count-eq2-clause-checks : goal.returns-else-count-eq2-clause-checks
returns-else-count-eq2-clause-checks c = record { ok = tt; err = are_not_two c.args.names.now c.as_slice-count.result.now c.as_slice-count.ensures c.if-count-eq2.false }
