use Rattle.std.proofs.Common.{sym, subst}
use Rattle.vd_test_rows.specs.Codes.{CanLoad}
use Rattle.vd_test_rows.proofs.Loads.{counting_loads}
use Rattle.vd_test_rows.proofs.jobs.hosts.world.Goals as goal

pub two-requires-clause-first : goal.two-requires-clause-first
two-requires-clause-first c = subst CanLoad (sym c.in_ok-counting_code.ensures) (counting_loads c.args.turns)
