use Rattle.std.proofs.Common.{sym, subst}
use Rattle.vd_test_rows.specs.Codes.{CanLoad}
use Rattle.vd_test_rows.proofs.Loads.{speaker_loads, listener_loads}
use Rattle.vd_test_rows.proofs.jobs.hosts.talk.Goals as goal

pub two-requires-clause-first : goal.two-requires-clause-first
two-requires-clause-first c = subst CanLoad (sym c.in_ok-speaker_code.ensures) (speaker_loads c.args.turns)

pub two-requires-clause-second : goal.two-requires-clause-second
two-requires-clause-second c = subst CanLoad (sym c.in_ok-listener_code.ensures) (listener_loads c.args.turns)
