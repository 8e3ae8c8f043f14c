use Rattle.std.proofs.Common.{◌≡◌, ◌++◌}
use Rattle.vd_space_api.specs.Ledger.{made}
use Rattle.vd_space_api.proofs.space_shifts.ledger.push_shifts.Given as goal

abbrev pub invariant-loop-place : goal.invariant-loop-place
invariant-loop-place l = l.shifts ≡ l.initial.shifts ++ made l.at l.side l.add l.amounts l.place
