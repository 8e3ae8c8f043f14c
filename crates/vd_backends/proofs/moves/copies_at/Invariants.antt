use Rattle.std.proofs.Common.{◌≡◌, ◌++◌, drop}
use Rattle.vd_duet.specs.Calls.{in_clear, hosts_of}
use Rattle.vd_backend_laws.specs.Moves.{copies_at}
use Rattle.vd_backends.proofs.moves.copies_at.Given as goal

abbrev pub invariant-loop-host : goal.invariant-loop-host
invariant-loop-host l = record {
  exact : in_clear l.copies ++ copies_at (drop l.host-index l.hosts) (in_clear l.x) ≡ copies_at l.hosts (in_clear l.x);
  hosts : hosts_of (in_clear l.copies) ++ drop l.host-index l.hosts ≡ l.hosts;
}
