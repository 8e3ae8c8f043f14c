use Rattle.std.proofs.Common.{◌≡◌, ℕ, ◌&&◌, nat_lt}
use Rattle.vd_base.specs.HostSets.{has_host, host}
use Rattle.vd_noninter.specs.Reached.{is_marked}
use Rattle.vd_noninter.proofs.reached.Reached.hosts.Given as goal

abbrev pub invariant-loop-host : goal.invariant-loop-host
invariant-loop-host l = (k : ℕ) → has_host l.set (host k) ≡ (nat_lt k l.host && is_marked l.self.hosts k)
