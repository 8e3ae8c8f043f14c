use Rattle.std.proofs.Common.{◌≡◌, false}
use Rattle.std.specs.Prelude.{filter}
use Rattle.std.specs.List.{list_any}
use Rattle.vd_base.specs.HostSets.{has_host, hosts}
use Rattle.vd_backends.proofs.acting.any_member.Given as goal

abbrev pub invariant-loop-number : goal.invariant-loop-number
invariant-loop-number g l = list_any (g.T.Test.passes l.test) (filter (has_host l.set) (hosts l.number)) ≡ false
