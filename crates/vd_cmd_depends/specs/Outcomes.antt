-- The function that picks the one set of hosts that a host depends on.
use Rattle.vd_base.specs.declared.ids.HostId.{HostId}
use Rattle.vd_base.specs.declared.protocols.HostSet.{HostSet}
use Rattle.vd_core.specs.declared.normal.NormalForm.{NormalForm}
use Rattle.vd_constraints.specs.declared.labels.Labels.{Labels}
use Rattle.vd_noninter.specs.NoninterLawsDependence.{AreReached, OfEachHost}
use Rattle.vd_noninter.specs.Hosts.{members}

-- a function that gives each host of a labelled program the hosts whose inputs are reached from what it is told
pub record DependenceOutcomes : Type 0 where
  pub hosts : NormalForm → Labels → HostId → HostSet
  pub hosts_are : OfEachHost (λ p l h. AreReached p l h (members (hosts p l h)))
