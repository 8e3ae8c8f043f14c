use Rattle.std.proofs.Common.{length, List, ap, ◌∙◌}
use Rattle.vd_world.specs.Hosts.{HostKept, supply_of, world_of}
use Rattle.vd_world.proofs.Loaded.{are_machines, hosts_as_many, starts, takes, then_ok}
use Rattle.vd_world.proofs.world_report.playing.start.Goals as goal

pub start-requires : goal.start-requires
start-requires c = are_machines _ _ _ c.in_ok-machines.machines.items c.requires c.in_ok-machines.ensures

pub returns-clause-world : goal.returns-clause-world
returns-clause-world c = λ j of_joint.
    then_ok c.start.result (λ w is. ap (λ (hosts : List HostKept). world_of hosts) is ∙ starts _ _ _ c.in_ok-machines.machines.items c.requires c.in_ok-machines.ensures j of_joint) c.start.ensures

pub returns-clause-supply : goal.returns-clause-supply
returns-clause-supply c =
    then_ok c.start.result (λ w is. ap (λ (hosts : List HostKept). supply_of hosts) is ∙ takes _ _ _ c.in_ok-machines.machines.items c.requires c.in_ok-machines.ensures) c.start.ensures

pub returns-clause-hosts : goal.returns-clause-hosts
returns-clause-hosts c =
    then_ok c.start.result (λ w is. ap (λ (hosts : List HostKept). length hosts) is ∙ hosts_as_many _ _ _ c.in_ok-machines.machines.items c.requires c.in_ok-machines.ensures) c.start.ensures
