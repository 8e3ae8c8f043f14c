use Rattle.std.proofs.Common.{subst}
use Rattle.vd_machine.specs.Kept.{state_of}
use Rattle.vd_machine.specs.Quietly.{Quietly}
use Rattle.vd_world.specs.Hosts.{HostKept}
use Rattle.vd_world.proofs.host.Host.run.Goals as goal

pub returns-clause-steps : goal.returns-clause-steps
returns-clause-steps c =
    subst (λ (k : HostKept). Quietly k.machine.lists (state_of k.machine) (state_of c.run.new.self)) c.self.view_is c.run.ensures.steps
