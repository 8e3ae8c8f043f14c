use Rattle.vd_execution.specs.Joint.{started}
use Rattle.vd_execution.specs.World.{run}
use Rattle.vd_execution.proofs.Compiled.{on_the_way}
use Rattle.vd_execution.proofs.Standing.{ready_steps, steps_ready}
use Rattle.vd_execution.proofs.execution_confluence.ready_hosts_step.Goals as goal

pub returns : goal.returns
returns c = λ s j b h well. (ready_steps s (run s b (started j)) h (on_the_way s j b well).faultless, steps_ready s (run s b (started j)) h)
