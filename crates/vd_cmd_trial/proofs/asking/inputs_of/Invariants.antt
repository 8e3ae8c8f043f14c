use Rattle.std.proofs.Common.{◌≡◌}
use Rattle.vd_cmd_trial.specs.Trial.{trial_inputs}
use Rattle.vd_cmd_trial.proofs.asking.inputs_of.Given as goal

abbrev pub invariant-loop-host : goal.invariant-loop-host
invariant-loop-host l = l.inputs ≡ trial_inputs l.host l.many
