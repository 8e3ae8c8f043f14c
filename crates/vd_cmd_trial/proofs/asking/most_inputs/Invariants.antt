use Rattle.std.proofs.Common.{◌≡◌, drop, max}
use Rattle.std.specs.List.{fold}
use Rattle.vd_cmd_trial.specs.Trial.{most_inputs}
use Rattle.vd_cmd_trial.proofs.asking.most_inputs.Given as goal

abbrev pub invariant-loop-host : goal.invariant-loop-host
invariant-loop-host l = fold (λ n host. max n host.inputs) l.most (drop l.host-index l.needs) ≡ most_inputs l.needs
