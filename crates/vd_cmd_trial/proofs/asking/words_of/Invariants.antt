use Rattle.std.proofs.Common.{◌≡◌}
use Rattle.vd_cmd_trial.specs.Trial.{trial_words}
use Rattle.vd_cmd_trial.proofs.asking.words_of.Given as goal

abbrev pub invariant-loop-number : goal.invariant-loop-number
invariant-loop-number l = l.words ≡ trial_words l.number l.host
