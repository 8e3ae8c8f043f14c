use Rattle.vd_tape.proofs.Front.{next_of}
use Rattle.vd_cmd_trial.specs.Trial.{trial_input}
use Rattle.vd_cmd_trial.proofs.asking.words_of.Goals as goal

pub loop-number-preserved : goal.loop-number-preserved
loop-number-preserved c = next_of (trial_input c.args.host) c.loop-number.number c.loop-number.words c.push.new.self c.input.result c.loop-number.invariant c.in_ok-push.ensures.ok c.input.ensures
