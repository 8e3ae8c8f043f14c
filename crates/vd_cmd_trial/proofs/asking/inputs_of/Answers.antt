use Rattle.vd_tape.proofs.Front.{next_of}
use Rattle.vd_cmd_trial.specs.Trial.{trial_words}
use Rattle.vd_cmd_trial.proofs.asking.inputs_of.Goals as goal

pub loop-host-preserved : goal.loop-host-preserved
loop-host-preserved c =
    next_of (trial_words c.args.many) c.loop-host.host c.loop-host.inputs c.push.new.self c.in_ok-words.words c.loop-host.invariant c.in_ok-push.ensures.ok (c.in_ok-words.ensures {u = tt})
