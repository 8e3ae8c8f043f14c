use Rattle.std.proofs.Common.{ap₂, ◌∙◌}
use Rattle.vd_excuse.specs.Filling.{fill, filled_at}
use Rattle.vd_excuse.proofs.Filled.{host_more}
use Rattle.vd_excuse.proofs.views_transcript.filling.filled.Goals as goal

pub loop-host-preserved : goal.loop-host-preserved
loop-host-preserved c =
    host_more (filled_at c.args.inputs.now c.args.needs.now) c.loop-host.host c.loop-host.all c.push.new.self c.in_ok-words.words c.loop-host.invariant
    (c.in_ok-words.ensures {u = tt} ∙ ap₂ fill c.words_of.ensures c.inputs_taken.ensures) ((c.in_ok-push.ensures {u = tt}).ok)
