use Rattle.vd_cmd_run.specs.CommandLines.{host_words}
use Rattle.vd_cmd_run.proofs.Lists.{grows}
use Rattle.vd_cmd_run.proofs.commands.command_lines.Goals as goal

pub loop-me-preserved : goal.loop-me-preserved
loop-me-preserved c =
    grows (host_words c.args.prefix.now c.args.inputs.now c.args.port c.args.hosts) c.loop-me.me c.loop-me.lines c.push.new.self _ c.loop-me.invariant
    (c.in_ok-words.ensures {u = tt}) c.in_ok-push.ensures.ok
