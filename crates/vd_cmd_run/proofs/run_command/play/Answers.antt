use Rattle.std.proofs.Common.{refl}
use Rattle.vd_cmd_run.specs.Running.{NoMemory}
use Rattle.vd_cmd_run.proofs.Ways.{few_lines, lines_are, played}
use Rattle.vd_cmd_run.proofs.run_command.play.Goals as goal

pub run_hosts-came-requires-clause-few : goal.run_hosts-came-requires-clause-few
run_hosts-came-requires-clause-few g c =
    few_lines c.as_str-prefix.result.now c.as_str.result.now c.args.words.now.port c.as_slice.result.now c.args.names c.in-Ok.lines c.as_slice-2.result.now c.as_slice-2.ensures (c.in-Ok.ensures {u = tt}) c.as_slice.ensures c.requires.few

pub returns : goal.returns
returns g c =
    rw c.run_status.ensures
    (played c.args.words.now c.args.names _ _ c.args.answer.now c.as_slice-stores.result.now c.as_str-program.result.now c.as_slice-2.result.now c.run_hosts-came.result c.requires.ended c.as_slice-stores.ensures c.as_str-program.ensures
    (lines_are c.args.words.now c.args.names c.as_str-prefix.result.now c.as_str.result.now c.as_slice.result.now c.in-Ok.lines c.as_slice-2.result.now c.as_slice-2.ensures (c.in-Ok.ensures {u = tt}) c.as_str-prefix.ensures c.as_str.ensures
    c.as_slice.ensures) c.run_hosts-came.ensures)

pub returns-in_default : goal.returns-in_default
returns-in_default g c = NoMemory c.args.answer.now refl
