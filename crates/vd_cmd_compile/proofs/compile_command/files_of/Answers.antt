use Rattle.vd_cmd_compile.proofs.Storing.{all_seen, all_there, one_more, some_left, took}
use Rattle.vd_cmd_compile.proofs.compile_command.files_of.Goals as goal

pub remove-code-requires : goal.remove-code-requires
remove-code-requires c =
    some_left c.args.prefix.now c.args.hosts.now c.args.plan c.args.codes c.loop-number.codes c.as_slice.result.now c.loop-number.number c.loop-number.files c.as_slice.ensures c.loop-number.invariant c.loop-number-test.true

pub loop-number-preserved : goal.loop-number-preserved
loop-number-preserved c =
    one_more c.args.prefix.now c.args.hosts.now c.args.plan c.args.codes c.loop-number.codes c.remove-code.new.self c.loop-number.number c.remove-code.result c.in_ok-file.file c.loop-number.files c.push.new.self c.loop-number.invariant
    (took c.loop-number.codes c.remove-code.new.self c.remove-code.result c.remove-code.ensures.item c.remove-code.ensures.rest) (c.in_ok-file.ensures {u = tt}) c.in_ok-push.ensures.ok

pub returns : goal.returns
returns c =
    all_there c.args.prefix.now c.args.hosts.now c.args.plan c.args.codes c.loop-number.codes c.loop-number.number c.loop-number.files
    (all_seen c.args.prefix.now c.args.hosts.now c.args.plan c.args.codes c.as_slice.result.now c.loop-number.number c.as_slice.ensures c.loop-number-test.false) c.loop-number.invariant
