use Rattle.std.proofs.Common.{arith}
use Rattle.vd_cmd_needs.proofs.Reading.{too_long}
use Rattle.vd_cmd_needs.proofs.needs_command.expect_short.Goals as goal

pub returns-then-bytes-clause-refused : goal.returns-then-bytes-clause-refused
returns-then-bytes-clause-refused c = λ texts.
    let long = c.if-bytes.true in
    too_long texts c.args.name.now c.args.bytes.now c.in_ok-name.name (omega (arith, long)) (c.in_ok-name.ensures {u = tt})
