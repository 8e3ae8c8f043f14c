use Rattle.std.proofs.Common.{arith}
use Rattle.vd_cmd_depends.proofs.Naming.{found, missing, within}
use Rattle.vd_cmd_depends.proofs.depends_command.host_named.Goals as goal

pub overflow_cast-number : goal.overflow_cast-number
overflow_cast-number c = let less = within c.args.hosts.now c.as_bytes.result.now c.in-Some.place c.in-Some.ensures in omega (arith, less)

pub returns-in-Some : goal.returns-in-Some
returns-in-Some c = record { ok = found c.args.hosts.now c.args.name.now c.as_bytes.result.now c.in-Some.place c.as_bytes.ensures.value c.in-Some.ensures; err = tt }

pub returns-in_ok-copy-in-None : goal.returns-in_ok-copy-in-None
returns-in_ok-copy-in-None c =
    record { ok = tt; err = missing c.args.hosts.now c.args.name.now c.as_bytes.result.now c.in_ok-copy-in-None.copy c.as_bytes.ensures.value (c.in_ok-copy-in-None.ensures {u = tt}) c.in-None.ensures }
