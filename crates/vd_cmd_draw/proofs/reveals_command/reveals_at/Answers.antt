use Rattle.std.proofs.Common.{rules}
use Rattle.vd_cmd_draw.proofs.Printed.{lists}
use Rattle.vd_cmd_draw.proofs.reveals_command.reveals_at.Goals as goal

pub returns : goal.returns
returns c =
    lists c.args.choice.now.program c.args.text.now c.args.hosts.now c.args.assignment.now _ c.in_ok-printed.printed c.as_slice-protocols.result.now (search rules) c.in_ok-printed.ensures c.as_slice-protocols.ensures
