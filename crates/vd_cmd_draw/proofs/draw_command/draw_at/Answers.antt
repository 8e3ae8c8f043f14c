use Rattle.std.proofs.Common.{rules}
use Rattle.vd_cmd_draw.proofs.Printed.{draws}
use Rattle.vd_cmd_draw.proofs.draw_command.draw_at.Goals as goal

pub returns : goal.returns
returns c =
    draws c.args.choice.now.program c.args.choice.now.labels c.args.name.now c.args.text.now c.args.assignment.now _ c.in_ok-printed.printed c.as_bytes.result.now c.as_slice-protocols.result.now
    (search rules) c.in_ok-printed.ensures c.as_bytes.ensures.value c.as_slice-protocols.ensures
