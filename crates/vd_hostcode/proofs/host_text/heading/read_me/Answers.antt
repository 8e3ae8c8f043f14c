use Rattle.std.proofs.Common.{◌-◌, arith}
use Rattle.vd_hostcode.proofs.HostSteps.{field_within}
use Rattle.vd_hostcode.proofs.host_text.heading.read_me.Goals as goal

pub overflow_cast-result : goal.overflow_cast-result
overflow_cast-result c = omega (arith, field_within (c.args.hosts - 1) c.literal.new.self c.field.new.self c.in_ok-number.number (omega (arith, c.requires.few)) c.in_ok-number.ensures)
