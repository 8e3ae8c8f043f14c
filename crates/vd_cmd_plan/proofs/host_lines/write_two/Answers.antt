use Rattle.vd_cmd_plan.proofs.host_lines.write_two.Goals as goal

pub returns : goal.returns
returns g c = rw (← c.format.ensures.text, ← c.as_bytes-first.ensures.value, ← c.format-2.ensures.text, ← c.as_bytes-second.ensures.value) c.write_parts.ensures
