use Rattle.vd_cmd_plan.proofs.lines.write_flow.Goals as goal

pub returns : goal.returns
returns g c = rw (← c.format.ensures.text, ← c.as_bytes-check.ensures.value, ← c.format-2.ensures.text, ← c.as_bytes-offset.ensures.value) c.write_parts.ensures
