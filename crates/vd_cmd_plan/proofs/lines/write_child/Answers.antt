use Rattle.vd_cmd_plan.proofs.lines.write_child.Goals as goal

pub returns : goal.returns
returns g c = rw (← c.from.ensures, ← c.name_of.ensures) c.write_named.ensures
