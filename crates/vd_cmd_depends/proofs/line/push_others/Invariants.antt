use Rattle.std.proofs.Common.{◌≡◌, ◌++◌, take, flat_map}
use Rattle.vd_cmd_depends.specs.Depending.{other_name}
use Rattle.vd_cmd_depends.proofs.line.push_others.Given as goal

abbrev pub invariant-loop-host : goal.invariant-loop-host
invariant-loop-host l = l.text ≡ l.initial.text ++ flat_map (other_name l.names) (take l.host-index l.others)
