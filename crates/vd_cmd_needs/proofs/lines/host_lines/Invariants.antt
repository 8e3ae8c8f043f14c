use Rattle.std.proofs.Common.{◌≡◌, ◌++◌}
use Rattle.vd_cmd_needs.specs.Lines.{host_lines}
use Rattle.vd_cmd_needs.proofs.lines.host_lines.Given as goal

-- the lines of the hosts that are left complete those so far
abbrev pub invariant-loop-name : goal.invariant-loop-name
invariant-loop-name l = l.text ++ host_lines l.name-iterator.a.rest.now l.name-iterator.b.rest.now ≡ host_lines l.names l.needs
