use Rattle.std.proofs.Common.{◌≡◌, ◌++◌}
use Rattle.vd_report.specs.Lines.{output_lines}
use Rattle.vd_report.proofs.lines.outputs_text.Given as goal

-- the lines of the hosts that are left complete those so far
abbrev pub invariant-loop-host : goal.invariant-loop-host
invariant-loop-host l = l.text ++ output_lines l.host-iterator.a.rest.now l.host-iterator.b.rest.now ≡ output_lines l.hosts l.outputs
