use Rattle.std.proofs.Common.{◌≡◌, ◌++◌}
use Rattle.vd_report.specs.LabelLines.{label_lines}
use Rattle.vd_report.proofs.labels.slot_lines.Given as goal

-- the lines of the slots that are left complete those so far
abbrev pub invariant-loop-number : goal.invariant-loop-number
invariant-loop-number l = l.text ++ label_lines l.form.principals l.number-iterator.count l.number-iterator.iter.a.rest.now l.number-iterator.iter.b.rest.now ≡ label_lines l.form.principals 0 l.form.slots l.labels.slots
