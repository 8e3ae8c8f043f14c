use Rattle.std.proofs.Common.{◌≡◌, ◌++◌}
use Rattle.vd_report.specs.ChoiceLines.{slot_lines}
use Rattle.vd_report.proofs.choice.slot_lines.Given as goal

-- the lines of the slots that are left complete those so far
abbrev pub invariant-loop-number : goal.invariant-loop-number
invariant-loop-number l = l.text ++ slot_lines l.form.hosts l.number-iterator.count l.number-iterator.iter.a.rest.now l.number-iterator.iter.b.rest.now ≡ slot_lines l.form.hosts 0 l.form.slots l.assignment
