use Rattle.std.proofs.Common.{◌≡◌, ◌++◌, drop, if◌then◌else◌}
use Rattle.vd_report.specs.LabelLines.{all_behind, joined, members}
use Rattle.vd_report.proofs.name_sets.push_members.Given as goal

-- the names that are left complete those so far
abbrev pub invariant-loop-place : goal.invariant-loop-place
invariant-loop-place l =
    let rest = members l.place (drop l.place l.names) l.set in
    l.text ++ (if l.is_first then joined (l.separator) rest else all_behind (l.separator) rest) ≡ l.initial.text ++ joined l.separator (members 0 l.names l.set)
