use Rattle.std.proofs.Common.{◌≡◌, ◌++◌, drop, map, codes}
use Rattle.vd_report.specs.LabelLines.{all_behind, set_text}
use Rattle.vd_report.proofs.labels.push_more_sets.Given as goal

abbrev pub invariant-loop-set : goal.invariant-loop-set
invariant-loop-set l = l.text ++ all_behind (codes " | ") (map (set_text l.principals) (drop l.set-index l.sets)) ≡ l.initial.text ++ all_behind (codes " | ") (map (set_text l.principals) l.sets)
