use Rattle.std.proofs.Common.{◌≡◌, ◌++◌, drop, map}
use Rattle.vd_report.specs.LabelLines.{all_behind}
use Rattle.vd_draw_rows.specs.Texts.{slot_name}
use Rattle.vd_draw_rows.proofs.texts.push_more_names.Given as goal

-- the names that are left complete those so far
abbrev pub invariant-loop-name : goal.invariant-loop-name
invariant-loop-name l = l.text ++ all_behind l.separator (map (slot_name l.slots) (drop l.name-index l.names)) ≡ l.initial.text ++ all_behind l.separator (map (slot_name l.slots) l.names)
