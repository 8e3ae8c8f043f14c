use Rattle.std.proofs.Common.{◌≡◌, ◌++◌, take, flat_map}
use Rattle.vd_report.specs.Lines.{number_field}
use Rattle.vd_cmd_data.proofs.section.push_row.Given as goal

abbrev pub invariant-loop-word : goal.invariant-loop-word
invariant-loop-word l = l.text ≡ l.initial.text ++ flat_map number_field (take l.word-index l.words)
