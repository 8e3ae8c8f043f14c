use Rattle.std.proofs.Common.{◌≡◌, drop}
use Rattle.std.specs.List.{find}
use Rattle.std.specs.Str.{bytes_eq}
use Rattle.vd_diag.specs.Parts.{entries}
use Rattle.vd_diag.proofs.tables.in_table.Given as goal

abbrev pub invariant-loop-entry : goal.invariant-loop-entry
invariant-loop-entry l = find (λ entry. bytes_eq entry.0 l.word) (entries (drop l.entry-index l.table)) ≡ find (λ entry. bytes_eq entry.0 l.word) (entries l.table)
