use Rattle.std.proofs.Common.{◌≡◌, drop}
use Rattle.vd_lsp.specs.Names.{name_at}
use Rattle.vd_lsp.proofs.names.name_at.Given as goal

abbrev pub invariant-loop-name : goal.invariant-loop-name
invariant-loop-name l = name_at l.text (drop l.name-index l.uses) l.place ≡ name_at l.text l.uses l.place
