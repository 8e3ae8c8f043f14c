use Rattle.std.proofs.Common.{◌≡◌, drop}
use Rattle.std.specs.List.{list_any}
use Rattle.vd_lsp_names.specs.Asking.{is_use_of}
use Rattle.vd_lsp_names.proofs.asking.is_used.Given as goal

abbrev pub invariant-loop-name : goal.invariant-loop-name
invariant-loop-name l = list_any (is_use_of l.declaration) (drop l.name-index l.uses) ≡ list_any (is_use_of l.declaration) l.uses
