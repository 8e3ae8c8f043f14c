use Rattle.std.proofs.Common.{◌≡◌, take}
use Rattle.std.specs.List.{filter}
use Rattle.vd_lsp_names.specs.Asking.{is_declaration}
use Rattle.vd_lsp_names.proofs.asking.declarations.Given as goal

abbrev pub invariant-loop-name : goal.invariant-loop-name
invariant-loop-name l = l.found ≡ filter is_declaration (take l.name-index l.uses)
