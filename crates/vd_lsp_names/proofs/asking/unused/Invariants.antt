use Rattle.std.proofs.Common.{◌≡◌, take, map}
use Rattle.std.specs.List.{filter}
use Rattle.vd_lsp_names.specs.Asking.{is_unused}
use Rattle.vd_lsp_names.proofs.asking.unused.Given as goal

abbrev pub invariant-loop-name : goal.invariant-loop-name
invariant-loop-name l = l.found ≡ map (λ name. name.at) (filter (is_unused l.uses) (take l.name-index l.uses))
