use Rattle.std.proofs.Common.{◌≡◌, drop}
use Rattle.vd_lsp_names.specs.Uses.{parameters_named, walk_of}
use Rattle.vd_lsp_names.proofs.whole.list_parameters.Given as goal

abbrev pub invariant-loop-parameter : goal.invariant-loop-parameter
invariant-loop-parameter l = parameters_named (walk_of l.found l.values) (drop l.parameter-index l.parameters) ≡ parameters_named (walk_of l.initial.found l.initial.values) l.parameters
