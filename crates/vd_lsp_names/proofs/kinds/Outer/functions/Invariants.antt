use Rattle.std.proofs.Common.{◌≡◌, drop}
use Rattle.vd_lsp_names.specs.Uses.{declaring_of, functions_named}
use Rattle.vd_lsp_names.proofs.kinds.Outer.functions.Given as goal

abbrev pub invariant-loop-function : goal.invariant-loop-function
invariant-loop-function l = functions_named (declaring_of l.found l.self) (drop l.function-index l.functions) ≡ functions_named (declaring_of l.initial.found l.initial.self) l.functions
