use Rattle.std.proofs.Common.{◌≡◌, drop}
use Rattle.vd_base.specs.Names.{is_among}
use Rattle.vd_resolve.specs.Rules.{function_names}
use Rattle.vd_resolve.proofs.expression.is_declared.Given as goal

abbrev pub invariant-loop-function : goal.invariant-loop-function
invariant-loop-function l = is_among (function_names (drop l.function-index l.functions)) l.name ≡ is_among (function_names l.functions) l.name
