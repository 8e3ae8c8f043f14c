use Rattle.std.proofs.Common.{◌≡◌, ◌++◌, drop}
use Rattle.vd_resolve.specs.Causes.{parameters_told}
use Rattle.vd_resolve.specs.Rules.{parameters_check}
use Rattle.vd_resolve.specs.Sizes.{parameter_variables}
use Rattle.vd_resolve.specs.Tables.{names}
use Rattle.vd_resolve.specs.Walks.{variables}
use Rattle.vd_resolve.proofs.function.declare_parameters.Given as goal

abbrev pub invariant-loop-parameter : goal.invariant-loop-parameter
invariant-loop-parameter l =
    (parameters_check (names l.values) (drop l.parameter-index l.parameters) ≡ parameters_check (names l.initial.values) l.parameters)
    × (parameters_told l.values (drop l.parameter-index l.parameters) ≡ parameters_told l.initial.values l.parameters)
    × (variables (names l.values) ++ parameter_variables (drop l.parameter-index l.parameters) ≡ variables (names l.initial.values) ++ parameter_variables l.parameters)
