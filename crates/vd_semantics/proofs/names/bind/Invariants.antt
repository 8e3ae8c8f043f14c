use Rattle.std.proofs.Common.{◌≡◌, ◌++◌, drop}
use Rattle.vd_semantics.specs.declared.held.Held.TheVariants.{Bound}
use Rattle.vd_base.specs.Names.{bound}
use Rattle.vd_semantics.specs.SourceMeaning.{parameter_names}
use Rattle.vd_semantics.proofs.names.bind.Given as goal

abbrev pub invariant-loop-parameter : goal.invariant-loop-parameter
invariant-loop-parameter l = l.env ++ bound Bound (parameter_names (drop l.parameter-index l.parameters)) l.left ≡ bound Bound (parameter_names l.parameters) l.words
