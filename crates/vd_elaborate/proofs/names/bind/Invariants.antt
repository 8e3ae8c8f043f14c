use Rattle.std.proofs.Common.{◌≡◌, ◌++◌, drop}
use Rattle.vd_base.specs.Names.{bound}
use Rattle.vd_semantics.specs.SourceMeaning.{parameter_names}
use Rattle.vd_elaborate.specs.declared.anf.spot.Spot.TheVariants.{Binding}
use Rattle.vd_elaborate.proofs.names.bind.Given as goal

abbrev pub invariant-loop-parameter : goal.invariant-loop-parameter
invariant-loop-parameter l = l.names ++ bound Binding (parameter_names (drop l.parameter-index l.parameters)) l.left ≡ bound Binding (parameter_names l.parameters) l.slots
