use Rattle.std.proofs.Common.{◌≡◌, map, take}
use Rattle.vd_space.specs.Costs.{output_term}
use Rattle.vd_space_tables.specs.Charges.{charge_of}
use Rattle.vd_space_tables.proofs.charges.output_charges.Given as goal

abbrev pub invariant-loop-output : goal.invariant-loop-output
invariant-loop-output l = l.charges ≡ map (λ o. charge_of l.problem (output_term l.problem o)) (take l.output-index l.problem.outputs)
