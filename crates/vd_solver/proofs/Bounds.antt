-- What a rule's bound is at labellings.
use Rattle.std.proofs.Common.{◌≡◌, refl, ap}
use Rattle.std.specs.Prelude.{IfSome}
use Rattle.vd_formula.specs.TruthTable.{either_of, implies_of}
use Rattle.vd_constraints.specs.declared.system.Bound.{Bound}
use Rattle.vd_constraints.specs.declared.system.Bound.TheVariants.{Constant, Same, Given, Or}
use Rattle.vd_constraints.specs.declared.labels.Labels.{Labels}
use Rattle.vd_constraints.specs.Satisfies.{formula_at, bound_at}
use Rattle.vd_solver.specs.Reading.{read_part}

-- a bound stays where the part that it reads stays
pub bound_kept : (old new : Labels) (bound : Bound) → IfSome (read_part bound) (λ part. formula_at new part ≡ formula_at old part) → bound_at new bound ≡ bound_at old bound
bound_kept old new (Constant f) same = refl
bound_kept old new (Same part) same = same
bound_kept old new (Given f part) same = ap (implies_of f) same
bound_kept old new (Or f part) same = ap (either_of f) same
