-- One part of a labelling raised.
use Rattle.std.specs.Prelude.{◌≡◌, ℕ}
use Rattle.vd_formula.specs.TruthTable.{both_of}
use Rattle.vd_constraints.specs.declared.system.Bound.{Bound}
use Rattle.vd_constraints.specs.declared.system.Bound.TheVariants.{Constant, Same, Given, Or}
use Rattle.vd_constraints.specs.declared.system.Lower.{Lower}
use Rattle.vd_constraints.specs.declared.labels.Labels.{Labels}
use Rattle.vd_constraints.specs.Satisfies.{formula_at, bound_at, HoldsRule}
use Rattle.vd_solver.specs.LabelsLeastRaising.{with_part}

-- the names of a bound's first formula
abbrev pub bound_names : Labels → Bound → ℕ
bound_names l (Constant f) = f.names
bound_names l (Same part) = (formula_at l part).names
bound_names l (Given f part) = f.names
bound_names l (Or f part) = f.names

-- the rule failed, and its part is now the conjunction of what it was and of its bound
pub record Raises (old : Labels) (rule : Lower) (new : Labels) : Type 0 where
  pub failed : HoldsRule old rule → ⊥
  pub raised : new ≡ with_part old rule.part (both_of (formula_at old rule.part) (bound_at old rule.bound))
