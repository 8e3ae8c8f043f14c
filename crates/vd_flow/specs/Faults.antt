-- Why a labelling is refused.
use Rattle.std.specs.Prelude.{All}
use Rattle.vd_constraints.specs.declared.labels.Labels.{Labels}
use Rattle.vd_constraints.specs.Systems.{Constraints}
use Rattle.vd_constraints.specs.Satisfies.{HoldsRule, HoldsCheck, IsFirstWithout}
use Rattle.vd_flow.specs.declared.FlowFault.{FlowFault}
use Rattle.vd_flow.specs.declared.FlowFault.TheVariants.{Lower, Upper}

-- the first rule that fails; where all rules hold, the first check that fails
abbrev pub IsFaultOf : Constraints → Labels → FlowFault → Type 0
IsFaultOf s l (Lower rule) = IsFirstWithout (HoldsRule l) s.lower rule
IsFaultOf s l (Upper check) = All (HoldsRule l) s.lower × IsFirstWithout (HoldsCheck l) s.checks check
