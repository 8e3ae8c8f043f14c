-- The lines of a plan are those of its joint code.
use Rattle.std.proofs.Common.{◌≡◌, List, [], ◌∷◌, ◌++◌, map, refl, sym, ap, ◌∙◌, append_assoc, append-nil}
use Rattle.vd_execution.specs.declared.instructions.Line.{Line}
use Rattle.vd_execution.specs.declared.instructions.Line.TheVariants as line
use Rattle.vd_base.specs.HostSets.{host}
use Rattle.vd_execution.specs.Acts.{lines_of}
use Rattle.vd_execution.specs.Gadgets.{Gadget, acts_of_gadget}
use Rattle.vd_execution.specs.Joint.{Part}
use Rattle.vd_execution.specs.Plans.{Plan, Ends, Then, Branch, Loop, joint_of}
use Rattle.vd_execution.specs.Text.{flat, each_then, register}
use Rattle.vd_execution.proofs.Front.{flat_first}
use Rattle.vd_split.specs.Lines.{plan_lines, if_lines, else_lines, end_lines, for_lines}

each_lines : (ps : List Part) (mark : Part → Line) (behind : List Line) → each_then ps mark behind ≡ map mark ps ++ behind
each_lines [] mark behind = refl
each_lines (p ∷ ps) mark behind = ap (λ (l : List Line). mark p ∷ l) (each_lines ps mark behind)

flat_lines : (plan : Plan Gadget) (behind : List Line) → flat (joint_of plan) behind ≡ plan_lines plan ++ behind
flat_lines Ends behind = refl
flat_lines (Then g rest) behind =
    flat_first (acts_of_gadget g) (joint_of rest) behind ∙ ap (λ (l : List Line). lines_of (acts_of_gadget g) ++ l) (flat_lines rest behind)
    ∙ sym (append_assoc (lines_of (acts_of_gadget g)) (plan_lines rest) behind)
flat_lines (Branch ps first other rest) behind =
    each_lines ps (λ p. line.If (host p.0) (register p.1)) _
    ∙ ap (λ (l : List Line). if_lines ps ++ l) (flat_lines first _ ∙ ap (λ (l : List Line). plan_lines first ++ l) (each_lines ps (λ p. line.Else (host p.0)) _
    ∙ ap (λ (l : List Line). else_lines ps ++ l) (flat_lines other _ ∙ ap (λ (l : List Line). plan_lines other ++ l) (each_lines ps (λ p. line.End (host p.0)) _
    ∙ ap (λ (l : List Line). end_lines ps ++ l) (flat_lines rest behind)))))
    ∙ regroup (if_lines ps) (plan_lines first) (else_lines ps) (plan_lines other) (end_lines ps) (plan_lines rest)
  where
    regroup : (a b c d e f : List Line) → a ++ (b ++ (c ++ (d ++ (e ++ (f ++ behind))))) ≡ (((((a ++ b) ++ c) ++ d) ++ e) ++ f) ++ behind
    regroup a b c d e f = simp append_assoc
flat_lines (Loop ps count body rest) behind =
    each_lines ps (λ p. line.For (host p.0) (register p.1) count) _
    ∙ ap (λ (l : List Line). for_lines count ps ++ l) (flat_lines body _ ∙ ap (λ (l : List Line). plan_lines body ++ l) (each_lines ps (λ p. line.End (host p.0)) _
    ∙ ap (λ (l : List Line). end_lines ps ++ l) (flat_lines rest behind)))
    ∙ regroup (for_lines count ps) (plan_lines body) (end_lines ps) (plan_lines rest)
  where
    regroup : (a b c d : List Line) → a ++ (b ++ (c ++ (d ++ behind))) ≡ (((a ++ b) ++ c) ++ d) ++ behind
    regroup a b c d = simp append_assoc

pub plan_is_flat : (plan : Plan Gadget) → plan_lines plan ≡ flat (joint_of plan) []
plan_is_flat plan = sym (flat_lines plan [] ∙ append-nil (plan_lines plan))
