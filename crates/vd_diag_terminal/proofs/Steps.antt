-- The steps of a check, from a way to the text of a source.
use Rattle.std.proofs.Common.{◌≡◌, ℕ, List, [], Option, Some, Result, Ok, sym, ap, ◌∙◌, subst, inl, inr}
use Rattle.std.specs.Prelude.{IfOk, IfSome, slice_get}
use Rattle.std.proofs.lemmas.Option.{IfSome_then}
use Rattle.std.proofs.lemmas.Result.{IfOk-weaker}
use Rattle.vd_core.specs.declared.normal.NormalForm.{NormalForm}
use Rattle.vd_core.specs.declared.source.Source.{Source}
use Rattle.vd_constraints.specs.Rules.{system_of}
use Rattle.vd_constraints.specs.Systems.{Constraints}
use Rattle.vd_constraints.specs.declared.system.Check.{Check}
use Rattle.vd_elaborate.specs.Normal.{normal_form}
use Rattle.vd_flow.specs.Ways.{IsWay}
use Rattle.vd_flow.specs.declared.ways.Step.{Step}
use Rattle.vd_parser.specs.Outcomes.{IsParse}
use Rattle.vd_cmd_labels.specs.Sources.{resolved_of}
use Rattle.vd_diag.specs.declared.remark.Remark.{Remark}
use Rattle.vd_diag_terminal.specs.FlowSteps.{AreFlowSteps, AreStepsOfCheck, AreStepsOfForm, AreStepsOfText, AreStepsOfTree, told_steps}

pub of_way : (p : NormalForm) (s : Constraints) (check : Check) (found : Option (List Step)) (way read : List Step) (told : List Remark) → found ≡ Some way → IfSome found (IsWay s check) → read ≡ way
    → told ≡ told_steps p read → AreStepsOfCheck p s check told
of_way p s check found way read told same is read_is told_is = record {
  way = way;
  is = subst (λ (o : Option (List Step)). IfSome o (IsWay s check)) same is;
  told = told_is ∙ ap (told_steps p) read_is;
}

-- of a program whose form and system are these
pub of_program : {E : Type 0} (number : ℕ) (p form : NormalForm) (s : Constraints) (check : Check) (result : Result (Option (List Remark)) E) → form ≡ p → s ≡ system_of p → slice_get s.checks number ≡ Some check
    → IfOk result (λ steps. IfSome steps (AreStepsOfCheck form s check)) → IfOk result (λ steps. IfSome steps (AreStepsOfForm number p))
of_program number p form s check result same is there are =
    IfOk-weaker result (λ (steps : Option (List Remark)). IfSome steps (AreStepsOfCheck form s check)) (λ (steps : Option (List Remark)). IfSome steps (AreStepsOfForm number p))
    (λ steps some. IfSome_then steps some (λ told of. record {
      check = check;
      there = ap (λ (t : Constraints). slice_get t.checks number) (sym is) ∙ there;
      are = subst (λ (t : Constraints). AreStepsOfCheck p t check told) is (subst (λ (q : NormalForm). AreStepsOfCheck q s check told) same of);
    })) are

pub of_source : {E : Type 0} (number : ℕ) (p : NormalForm) (source : Source) (result : Result (Option (List Remark)) E) → p ≡ normal_form source → IfOk result (λ steps. IfSome steps (AreStepsOfForm number p))
    → IfOk result (λ steps. IfSome steps (AreStepsOfForm number (normal_form source)))
of_source number p source result same are = subst (λ (q : NormalForm). IfOk result (λ (steps : Option (List Remark)). IfSome steps (AreStepsOfForm number q))) same are

pub of_tree : (number : ℕ) (tree source : Source) (steps : Option (List Remark)) → resolved_of tree ≡ Ok source → IfSome steps (AreStepsOfForm number (normal_form source)) → IfSome steps (AreStepsOfTree number tree)
of_tree number tree source steps meets are = IfSome_then steps are (λ told of. record { source = source; meets = meets; are = of })

pub of_text : {E : Type 0} (number : ℕ) (bytes : List ℕ) (tree : Source) (result : Result (Option (List Remark)) E) → IsParse bytes (Ok tree) → IfOk result (λ steps. IfSome steps (AreStepsOfTree number tree))
    → IfOk result (λ steps. IfSome steps (AreStepsOfText number bytes))
of_text number bytes tree result parsed are =
    IfOk-weaker result (λ (steps : Option (List Remark)). IfSome steps (AreStepsOfTree number tree)) (λ (steps : Option (List Remark)). IfSome steps (AreStepsOfText number bytes))
    (λ steps some. IfSome_then steps some (λ told of. record { tree = tree; parsed = parsed; are = of })) are
