-- Accounts put together from their parts.
use Rattle.std.proofs.Common.{◌≡◌, ℕ, Bool, List, [], Option, Some, None, refl, subst}
use Rattle.vd_core.specs.declared.normal.NormalForm.{NormalForm}
use Rattle.vd_space.specs.declared.problem.Problem.{Problem}
use Rattle.vd_diag_terminal.specs.Spaces.{IsSpaceFor}
use Rattle.vd_diag_terminal.specs.DiagBranchesPhrases.{IsBranchRemark}
use Rattle.vd_constraints.specs.declared.labels.Labels.{Labels}
use Rattle.vd_cmd_plan.specs.Labelled.{LabelledForm}
use Rattle.vd_cmd_plan.specs.declared.status.Status.{Status}
use Rattle.vd_diag.specs.declared.remark.Remark.{Remark}
use Rattle.vd_diag_terminal.specs.Programs.{IsAssignmentRemark, IsOfSpace, IsSlotRemark}
use Rattle.vd_diag_terminal.specs.Remarks.{IsRemarkOn}
use Rattle.vd_diag_terminal.specs.Said.{IsRemarkTold, told_of}

-- ---- of a program, and of its space

-- the parts of a form are its program and its labels
module _ (Says : Problem → Remark → Type 0) (form : LabelledForm) (program : NormalForm) (labels : Labels) (same_program : program ≡ form.program) (same_labels : labels ≡ form.labels) where
  there : (space : Problem) → IsSpaceFor program labels space → IsSpaceFor form.program form.labels space
  there space is = subst (λ (p : NormalForm). IsSpaceFor p form.labels space) same_program (subst (λ (l : Labels). IsSpaceFor program l space) same_labels is)

  pub of_space : (space : Problem) (remark : Remark) → IsSpaceFor program labels space → Says space remark → IsOfSpace Says form (Some remark)
  of_space space remark is says = record { space = space; is = there space is; says = says }

module _ (form : LabelledForm) (program : NormalForm) (labels : Labels) (same_program : program ≡ form.program) (same_labels : labels ≡ form.labels) (hidden : Option Remark) where
  here : IsBranchRemark program labels hidden → IsBranchRemark form.program form.labels hidden
  here is = subst (λ (p : NormalForm). IsBranchRemark p form.labels hidden) same_program (subst (λ (l : Labels). IsBranchRemark program l hidden) same_labels is)

  pub of_branch : (remark : Remark) → hidden ≡ Some remark → IsBranchRemark program labels hidden → IsAssignmentRemark form (Some remark)
  of_branch remark same is = record { hidden = Some remark; is = subst (IsBranchRemark form.program form.labels) same (here is); says = refl }

  pub of_slots : (remark : Option Remark) → hidden ≡ None → IsBranchRemark program labels hidden → IsSlotRemark form remark → IsAssignmentRemark form remark
  of_slots remark same is says = record { hidden = None; is = subst (IsBranchRemark form.program form.labels) same (here is); says = says }

-- ---- of a remark as it is printed

module _ (coloured : Bool) (status : Status) (name bytes : List ℕ) (found : Option Remark) where
  pub of_remark : (remark : Remark) (text : List ℕ) → found ≡ Some remark → IsRemarkOn bytes status found → text ≡ told_of status coloured name bytes remark → IsRemarkTold coloured status name bytes text
  of_remark remark text same is printed = record { remark = Some remark; is = subst (IsRemarkOn bytes status) same is; printed = printed }

  pub of_no_remark : (text : List ℕ) → found ≡ None → IsRemarkOn bytes status found → text ≡ [] → IsRemarkTold coloured status name bytes text
  of_no_remark text same is printed = record { remark = None; is = subst (IsRemarkOn bytes status) same is; printed = printed }
