-- What is said of a program for which a search found no protocols, under its labels, which are the least.
use Rattle.std.specs.Prelude.{◌≡◌, ℕ, Option, Some, None}
use Rattle.vd_space.specs.declared.problem.Problem.{Problem}
use Rattle.vd_cmd_plan.specs.Labelled.{LabelledForm}
use Rattle.vd_diag_terminal.specs.DiagBranchesPhrases.{IsBranchRemark}
use Rattle.vd_diag.specs.declared.remark.Remark.{Remark}
use Rattle.vd_diag_terminal.specs.DiagChoiceRemarks.{IsNoAssignmentRemark}
use Rattle.vd_diag_terminal.specs.Spaces.{IsSpaceFor}
use Rattle.vd_diag_terminal.specs.Spent.{TellsSearch}

abbrev pub SaysOne : {A : Type 0} → (A → Remark → Type 0) → A → Option Remark → Type 0
SaysOne Says a None = ⊥
SaysOne Says a (Some remark) = Says a remark

-- ---- of its space of choices

pub record IsOfSpace (Says : Problem → Remark → Type 0) (form : LabelledForm) (remark : Option Remark) : Type 0 where
  pub space : Problem
  pub is : IsSpaceFor form.program form.labels space
  pub says : SaysOne Says space remark

-- of its slots, that no choice is valid
abbrev pub IsSlotRemark : LabelledForm → Option Remark → Type 0
IsSlotRemark form = IsOfSpace (IsNoAssignmentRemark form.program) form

-- where there is no branch that cannot be hidden
abbrev pub SaysOfSlots : LabelledForm → Option Remark → Option Remark → Type 0
SaysOfSlots form None remark = IsSlotRemark form remark
SaysOfSlots form (Some hidden) remark = remark ≡ Some hidden

-- that no choice is valid: of the first branch that cannot be hidden, or of its slots
pub record IsAssignmentRemark (form : LabelledForm) (remark : Option Remark) : Type 0 where
  pub hidden : Option Remark
  pub is : IsBranchRemark form.program form.labels hidden
  pub says : SaysOfSlots form hidden remark

-- how far the search with this budget came
pub record IsBudgetRemark (budget : ℕ) (problem : Problem) (remark : Remark) : Type 0 where
  pub place : remark.offset ≡ None
  pub tells : TellsSearch problem budget remark.sentence

abbrev pub IsSearchRemark : ℕ → LabelledForm → Option Remark → Type 0
IsSearchRemark budget form = IsOfSpace (IsBudgetRemark budget) form
