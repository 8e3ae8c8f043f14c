-- What is said of a program for which no choice of protocols is valid.
use Rattle.std.specs.Prelude.{◌≡◌, ◌⊎◌, ℕ, All}
use Rattle.vd_core.specs.declared.normal.NormalForm.{NormalForm}
use Rattle.vd_formula.specs.declared.label.Label.{Label}
use Rattle.vd_constraints.specs.Satisfies.{IsFirstWithout}
use Rattle.vd_space.specs.declared.problem.Problem.{Problem}
use Rattle.vd_diag.specs.declared.remark.Remark.{Remark}
use Rattle.vd_diag.specs.Remarks.{at}
use Rattle.vd_diag_terminal.specs.Bare.{HasCandidate}
use Rattle.vd_diag_terminal.specs.Sentences.{bare_sentence, slot_name, slot_offset}
use Rattle.vd_diag_terminal.specs.StuckSentences.{stuck_remark}

-- of a slot with this number and label
abbrev pub bare_remark : NormalForm → ℕ → Label → Remark
bare_remark p number label = at (slot_offset p number) (bare_sentence p.principals number (slot_name p number) label)

-- the slot is the first that has no candidate, and the sentence says so at the place where it is made
pub record IsBareRemark (p : NormalForm) (problem : Problem) (number : ℕ) (remark : Remark) : Type 0 where
  pub first : IsFirstWithout (HasCandidate problem) problem.slots number
  pub says : remark ≡ bare_remark p number first.item.label

-- of the first slot that has no candidate, or, where each has one, of the first use, index or guard for which no places are left
abbrev pub IsNoAssignmentRemark : NormalForm → Problem → Remark → Type 0
IsNoAssignmentRemark p problem remark = ((number : ℕ) × IsBareRemark p problem number remark) ⊎ (All (HasCandidate problem) problem.slots × (remark ≡ stuck_remark p problem))
