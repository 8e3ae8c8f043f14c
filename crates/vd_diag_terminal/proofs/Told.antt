-- What is said of the slot that is read.
use Rattle.std.proofs.Common.{◌≡◌, ℕ, List, get_or, inl, ap, ◌∙◌}
use Rattle.std.proofs.lemmas.Option.{get_or_from_slice_get}
use Rattle.vd_core.specs.declared.normal.NormalForm.{NormalForm}
use Rattle.vd_constraints.specs.Satisfies.{IsFirstWithout}
use Rattle.vd_space.specs.declared.problem.Problem.{Problem}
use Rattle.vd_space.specs.declared.problem.Making.{Making}
use Rattle.vd_diag.specs.declared.remark.Remark.{Remark}
use Rattle.vd_diag_terminal.specs.Bare.{HasCandidate}
use Rattle.vd_diag_terminal.specs.DiagChoiceRemarks.{bare_remark, IsNoAssignmentRemark}

pub bare_is : (p : NormalForm) (problem : Problem) (number : ℕ) (read : List Making) (making : Making) (remark : Remark) → IsFirstWithout (HasCandidate problem) problem.slots number → read ≡ problem.slots → making ≡ get_or read number making
    → remark ≡ bare_remark p number making.label → IsNoAssignmentRemark p problem remark
bare_is p problem number read making remark first same is says =
    let item : making ≡ first.item = is ∙ ap (λ (makings : List Making). get_or makings number making) same ∙ get_or_from_slice_get problem.slots number first.item making first.there in
    inl (number, record { first = first; says = says ∙ ap (λ (m : Making). bare_remark p number m.label) item })
