use Rattle.std.proofs.Common.{◌≡◌, Bool, List, IfOk, length, sym, ap, ◌∙◌, subst}
use Rattle.std.proofs.lemmas.List.{length-map}
use Rattle.vd_base.specs.Protocols.{protocols_of}
use Rattle.vd_core.specs.declared.normal.NormalForm.{NormalForm}
use Rattle.vd_core.specs.declared.normal.Written.{Written}
use Rattle.vd_constraints.specs.Rules.{label}
use Rattle.vd_space.specs.declared.problem.Problem.{Problem}
use Rattle.vd_space.specs.Labelled.{IsLabelled}
use Rattle.vd_space.specs.Validity.{protocols}
use Rattle.vd_space.proofs.Front.{are_protocols, is_labelled}
use Rattle.vd_long.specs.Marks.{long_marks}
use Rattle.vd_long.proofs.marks.slots_without_protocol.Goals as goal

pub marks_of-requires : goal.marks_of-requires
marks_of-requires c =
    let p = c.args.program.now in
    let same = c.in_ok-problem.ensures in
    are_protocols c.in_ok-problem.problem (subst IsLabelled (sym same) (is_labelled p c.args.labels.now c.form.ensures.well_made c.requires)) c.as_slice-2.result.now
    (c.as_slice-2.ensures ∙ c.in_ok-list.ensures ∙ ap (λ (labels : List Written). protocols_of (length labels)) (c.as_slice.ensures ∙ ap (λ (form : NormalForm). form.labels) c.form.ensures.same)
    ∙ sym (ap protocols_of (length-map p.labels (label p))) ∙ sym (ap (λ (problem : Problem). protocols problem) same))

pub returns : goal.returns
returns c = subst (λ (problem : Problem). IfOk c.marks_of.result (λ (marks : List Bool). marks ≡ long_marks problem)) c.in_ok-problem.ensures c.marks_of.ensures
