-- What a space keeps, of which there is at most one proof.
use Rattle.std.proofs.Common.{◌≡◌, List, length, subst, sym, ap, ◌∙◌}
use Rattle.std.proofs.Math.Logic.{∥∥₁_elim}
use Rattle.std.proofs.Props.{props}
use Rattle.std.specs.Coded.{Coded, Coded-set, codes}
use Rattle.vd_base.specs.declared.protocols.Proto.{Proto}
use Rattle.vd_base.specs.contracts.protocols.Proto as proto
use Rattle.std.proofs.lemmas.List.{length-map}
use Rattle.vd_base.specs.Protocols.{protocols_of}
use Rattle.vd_core.specs.Facts.{IsWellMade}
use Rattle.vd_core.specs.declared.normal.NormalForm.{NormalForm}
use Rattle.vd_constraints.specs.declared.labels.Labels.{Labels}
use Rattle.vd_constraints.specs.Rules.{label}
use Rattle.vd_space.specs.Reading.{problem_of}
use Rattle.vd_space.specs.declared.problem.Problem.{Problem}
use Rattle.vd_space.specs.Validity.{protocols}
use Rattle.vd_space.specs.Labelled.{HasLabels}
use Rattle.vd_space.specs.WellFormed.{IsWellFormed}
use Rattle.vd_space.proofs.Front.{is_labelled, is_within_limits, is_problem}
use Rattle.vd_space_api.specs.Places.{IsSpace}

module _ (problem : Problem) (list : List Proto) (kept : ∥ IsSpace problem list ∥₁) where
  pub well_formed : IsWellFormed problem
  well_formed = ∥∥₁_elim kept (hlevel props) (λ k. k.well_formed)

  pub listed : list ≡ protocols problem
  listed =
      let code : Coded (List Proto) = hlevel (codes, proto.the_row.coded) in
      ∥∥₁_elim kept (Coded-set code list (protocols problem)) (λ k. k.listed)

pub made : (p : NormalForm) (l : Labels) (problem : Problem) (list : List Proto) → IsWellMade p → HasLabels p l → problem ≡ problem_of p l → list ≡ protocols_of (length p.labels) → ∥ IsSpace problem list ∥₁
made p l problem list well has is listed_ =
    let hosts = length-map p.labels (label p) in
    let of_program : IsSpace (problem_of p l) list = record {
      well_formed = record { holds = is_problem p l well; labelled = is_labelled p l well has; limits = is_within_limits p l well };
      listed = listed_ ∙ sym (ap protocols_of hosts);
    } in
    ∣ subst (λ x. IsSpace x list) (sym is) of_program ∣₁
