use Rattle.std.proofs.Common.{◌≤◌, sym, ap, ◌∙◌, subst, length}
use Rattle.vd_base.specs.Protocols.{protocols_of}
use Rattle.vd_space.proofs.Front.{are_protocols}
use Rattle.vd_space_api.proofs.Few.{usual_few}
use Rattle.vd_space_api.proofs.Rounds.{first_ledger}
use Rattle.vd_space_api.proofs.space_shifts.ledger.usual.Goals as goal

pub all_candidates-requires : goal.all_candidates-requires
all_candidates-requires c = are_protocols c.args.problem.now c.requires.labelled c.as_slice-2.result.now (c.as_slice-2.ensures ∙ c.in_ok-list.ensures ∙ ap (λ hosts. protocols_of (length hosts)) c.as_slice.ensures)

pub all_terms-requires-clause-list : goal.all_terms-requires-clause-list
all_terms-requires-clause-list c = are_protocols c.args.problem.now c.requires.labelled c.as_slice-3.result.now (c.as_slice-3.ensures ∙ c.in_ok-list.ensures ∙ ap (λ hosts. protocols_of (length hosts)) c.as_slice.ensures)

pub hand_all_on-requires-clause-list : goal.hand_all_on-requires-clause-list
hand_all_on-requires-clause-list c = are_protocols c.args.problem.now c.requires.labelled c.as_slice-4.result.now (c.as_slice-4.ensures ∙ c.in_ok-list.ensures ∙ ap (λ hosts. protocols_of (length hosts)) c.as_slice.ensures)

pub hand_all_on-requires-clause-ledger : goal.hand_all_on-requires-clause-ledger
hand_all_on-requires-clause-ledger c = first_ledger c.args.problem.now c.requires.limits c.in_ok-terms.terms c.new.result c.in_ok-terms.ensures c.new.ensures

pub returns-clause-few : goal.returns-clause-few
returns-clause-few c = subst (λ shifts. length shifts ≤ 131072) (sym c.in_ok-hand_all_on.ensures.shifts) (usual_few c.args.problem.now c.requires.labelled c.requires.limits)
