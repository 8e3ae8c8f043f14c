use Rattle.std.proofs.Common.{List, length, sym, ap, ◌∙◌, ◌≤◌, subst}
use Rattle.vd_base.specs.declared.protocols.Proto.{Proto}
use Rattle.vd_base.specs.Limits.{most_deal_items, most_hosts}
use Rattle.vd_deal_needs.specs.declared.taking.HostNeeds.{HostNeeds}
use Rattle.vd_deal_needs.specs.Sizes.{sizes_of}
use Rattle.vd_tape.specs.Made.{AreCounts}
use Rattle.vd_deal_needs.specs.Enough.{needs_for}
use Rattle.vd_cmd_compile.proofs.Front.{can_run}
use Rattle.vd_cmd_trial.proofs.Enough.{asked_there, can_be_dealt, inputs_few, made_there, splits, suffice_there}
use Rattle.vd_cmd_trial.specs.Trial.{most_inputs}
use Rattle.vd_cmd_trial.proofs.asking.asked_at.Goals as goal

pub needs_of_program-requires : goal.needs_of_program-requires
needs_of_program-requires c = can_run c.args.program.now c.args.assignment.now c.form-form.ensures.well_made c.form-form.ensures.fit c.requires.selected c.as_slice-protocols.result.now c.as_slice-protocols.ensures

pub asked_by-requires-clause-few : goal.asked_by-requires-clause-few
asked_by-requires-clause-few c = subst (λ (needs : List HostNeeds). length needs ≤ most_hosts) (sym c.as_slice.ensures) (c.in_ok-needs.ensures {u = tt}).few

pub asked_by-requires-clause-inputs : goal.asked_by-requires-clause-inputs
asked_by-requires-clause-inputs c =
    let can = splits c.args.program.now c.args.assignment.now c.form-form.ensures.well_made c.form-form.ensures.fit c.requires.selected in
    subst (λ (needs : List HostNeeds). most_inputs needs ≤ most_deal_items) (sym (c.as_slice.ensures ∙ (c.in_ok-needs.ensures {u = tt}).needs ∙ ap (λ (l : List Proto). needs_for c.args.program.now l) c.as_slice-protocols.ensures)) (inputs_few c.args.program.now c.args.assignment.now.protocols can c.requires.few)

pub asked_by-requires-clause-counts : goal.asked_by-requires-clause-counts
asked_by-requires-clause-counts c =
    let can = splits c.args.program.now c.args.assignment.now c.form-form.ensures.well_made c.form-form.ensures.fit c.requires.selected in
    subst (λ (needs : List HostNeeds). AreCounts (sizes_of needs)) (sym (c.as_slice.ensures ∙ (c.in_ok-needs.ensures {u = tt}).needs ∙ ap (λ (l : List Proto). needs_for c.args.program.now l) c.as_slice-protocols.ensures)) (can_be_dealt c.args.program.now c.args.assignment.now.protocols can c.requires.few)

pub returns-clause-made : goal.returns-clause-made
returns-clause-made c = made_there c.args.coordinates c.args.program.now c.args.assignment.now.protocols c.as_slice.result.now c.asked_by.result (c.as_slice.ensures ∙ (c.in_ok-needs.ensures {u = tt}).needs ∙ ap (λ (l : List Proto). needs_for c.args.program.now l) c.as_slice-protocols.ensures) c.asked_by.ensures.made

pub returns-clause-asked : goal.returns-clause-asked
returns-clause-asked c =
    let can = splits c.args.program.now c.args.assignment.now c.form-form.ensures.well_made c.form-form.ensures.fit c.requires.selected in
    asked_there c.args.program.now c.args.assignment.now.protocols can c.as_slice.result.now c.asked_by.result (c.as_slice.ensures ∙ (c.in_ok-needs.ensures {u = tt}).needs ∙ ap (λ (l : List Proto). needs_for c.args.program.now l) c.as_slice-protocols.ensures) c.asked_by.ensures.asked

pub returns-clause-suffice : goal.returns-clause-suffice
returns-clause-suffice c =
    let can = splits c.args.program.now c.args.assignment.now c.form-form.ensures.well_made c.form-form.ensures.fit c.requires.selected in
    suffice_there c.args.coordinates c.args.program.now c.args.assignment.now.protocols can c.as_slice.result.now c.asked_by.result (c.as_slice.ensures ∙ (c.in_ok-needs.ensures {u = tt}).needs ∙ ap (λ (l : List Proto). needs_for c.args.program.now l) c.as_slice-protocols.ensures) c.asked_by.ensures.made c.asked_by.ensures.asked
    c.asked_by.ensures.consistent
