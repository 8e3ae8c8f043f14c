use Rattle.std.proofs.Common.{length, sym, ap, ◌∙◌}
use Rattle.vd_space_api.proofs.Assigned.{is_assignment, valid_places}
use Rattle.vd_space_api.proofs.space.Space.valid.Goals as goal

pub returns-then-list-slots-clause-sound : goal.returns-then-list-slots-clause-sound
returns-then-list-slots-clause-sound c = λ valid.
    is_assignment c.args.self.now c.args.list.now (c.if-list-slots.true ∙ ap (λ xs. length xs) (c.as_slice-slots.ensures ∙ ap (λ problem. problem.slots) c.problem.ensures.same)) (sym c.prefix_valid.ensures ∙ valid)

pub returns-then-list-slots-clause-complete : goal.returns-then-list-slots-clause-complete
returns-then-list-slots-clause-complete c = λ is. c.prefix_valid.ensures ∙ valid_places c.args.self.now c.problem.ensures.well_formed.labelled.few_hosts c.args.list.now is
