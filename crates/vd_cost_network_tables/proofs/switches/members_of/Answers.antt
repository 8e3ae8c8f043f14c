use Rattle.std.proofs.Common.{[], ◌∷◌, ◌++◌, Bool, List, cond, get_or, sym, ap₂, ◌∙◌}
use Rattle.std.proofs.lemmas.List.Elements.{filter_more}
use Rattle.vd_base.specs.declared.ids.SlotId.{SlotId}
use Rattle.vd_space.specs.Points.{may_bring}
use Rattle.vd_cost_network_tables.proofs.switches.members_of.Goals as goal

abbrev none : SlotId
none = record { 0 = 0 }

pub loop-slot-preserved : goal.loop-slot-preserved
loop-slot-preserved c =
    let slots = c.args.slots.now in
    let i = c.loop-slot.slot-index in
    let slot = get_or slots i none in
    c.in_ok-push_if.ensures {u = tt}
    ∙ ap₂ (λ (front : List SlotId) (test : Bool). front ++ cond test (slot ∷ []) []) c.loop-slot.invariant c.can_bring-test.ensures
    ∙ sym (filter_more (may_bring c.args.problem.now c.args.host) slots i none c.loop-slot-test.true)
