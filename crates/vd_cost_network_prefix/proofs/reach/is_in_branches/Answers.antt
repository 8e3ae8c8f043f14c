use Rattle.std.proofs.Common.{false, ap, ◌∙◌}
use Rattle.vd_space.specs.declared.problem.Guard.{Guard}
use Rattle.vd_space_prefix.proofs.Front.{found, missing}
use Rattle.vd_cost_network_prefix.specs.Reach.{names_slot}
use Rattle.vd_cost_network_prefix.proofs.reach.is_in_branches.Goals as goal

pub returns-in-Some : goal.returns-in-Some
returns-in-Some c =
    let lookup = c.in-Some.ensures.lookup in
    found (λ (guard : Guard). names_slot c.args.slot guard.slots) c.args.problem.now.guards c.as_slice.result.now c.as_slice.ensures c.args.guard false c.in-Some.guard.now c.is_among.result lookup.0 lookup.1 (c.is_among.ensures ∙ ap (names_slot c.args.slot) c.as_slice-in-Some.ensures)

pub returns-in-None : goal.returns-in-None
returns-in-None c = missing (λ (guard : Guard). names_slot c.args.slot guard.slots) c.args.problem.now.guards c.as_slice.result.now c.as_slice.ensures c.args.guard false c.in-None.ensures.lookup.3
