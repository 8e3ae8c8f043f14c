use Rattle.std.proofs.Common.{◌+◌, ◌++◌, [], List, length, ap, ◌∙◌, slice_get}
use Rattle.std.specs.Option.{option_map_or}
use Rattle.vd_space.specs.declared.problem.Making.{Making}
use Rattle.vd_cost_network_tables.specs.Raws.{switch_raws}
use Rattle.vd_cost_network_tables.proofs.Raising.{switch_more}
use Rattle.vd_cost_network_tables.proofs.arcs.raw_arcs.Goals as goal

pub loop-number-preserved : goal.loop-number-preserved
loop-number-preserved c =
    let problem = c.args.problem.now in
    let list = c.args.list.now in
    let number = c.loop-number.number in
    let switch = c.index-switches-number.result in
    switch_more problem list (length problem.slots) number c.args.switches.now switch c.loop-number.arcs c.append-in-loop-number.new.self _ c.loop-number-test.true c.index-switches-number.is
    c.loop-number.invariant
    (c.in_ok-append-2.ensures.ok
    ∙ ap (λ item. c.loop-number.arcs ++ item)
    (c.in_ok-arcs_of_switch.ensures ∙ ap (λ (slots : List Making). option_map_or (switch_raws list (length slots + number) switch) (slice_get problem.guards switch.guard) []) c.as_slice-slots.ensures))
