use Rattle.std.proofs.Common.{◌≤◌, [], None, Option, ℕ, List, map, get_or, sym, ap, ◌∙◌, subst}
use Rattle.std.specs.Prelude.{unwrap_or}
use Rattle.vd_space.specs.Costs.{weigh}
use Rattle.vd_space_tables.proofs.Front.{get_or_any, mapped}
use Rattle.vd_space.specs.Arcs.{parts}
use Rattle.vd_cost_network_tables.proofs.arcs.scaled_table.Goals as goal

pub scaled_row-requires-clause-prices : goal.scaled_row-requires-clause-prices
scaled_row-requires-clause-prices c q =
    let prices = c.args.prices.now in
    let i = c.loop-row.row-index in
    subst (λ (row : List (Option ℕ)). unwrap_or (get_or row q None) 0 ≤ 848) (sym (c.as_slice.ensures ∙ c.row-item.is ∙ get_or_any prices i c.row-item.result [] c.loop-row-test.true)) (c.requires.prices.few i q)

pub loop-row-preserved : goal.loop-row-preserved
loop-row-preserved c =
    let scale = map (λ price. parts (weigh c.args.weight price)) in
    mapped scale c.args.prices.now c.loop-row.row-index c.row-item.result c.loop-row.rows c.push.new.self c.in_ok-scaled_row.field-0 c.loop-row-test.true c.loop-row.invariant
    (c.in_ok-scaled_row.ensures ∙ ap scale (c.as_slice.ensures ∙ c.row-item.is)) c.in_ok-push.ensures.ok
