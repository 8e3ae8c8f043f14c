use Rattle.std.proofs.Common.{get_or, ap, arith}
use Rattle.std.specs.Prelude.{unwrap_or}
use Rattle.vd_base.specs.declared.protocols.Proto.TheVariants.{Local}
use Rattle.vd_base.specs.HostSets.{host}
use Rattle.vd_base.specs.Moves.{move_at}
use Rattle.vd_space.proofs.Front.{told_price}
use Rattle.vd_cost_network_tables.proofs.arcs.arcs_of_switch.Goals as goal

pub switch_arcs-requires-clause-prices : goal.switch_arcs-requires-clause-prices
switch_arcs-requires-clause-prices c p =
    let low = told_price c.args.problem.now c.requires.list.labelled.few_hosts c.args.switch.now.host p in
    let same = ap (λ list. unwrap_or (move_at (get_or list p (Local (host 0))) (Local c.args.switch.now.host)) 0) c.requires.list.all in
    omega (arith, low, same)
