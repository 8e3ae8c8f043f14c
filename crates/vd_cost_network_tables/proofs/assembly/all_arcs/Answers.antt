use Rattle.std.proofs.Common.{◌≡◌, ◌+◌, ◌<◌, List, length, ap, sym, ◌∙◌, subst}
use Rattle.std.specs.Prelude.{IfOk}
use Rattle.vd_space_tables.specs.Prices.{moves_of}
use Rattle.vd_cost_network_prefix.specs.declared.made.SwitchTable.{SwitchTable}
use Rattle.vd_cost_network_tables.specs.declared.raw.RawArc.{RawArc}
use Rattle.vd_cost_network_tables.specs.Raws.{raws_by}
use Rattle.vd_cost_network_tables.proofs.Assembling.{few_switches}
use Rattle.vd_cost_network_tables.proofs.Rawing.{raws_are}
use Rattle.vd_cost_network_tables.proofs.assembly.all_arcs.Goals as goal

pub raw_arcs-requires-clause-points : goal.raw_arcs-requires-clause-points
raw_arcs-requires-clause-points c =
    let problem = c.args.problem.now in
    subst (λ (switches : List SwitchTable). length problem.slots + length switches < 4294967296) (sym c.requires.switches) (few_switches problem c.requires.well_formed.labelled c.requires.well_formed.limits)

pub returns : goal.returns
returns c =
    let problem = c.args.problem.now in
    let moves = c.as_slice.ensures ∙ c.in_ok-moves.ensures.prices ∙ ap moves_of c.requires.list.all in
    let tells = c.as_slice-2.ensures ∙ c.in_ok-tells.ensures.prices in
    subst (λ (arcs : List RawArc). IfOk c.raw_arcs.result (λ (raws : List RawArc). raws ≡ arcs))
    ((λ i. raws_by problem (c.requires.list.all i) (moves i) (tells i) (c.requires.switches i)) ∙ raws_are problem c.requires.well_formed.holds)
    c.raw_arcs.ensures
