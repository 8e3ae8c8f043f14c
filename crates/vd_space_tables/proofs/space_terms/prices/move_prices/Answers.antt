use Rattle.std.proofs.Common.{map, sym, ap, ◌∙◌, subst}
use Rattle.std.proofs.lemmas.List.{take_all}
use Rattle.vd_base.specs.declared.protocols.Proto.{Proto}
use Rattle.vd_base.specs.Moves.{move_at}
use Rattle.vd_space_prefix.specs.Transfers.{ArePrices}
use Rattle.vd_space_tables.specs.Prices.{moves_of}
use Rattle.vd_space_tables.proofs.Cells.{moves_small}
use Rattle.vd_space_tables.proofs.space_terms.prices.move_prices.Goals as goal

pub returns-clause-small : goal.returns-clause-small
returns-clause-small c problem labelled list_is =
    let list = c.args.list.now in
    let whole = ap (map (λ (from : Proto). map (move_at from) list)) (take_all c.loop-from.from-index list c.loop-from-test.false) in
    subst ArePrices (sym (c.loop-from.invariant ∙ whole ∙ ap moves_of list_is)) (moves_small problem labelled)
