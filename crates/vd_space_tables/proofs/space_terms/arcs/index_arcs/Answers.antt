use Rattle.std.proofs.Common.{sym, subst}
use Rattle.vd_space.specs.declared.problem.Index.{Index}
use Rattle.vd_space_prefix.specs.Transfers.{ArePrices}
use Rattle.vd_space_tables.proofs.Cells.{tells_small}
use Rattle.vd_space_tables.proofs.Stepping.{index_next}
use Rattle.vd_space_tables.proofs.space_terms.arcs.index_arcs.Goals as goal

abbrev none : Index
none = record { array = record { 0 = 0 }; index = record { 0 = 0 }; weight = 0 }

pub index_arc-requires-clause-tells : goal.index_arc-requires-clause-tells
index_arc-requires-clause-tells c = subst ArePrices (sym c.requires.tells) (tells_small c.args.problem.now c.requires.well_formed.labelled)

pub loop-index-preserved : goal.loop-index-preserved
loop-index-preserved c =
    index_next c.args.problem.now c.requires.well_formed.labelled c.requires.well_formed.limits c.requires.well_formed.holds c.args.candidates.now c.requires.candidates c.args.tells.now c.requires.tells c.as_slice-index-items.result.now c.as_slice-index-items.ensures
    c.loop-index.index-index none c.loop-index.arcs c.push.new.self c.in_ok-index_arc.field-0 c.loop-index-test.true c.loop-index.invariant c.in_ok-index_arc.ensures c.in_ok-push.ensures.ok
