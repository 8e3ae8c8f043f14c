-- The lemmas that other crates cite.
pub use Rattle.vd_rewrite.proofs.Stores.{item_last, item_old, item_put, item_put_other, length_push, pushed}
pub use Rattle.vd_rewrite.proofs.Tables.{Grown, Known, Placed, either_of, known_later, or_later, placed_at_start, placed_later, placed_push}
pub use Rattle.vd_rewrite.proofs.Chain.{Adds, effect_let, state, word}
pub use Rattle.vd_rewrite.proofs.Agree.{Agree, more_binding, more_none, more_variable}
pub use Rattle.vd_rewrite.proofs.Meaning.{Counts, Laws, LetState, Meaning, counts_split, effect_for, effect_store, effect_var, list_parts}
pub use Rattle.vd_rewrite.proofs.Statements.{body_means, parts, stmt_means}
pub use Rattle.vd_rewrite.proofs.Outputs.{counts_range, let_adds, let_gives, let_grown, outputs_kept}
pub use Rattle.vd_rewrite.proofs.Pushes.{all_push, cells_push, count_push, nesting_push, slots_push}
pub use Rattle.vd_rewrite.proofs.Shape.{Makes, cells_for, cells_let, cells_store, cells_var, count_for, makes_both, makes_deeper, makes_kept, makes_none, makes_stmt, nest_for, nest_let, nest_store, nest_var, slots_for, slots_let, slots_store, slots_var, some_count}
pub use Rattle.vd_rewrite.proofs.Tests.{Looks, all_mapped, kept_keeps, test_for, test_let, test_store, test_var}
pub use Rattle.vd_rewrite.proofs.Sights.{Adds as SightAdds, Shows, adds_both, adds_none, let_adds as sight_let_adds, see_for, see_let, see_store, see_var, shows_binding, shows_fewer, sight, stmt_adds}
pub use Rattle.vd_rewrite.proofs.WellMade.{LetsFit, declared_look, entry_passes, hosts_look, item_passes, kept_fits, operands_look, rewritten_well_made, shifts_look, turns_look}
pub use Rattle.vd_rewrite.proofs.Sizes.{anything, kept_makes, large_is_not_within}
pub use Rattle.vd_rewrite.proofs.Exits.{one_more, stops_block, stops_first, stops_in_list, stops_then}
