-- The lemmas that other crates cite.
pub use Rattle.vd_split.proofs.Picked.{picked_below, picked_few}
pub use Rattle.vd_split.proofs.ChoreographyBlocks.{both_idle, effect_of, emits, means, no_slots, sees, slots, turn_here, turn_later, turns_act}
pub use Rattle.vd_split.proofs.Calls.{Between, Movable, Reached, all_past, between_of, gives_on, operand_past, picked_join, ready_past}
pub use Rattle.vd_split.proofs.Folds.{fold_each}
pub use Rattle.vd_split.proofs.Lists.{AreApart, InRow, and_left, and_right, at_end, front_kept, or_cases, or_left, or_none_left, or_none_right, or_right, row_back, row_front, row_of}
pub use Rattle.vd_split.proofs.Loops.{Comes, after_longer, all_turns, begins, begins_at, branch_after, has_register, loop_after, none_picked, not_below, reached, register_taken, turning}
pub use Rattle.vd_split.proofs.Programs.{program_needs_its_loops, program_tidy, program_within, tells_the_same}
pub use Rattle.vd_split.proofs.ChoreographyRights.{Done, Turning, index_reached, movables, moved, operand_of, operand_of_variable, right_done}
pub use Rattle.vd_split.proofs.Sight.{Array, Binding, New, Old, Sees, Use, Variable, Which, changing, content, item_put, which, with_use}
pub use Rattle.vd_split.proofs.ChoreographySteps.{After, E, Ties, TurnsIn, array_after, let_after, other_array, other_word, output_after, put_after, store_after, turns_past, unchanging_past, var_after}
pub use Rattle.vd_split.proofs.Tied.{Distinct, Other, Same, Tied, Unchanging, part, tied_past}
pub use Rattle.vd_split.proofs.Fits.{all_fit, no_turns, tied_at_start}
