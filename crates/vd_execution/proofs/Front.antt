-- The lemmas that other crates cite.
pub use Rattle.vd_execution.proofs.Puts.{get_append, put_commutes, put_itself, put_other, put_same, put_twice, same_or_not}
pub use Rattle.vd_execution.proofs.Words.{operation_word}
pub use Rattle.vd_execution.proofs.Sound.{AreItem, Takes, one_more, put_takes, put_words, written_words}
pub use Rattle.vd_execution.proofs.ActsFirst.{flat_first, runs_first, smooth_first, within_first}
pub use Rattle.vd_execution.proofs.Gadgets.{gadget_sound, gadgets_sound, plan_sound, plan_tidy}
pub use Rattle.vd_execution.proofs.Confluence.{Through, one_end, run_steps, steps_keep, steps_run, strip, through_all, through_run}
pub use Rattle.vd_execution.proofs.Diamond.{Below, Stepped, answer_more, diamond, front_later, moved_grows, prefix_same, stepped, steps_to}
pub use Rattle.vd_execution.proofs.Reached.{Enough, GrowsInto, done_state, ended_needs, ended_stuck, ended_whole, faultless, goes_on, grows_along, never_short, remaining, stuck_ended, twin}
pub use Rattle.vd_execution.proofs.Parts.{absent, absent_part, part_keeps}
pub use Rattle.vd_execution.proofs.Resting.{same_resting}
pub use Rattle.vd_execution.proofs.Calm.{Calm, Calmly, same_start}
pub use Rattle.vd_execution.proofs.Order.{calmly_in_order}
pub use Rattle.vd_execution.proofs.Compiled.{in_program_order, never_short_on_the_way, on_the_way, whole}
pub use Rattle.vd_execution.proofs.Reading.{ends_there, read_back, unbegun, written_back, code_unbegun}
pub use Rattle.vd_execution.proofs.Picks.{picks}
pub use Rattle.vd_execution.proofs.Taking.{within}
pub use Rattle.vd_execution.proofs.Untouched.{untouched}
pub use Rattle.vd_execution.proofs.Rounds.{all_stuck, run_both, run_ended, step_falls, weight_falls}
pub use Rattle.vd_execution.proofs.Following.{Behind, able, follow, sent_packet}
pub use Rattle.vd_execution.proofs.Commuting.{commute, took}
pub use Rattle.vd_execution.proofs.Ended.{stays}
