-- The lemmas that other crates cite.
pub use Rattle.vd_reorder.proofs.InRows.{meet_turned}
pub use Rattle.vd_reorder.proofs.Texts.{hastened_is}
pub use Rattle.vd_reorder.proofs.Hosts.{hastened_never_short}
pub use Rattle.vd_reorder.proofs.Instances.{words_stay}
pub use Rattle.vd_reorder.proofs.ReorderLawsTesting.{DoNotNeed, apart, do_not_need, kept_words, plain, past_registers, reads_apart}
pub use Rattle.vd_reorder.proofs.Standing.{ended_whole, on_the_way, reached_from}
pub use Rattle.vd_reorder.proofs.Alike.{begun_alike, chosen_alike, gone_alike, heard_look, joint_alike, smooth_alike}
pub use Rattle.vd_reorder.proofs.ChoreographyCommutingTurned.{tells_the_same}
pub use Rattle.vd_reorder.proofs.Tidy.{tidy_too}
pub use Rattle.vd_reorder.proofs.Apart.{act_beside_message, acts_apart, message_beside_act, messages_apart}
pub use Rattle.vd_reorder.proofs.Own.{acts_at_one}
pub use Rattle.vd_reorder.proofs.Shown.{shown_beside_act, shown_beside_message}
