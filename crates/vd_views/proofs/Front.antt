-- The lemmas that other crates cite.
pub use Rattle.vd_views.proofs.Frames.{acts_frame, acts_grow, itself}
pub use Rattle.vd_views.proofs.Changed.{changed_at, changed_elsewhere, changed_host, changed_place, changed_source}
pub use Rattle.vd_views.proofs.Joints.{Grows, HasFrame, before, branch_frame, branch_grows, frame_after, joint_frame, joint_grows, turns_frame, turns_grow}
pub use Rattle.vd_views.proofs.Plans.{begun_cursors, run_turn_grows}
pub use Rattle.vd_views.proofs.Coalitions.{is_alone, of_alone}
pub use Rattle.vd_views.proofs.Theorem.{deal_stays, free_opens, one_of_two_looks, others_are_explained, plan_is_tidy}
pub use Rattle.vd_views.proofs.Lengths.{excuses_are_as_long, own_fits}
pub use Rattle.vd_views.proofs.Strangers.{IsStranger, all_within, below_two, seen_item, strangers_take_none}
pub use Rattle.vd_views.proofs.Lists.{past_end}
pub use Rattle.vd_views.proofs.Hosts.{IsAsLong, Part, are_files, are_two_files, file, first_back, read_files, read_part, second_back}
