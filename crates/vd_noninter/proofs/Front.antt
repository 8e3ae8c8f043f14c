-- The lemmas that other crates cite.
pub use Rattle.vd_noninter.proofs.Following.{least_reach}
pub use Rattle.vd_noninter.proofs.Declared.{body_closed, eight_hosts}
pub use Rattle.vd_noninter.proofs.Hosts.{host_more, host_step, none_first}
pub use Rattle.vd_noninter.proofs.Answered.{answers, as_test, labels_over}
pub use Rattle.vd_noninter.proofs.Influenced.{are_influences}
pub use Rattle.vd_noninter.proofs.Steps.{item_put_other, item_set_other, later_at, length_set, word_put_other}
pub use Rattle.vd_noninter.proofs.Runs.{Seen, agree_refl, agree_sym, agree_trans, block, loop, seen_loop}
pub use Rattle.vd_noninter.proofs.Statements.{agree_after_right, agree_array, agree_output, agree_word, never_true, only, right_in_step}
pub use Rattle.vd_noninter.proofs.NoninterLawsWalk.{Keeps, block_run_is, body_keeps, run_is, stmt_keeps, taps_of}
pub use Rattle.vd_noninter.proofs.Whole.{given_is, hearing}
pub use Rattle.vd_noninter.proofs.Formulas.{acts_for, for_acts}
pub use Rattle.vd_noninter.proofs.Members.{body_splits, times}
pub use Rattle.vd_noninter.proofs.Lawful.{Tells, and_of, false_if, not_if}
pub use Rattle.vd_noninter.proofs.Same.{same_principals, same_slots}
pub use Rattle.vd_noninter.proofs.Theorem.{becoming, kept_read, program_flows, reached_are_enough, reached_once, reads_learns, results}
pub use Rattle.vd_noninter.proofs.Narrow.{narrowed, narrowed_flows}
pub use Rattle.vd_noninter.proofs.Named.{named_are_visible}
pub use Rattle.vd_noninter.proofs.IntegrityLawsLawful.{knowledge}
pub use Rattle.vd_noninter.proofs.IntegrityLawsTheorem.{against_is_trust, trusted_flows}
pub use Rattle.vd_noninter.proofs.IntegrityLawsInfluence.{influences_are_enough, influences_are_single}
pub use Rattle.vd_noninter.proofs.Trusted.{influences_nest, influences_trusted}
