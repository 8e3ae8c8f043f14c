-- The lemmas that other crates cite.
pub use Rattle.vd_hostcode.proofs.Outcomes.{all_within, answers_of, can_run, first_is_broken, has_code, headed, last_is_broken, written_is_read}
pub use Rattle.vd_hostcode.proofs.Programs.{follow_grammar}
