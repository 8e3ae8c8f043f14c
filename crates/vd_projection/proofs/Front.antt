-- The lemmas that other crates cite.
pub use Rattle.vd_projection.proofs.HostCodes.{codes_can_be_loaded, codes_run_as_told, codes_run_well, ended_past, joint_is_tidy, no_words, proto_over, runnable_over, valid_for}
pub use Rattle.vd_projection.proofs.ProgramLengths.{statements_make_few}
pub use Rattle.vd_projection.proofs.Chosen.{assignments_can_run, assignments_tell_the_same, can_run, each_has}
pub use Rattle.vd_projection.proofs.Digests.{is_digest}
pub use Rattle.vd_projection.proofs.Files.{stored_programs_are_read_back, stored_programs_stand_in_files, stored_texts_are_short}
pub use Rattle.vd_projection.proofs.Early.{careful_texts, runs_alike}
pub use Rattle.vd_projection.proofs.Shorter.{early_of_hosts}
