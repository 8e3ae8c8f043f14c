-- The lemmas that other crates cite.
pub use Rattle.vd_cmd_compile.proofs.Runnable.{assignment_of, can_run, code_count, runnable_of}
pub use Rattle.vd_cmd_compile.proofs.Aloud.{covered, stored_for}
pub use Rattle.vd_cmd_compile.proofs.Sure.{compile_follows}
