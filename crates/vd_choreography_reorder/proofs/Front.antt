-- The lemmas that other crates cite.
pub use Rattle.vd_choreography_reorder.proofs.Empty.{still_tidy}
pub use Rattle.vd_choreography_reorder.proofs.Brought.{forward_by, runs_alike}
pub use Rattle.vd_choreography_reorder.proofs.Telling.{joined_tells, joined_tidy}
