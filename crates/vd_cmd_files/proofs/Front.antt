-- The lemmas that other crates cite.
pub use Rattle.vd_cmd_files.proofs.Judged.{judged_once}
pub use Rattle.vd_cmd_files.proofs.Picked.{outcomes_are_single, some_outcomes}
