-- The lemmas that other crates cite.
pub use Rattle.vd_cmd_data.proofs.Told.{columns_told}
pub use Rattle.vd_cmd_data.proofs.Reported.{reports_told}
