-- The lemmas that other crates cite.
pub use Rattle.vd_engine.proofs.Codes.{also_with}
pub use Rattle.vd_engine.proofs.Enough.{enough}
