-- The lemmas that other crates cite.
pub use Rattle.vd_channel_crypto.proofs.Distinct.{both_ends}
pub use Rattle.vd_channel_crypto.proofs.Twice.{twice}
