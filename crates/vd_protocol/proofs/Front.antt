-- The lemmas that other crates cite.
pub use Rattle.vd_protocol.proofs.Over.{is_over, three_over}
