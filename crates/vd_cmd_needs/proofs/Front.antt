-- The lemmas that other crates cite.
pub use Rattle.vd_cmd_needs.proofs.Sure.{needs_follows}
