-- The lemmas that other crates cite.
pub use Rattle.vd_cmd_excuse.proofs.Sure.{excuse_follows}
