-- The lemmas that other crates cite.
pub use Rattle.vd_excuse.proofs.Short.{short_kinds_are_exact}
