-- The lemmas that other crates cite.
pub use Rattle.vd_backends.proofs.Served.{programs_can_be_split}
