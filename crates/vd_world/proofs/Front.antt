-- The lemmas that other crates cite.
pub use Rattle.vd_world.proofs.Supplies.{files_are_valid}
pub use Rattle.vd_world.proofs.Told.{programs_tell}
