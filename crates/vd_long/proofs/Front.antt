-- The lemmas that other crates cite.
pub use Rattle.vd_long.proofs.DivisionMade.{lengthened_keeps}
pub use Rattle.vd_long.proofs.DivisionWellMade.{lengthened_well_made}
