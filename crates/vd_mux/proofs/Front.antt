-- The lemmas that other crates cite.
pub use Rattle.vd_mux.proofs.SelectionsKept.{turning_keeps}
pub use Rattle.vd_mux.proofs.SelectionsWellMade.{turned_well_made}
pub use Rattle.vd_mux.proofs.Reading.{found}
