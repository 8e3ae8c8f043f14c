-- The lemmas that other crates cite.
pub use Rattle.vd_elaborate.proofs.Kept.{outputs_kept}
pub use Rattle.vd_elaborate.proofs.AnfWellformedSteps.{accepted, declared_is, err_is, ok_is, passed}
pub use Rattle.vd_elaborate.proofs.Exact.{exact_weights}
pub use Rattle.vd_elaborate.proofs.WellMade.{well_made}
