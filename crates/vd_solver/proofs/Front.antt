-- The lemmas that other crates cite.
pub use Rattle.vd_solver.proofs.Once.{labelled_once}
pub use Rattle.vd_solver.proofs.Somehow.{labelled_somehow}
pub use Rattle.vd_solver.proofs.Decided.{system_or_not}
pub use Rattle.vd_solver.proofs.Function.{labelling_is, labelling_of}
