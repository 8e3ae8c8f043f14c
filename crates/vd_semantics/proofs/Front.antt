-- The lemmas that other crates cite.
pub use Rattle.vd_semantics.proofs.Lookup.{function_here, function_not_here}
pub use Rattle.vd_semantics.proofs.Sizes.{code_size, function_fits, function_size, size_of, sizes, statement_fits}
