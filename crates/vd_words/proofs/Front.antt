-- The lemmas that other crates cite.
pub use Rattle.vd_words.proofs.AddLaws.{add_acts, add_laws}
