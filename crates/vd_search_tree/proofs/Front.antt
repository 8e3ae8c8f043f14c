-- The lemmas that other crates cite.
pub use Rattle.vd_search_tree.proofs.Outcomes.{one_outcome, outcome_once}
