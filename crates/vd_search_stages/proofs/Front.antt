-- The lemmas that other crates cite.
pub use Rattle.vd_search_stages.proofs.Once.{chosen_once, some_choices}
pub use Rattle.vd_search_stages.proofs.Accepted.{spent_needs}
pub use Rattle.vd_search_stages.proofs.SoFar.{so_far_bounded, whole_same}
pub use Rattle.vd_search_stages.proofs.Optimal.{has_places, optimal_at}
