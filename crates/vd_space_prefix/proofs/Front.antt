-- The lemmas that other crates cite.
pub use Rattle.vd_space_prefix.proofs.Fills.{grows, grows_z}
pub use Rattle.vd_space_prefix.proofs.Changes.{total_more, total_range_more}
pub use Rattle.vd_space_prefix.proofs.Found.{found, missing}
pub use Rattle.vd_space_prefix.proofs.Paths.{front_of}
pub use Rattle.vd_space_prefix.proofs.Greater.{max_sum}
pub use Rattle.vd_space_prefix.proofs.Numbering.{numbered, shifted_numbered, unnumbered}
pub use Rattle.vd_space_prefix.proofs.Placed.{Decided, at_place, candidates, decided, past, same_least, size_by_place, stands, under_is, where_same}
pub use Rattle.vd_space_prefix.proofs.Growing.{arcs_grow, guards_grow, naming_allows, naming_named}
