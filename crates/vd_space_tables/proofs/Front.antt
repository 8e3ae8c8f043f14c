-- The lemmas that other crates cite.
pub use Rattle.vd_space_tables.proofs.Small.{HasAtMost, add_within, more_within, operation_value_small, outputs_value_small}
pub use Rattle.vd_space_tables.proofs.SpaceTermsMade.{get_or_any, same_by_place}
pub use Rattle.vd_space_tables.proofs.Mapped.{mapped}
pub use Rattle.vd_space_tables.proofs.SpaceTermsSmall.{place_within}
pub use Rattle.vd_space_tables.proofs.Network.{candidates_at}
pub use Rattle.vd_space_tables.proofs.Counting.{if_within, part_within, sides_together}
pub use Rattle.vd_space_tables.proofs.Placing.{row_is, sums_small, whole_within}
