-- The lemmas that other crates cite.
pub use Rattle.vd_backend_laws.proofs.Standing.{all_below, cells_of, hosts_cell, in_names, no_back_end, register_cell, word_of}
pub use Rattle.vd_backend_laws.proofs.Over.{In, equal_of, holder_at, holders_apart, host_known, in_order, ordered_differ, picked_in}
pub use Rattle.vd_backend_laws.proofs.TwoHosts.{has_member, members_of_pair}
pub use Rattle.vd_backend_laws.proofs.Moves.{sole}
pub use Rattle.vd_backend_laws.proofs.Gives.{M, S, operand_at, ready_at}
pub use Rattle.vd_backend_laws.proofs.Rows.{in_cell}
pub use Rattle.vd_backend_laws.proofs.Arrays.{index_at}
pub use Rattle.vd_backend_laws.proofs.SuiteLaws.{input_stands, suite_laws}
pub use Rattle.vd_backend_laws.proofs.SuitePlaces.{suite_places}
pub use Rattle.vd_backend_laws.proofs.PlanTidy.{within}
pub use Rattle.vd_backend_laws.proofs.PlanRuns.{goes_smoothly, runs_alike, turns_alike, begun_is}
pub use Rattle.vd_backend_laws.proofs.Whole.{code_runs_well, code_tells_the_same}
pub use Rattle.vd_backend_laws.proofs.Given.{listed_protocols_are_over, zero_deals_are_valid}
