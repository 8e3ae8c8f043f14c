-- The lemmas that other crates cite.
pub use Rattle.vd_cost_network_prefix.proofs.Decided.{are_settings, states_are}
pub use Rattle.vd_cost_network_prefix.proofs.Summing.{pairs_size, parts_are}
