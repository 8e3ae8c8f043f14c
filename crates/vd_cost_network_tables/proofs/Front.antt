-- The lemmas that other crates cite.
pub use Rattle.vd_cost_network_tables.proofs.Placed.{arc_tables_are, least_where_same, point_tables_are, tests_size}
pub use Rattle.vd_cost_network_tables.proofs.Switching.{switch_tables_are}
pub use Rattle.vd_cost_network_tables.proofs.Placing.{row_is, row_small}
pub use Rattle.vd_cost_network_tables.proofs.Costs.{map_map}
pub use Rattle.vd_cost_network_tables.proofs.Shifting.{few_settings, pair_at, taken}
pub use Rattle.vd_cost_network_tables.proofs.Ranging.{arc_tables_small, raw_light}
pub use Rattle.vd_cost_network_tables.proofs.Rawing.{switch_at, switches_size}
pub use Rattle.vd_cost_network_tables.proofs.Owning.{nothing_shifted, own_is}
pub use Rattle.vd_cost_network_tables.proofs.Pointing.{gain_is, named_guard, named_inside, point_light, point_tables_small, values_within}
pub use Rattle.vd_cost_network_tables.proofs.Assembling.{settings_are, tests_found}
