-- The lemmas that other crates cite.
pub use Rattle.vd_space.proofs.Tests.{all_passes, each_both, each_leads, item_kept, item_within, unless_passes}
pub use Rattle.vd_space.proofs.Candidates.{listed_at, stands_have}
pub use Rattle.vd_space.proofs.Kept.{IsValid, part_kept, parts_of, valid_listed}
pub use Rattle.vd_space.proofs.LeastLabelled.{has_labels}
pub use Rattle.vd_space.proofs.Terms.{HasPair, total_same}
pub use Rattle.vd_space.proofs.Valued.{each_append, each_below, each_map, indexes_have}
pub use Rattle.vd_space.proofs.Totals.{total_append, total_ext, total_map, total_once, total_plus}
pub use Rattle.vd_space.proofs.Shifted.{each_at}
pub use Rattle.vd_space.proofs.Bounded.{high_whole, low_whole, tree_bounded}
pub use Rattle.vd_space.proofs.Growth.{same_guard, same_item, same_one, same_pair, total_grows, valid_grows}
pub use Rattle.vd_space.proofs.Joining.{guard_told_grows, part_grows}
pub use Rattle.vd_space.proofs.Places.{one_by_place, pair_by_place}
pub use Rattle.vd_space.proofs.Walks.{on_ok, turns_fit, weigh_fits}
pub use Rattle.vd_space.proofs.Listed.{has_hosts_at}
pub use Rattle.vd_space.proofs.Loops.{host_passed, too_many}
pub use Rattle.vd_space.proofs.Programs.{is_labelled, names_below}
pub use Rattle.vd_space.proofs.Counted.{as_many}
pub use Rattle.vd_space.proofs.Prices.{move_price, row_price}
pub use Rattle.vd_space.proofs.Priced.{fewer, heft_append, index_price, listed_or_not, small, told_price}
pub use Rattle.vd_space.proofs.Weighed.{few_operands, is_problem, weigh_next}
pub use Rattle.vd_space.proofs.Sized.{is_within_limits}
pub use Rattle.vd_space.proofs.Few.{are_protocols, few_in, few_slice}
pub use Rattle.vd_space.proofs.Assignments.{cheapest_at, places_cheapest}
pub use Rattle.vd_space.proofs.Cheapest.{back, cheapest}
pub use Rattle.vd_space.proofs.SpaceOptimumPlaces.{proto_is, protos_are}
pub use Rattle.vd_space.proofs.Items.{any_held, each_filtered, each_flat, each_in_range, held, within}
pub use Rattle.vd_space.proofs.Points.{at_either, at_slot, at_switch, candidate_inside}
pub use Rattle.vd_space.proofs.CostNetworkBounded.{network_high_whole, network_tree_bounded, units_below}
pub use Rattle.vd_space.proofs.CostNetworkFew.{few_arcs}
