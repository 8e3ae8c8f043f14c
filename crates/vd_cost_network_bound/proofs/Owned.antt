-- What points cost alone, as it is made.
use Rattle.std.proofs.Common.{◌≡◌, ℕ, ◌+◌, ◌<◌, Some, None, List, Option, length, [], sym, ap, ◌∙◌, ℤ, pos, ◌+ℤ◌, option_map, slice_get}
use Rattle.vd_base.specs.declared.protocols.Proto.{Proto}
use Rattle.vd_space.specs.declared.problem.Problem.{Problem}
use Rattle.vd_space.specs.Validity.{protocols}
use Rattle.vd_space_prefix.specs.Transfers.{by_place}
use Rattle.vd_space_tables.proofs.Front.{same_by_place}
use Rattle.vd_space_tables.specs.Values.{merged_value}
use Rattle.vd_space.specs.Points.{Switch, switches}
use Rattle.vd_space.specs.Arcs.{point_value, slot_value, switch_value}
use Rattle.vd_space.proofs.Front.{at_slot, at_switch}
use Rattle.vd_cost_network_tables.specs.Tables.{own_value}
use Rattle.vd_cost_network_tables.proofs.Front.{nothing_shifted, own_is}
use Rattle.vd_cost_network_bound.specs.Bounds.{values_at}

pub slot_values_are : (problem : Problem) (slot : ℕ) (list : List Proto) (values : List (Option ℤ)) → slot < length problem.slots → list ≡ protocols problem → values ≡ by_place (length list) (merged_value problem slot [])
    → by_place (length list) (own_value problem slot values []) ≡ values_at problem slot
slot_values_are problem slot list values low same are =
    let many = length (protocols problem) in
    own_is problem slot list values [] same are
    ∙ same_by_place many (λ p. option_map (λ c. c +ℤ pos 0) (slot_value problem p slot)) (point_value problem slot)
    (λ p low_p. nothing_shifted (slot_value problem p slot) ∙ sym (at_slot problem (slot_value problem p) (switch_value problem p) None slot low))
    ∙ ap (λ n. by_place n (point_value problem slot)) (sym (at_slot problem (λ s. many) (λ w. 2) 0 slot low))

pub switch_values_are : (problem : Problem) (k : ℕ) (w : Switch) → slice_get (switches problem) k ≡ Some w → by_place 2 (λ v. switch_value problem v w) ≡ values_at problem (length problem.slots + k)
switch_values_are problem k w at =
    let point = length problem.slots + k in
    same_by_place 2 (λ v. switch_value problem v w) (point_value problem point) (λ v low. sym (at_switch problem (slot_value problem v) (switch_value problem v) None k w at))
    ∙ ap (λ n. by_place n (point_value problem point)) (sym (at_switch problem (λ s. length (protocols problem)) (λ x. 2) 0 k w at))
