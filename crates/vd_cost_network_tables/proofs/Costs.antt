-- What arcs cost by the settings of their points.
use Rattle.std.proofs.Common.{◌≡◌, ℕ, ◌+◌, ◌<◌, Option, Some, None, List, [], ◌∷◌, map, length, get_or, refl, sym, ap, ap₂, ◌∙◌, ℤ, pos, slice_get}
use Rattle.std.specs.Prelude.{if◌then◌else◌}
use Rattle.std.specs.List.{range_with_len}
use Rattle.std.proofs.lemmas.List.{get_or-map, length-map}
use Rattle.std.proofs.lemmas.List.FromFn.{fill_by_all}
use Rattle.vd_base.specs.declared.ids.SlotId.{SlotId}
use Rattle.vd_base.specs.declared.protocols.Proto.{Proto}
use Rattle.vd_base.specs.declared.protocols.Proto.TheVariants.{Local}
use Rattle.vd_base.specs.HostSets.{host}
use Rattle.vd_base.specs.Moves.{move_at}
use Rattle.vd_base.specs.Holders.{is_holder}
use Rattle.vd_space.specs.declared.problem.Problem.{Problem}
use Rattle.vd_space.specs.declared.problem.Use.{Use}
use Rattle.vd_space.specs.declared.problem.Index.{Index}
use Rattle.vd_space.specs.Spaces.{IsUse, IsIndex}
use Rattle.vd_space.specs.Validity.{protocols, move}
use Rattle.vd_space.specs.Costs.{weigh, use_term, index_term, moves_to, hosts_at}
use Rattle.vd_space_prefix.specs.Transfers.{by_place}
use Rattle.vd_space_tables.specs.Prices.{moves_of, tells_of}
use Rattle.vd_space.specs.Points.{Switch, switches}
use Rattle.vd_space.specs.Arcs.{parts, in_parts, guard_arc, member_arc}
use Rattle.vd_space.proofs.Front.{at_slot, at_switch}
use Rattle.vd_cost_network_prefix.specs.States.{settings}
use Rattle.vd_cost_network_tables.specs.Tables.{cells_of}
use Rattle.vd_cost_network_tables.specs.Raws.{guard_cells, member_cells, scaled_cells}

-- a list by its items is a list by place
mapped_by_place : {X Y : Type 0} (f : X → Y) (xs : List X) (d : X) → map f xs ≡ by_place (length xs) (λ k. f (get_or xs k d))
mapped_by_place f xs d = fill_by_all (λ k. f (get_or xs k d)) (map f xs) (length xs) (f d) (length-map xs f) (λ k low. get_or-map f xs k d (f d) low)

pub map_map : {X Y Z : Type 0} (f : Y → Z) (g : X → Y) (xs : List X) → map f (map g xs) ≡ map (λ x. f (g x)) xs
map_map f g [] = refl
map_map f g (x ∷ xs) = ap (λ rest. f (g x) ∷ rest) (map_map f g xs)

module _ (problem : Problem) where
  abbrev many : ℕ
  many = length (protocols problem)

  abbrev d : Proto
  d = Local (host 0)

  settings_at_slot : (slot : ℕ) → slot < length problem.slots → settings problem slot ≡ many
  settings_at_slot slot low = at_slot problem (λ s. many) (λ w. 2) 0 slot low

  settings_at_switch : (k : ℕ) (w : Switch) → slice_get (switches problem) k ≡ Some w → settings problem (length problem.slots + k) ≡ 2
  settings_at_switch k w at = at_switch problem (λ s. many) (λ w. 2) 0 k w at

  -- ---- uses and indexes

  pub use_cells : (u : Use) → IsUse (length problem.slots) u → scaled_cells u.weight (moves_of (protocols problem)) ≡ cells_of problem (in_parts (use_term problem u))
  use_cells u is =
      let list = protocols problem in
      let row : Proto → List (Option ℤ) = λ from. map (λ price. parts (weigh u.weight price)) (map (move_at from) list) in
      map_map (map (λ price. parts (weigh u.weight price))) (λ from. map (move_at from) list) list
      ∙ mapped_by_place row list d
      ∙ ap (λ f. by_place many f) (λ i p. (map_map (λ price. parts (weigh u.weight price)) (move_at (get_or list p d)) list ∙ mapped_by_place (λ to. parts (weigh u.weight (move_at (get_or list p d) to))) list d) i)
      ∙ ap₂ (λ n m. by_place n (λ p. by_place m (λ q. parts (weigh u.weight (move problem p q))))) (sym (settings_at_slot u.source.0 is.source)) (sym (settings_at_slot u.target.0 is.target))

  pub index_cells : (i : Index) → IsIndex (length problem.slots) i → scaled_cells i.weight (tells_of problem) ≡ cells_of problem (in_parts (index_term problem i))
  index_cells i is =
      let told : ℕ → List (Option ℕ) = λ p. by_place many (λ q. moves_to problem q (hosts_at problem p)) in
      map_map (map (λ price. parts (weigh i.weight price))) told (range_with_len 0 many)
      ∙ ap (λ f. by_place many f) (λ j p. map_map (λ price. parts (weigh i.weight price)) (λ q. moves_to problem q (hosts_at problem p)) (range_with_len 0 many) j)
      ∙ ap₂ (λ n m. by_place n (λ p. by_place m (λ q. parts (weigh i.weight (moves_to problem q (hosts_at problem p)))))) (sym (settings_at_slot i.array.0 is.array)) (sym (settings_at_slot i.index.0 is.index))

  -- ---- arcs of a switch

  module _ (k : ℕ) (w : Switch) (at : slice_get (switches problem) k ≡ Some w) where
    abbrev point : ℕ
    point = length problem.slots + k

    pub guard_cells_are : w.guard.slot.0 < length problem.slots → guard_cells (protocols problem) w.guard.weight w.host ≡ cells_of problem (guard_arc problem point w)
    guard_cells_are low =
        mapped_by_place (λ p. Some (pos 0) ∷ parts (weigh w.guard.weight (move_at p (Local w.host))) ∷ []) (protocols problem) d
        ∙ ap₂ (λ n m. by_place n (λ p. by_place m ((guard_arc problem point w).value p))) (sym (settings_at_slot w.guard.slot.0 low)) (sym (settings_at_switch k w at))

    pub member_cells_are : (slot : SlotId) → slot.0 < length problem.slots → member_cells (protocols problem) w.host ≡ cells_of problem (member_arc problem point w.host slot)
    member_cells_are slot low =
        mapped_by_place (λ p. (if is_holder p w.host then None else Some (pos 0)) ∷ Some (pos 0) ∷ []) (protocols problem) d
        ∙ ap₂ (λ n m. by_place n (λ p. by_place m ((member_arc problem point w.host slot).value p))) (sym (settings_at_slot slot.0 low)) (sym (settings_at_switch k w at))
