-- The arcs without shifts, as they are made from a list of protocols and what moves and tellings cost.
use Rattle.std.specs.Prelude.{ℕ, ◌+◌, if◌then◌else◌, Option, Some, None, List, [], ◌∷◌, ◌++◌, map, length, slice_get, ℤ, pos}
use Rattle.std.specs.Option.{option_map_or}
use Rattle.vd_base.specs.declared.ids.HostId.{HostId}
use Rattle.vd_base.specs.declared.ids.SlotId.{SlotId}
use Rattle.vd_base.specs.declared.protocols.Proto.{Proto}
use Rattle.vd_base.specs.declared.protocols.Proto.TheVariants.{Local}
use Rattle.vd_base.specs.Moves.{move_at}
use Rattle.vd_base.specs.Holders.{is_holder}
use Rattle.vd_space.specs.declared.problem.Problem.{Problem}
use Rattle.vd_space.specs.declared.problem.Use.{Use}
use Rattle.vd_space.specs.declared.problem.Index.{Index}
use Rattle.vd_space.specs.declared.problem.Guard.{Guard}
use Rattle.vd_space.specs.Costs.{weigh}
use Rattle.vd_space.specs.Arcs.{parts}
use Rattle.vd_cost_network_prefix.specs.declared.made.SwitchTable.{SwitchTable}
use Rattle.vd_cost_network_tables.specs.declared.raw.RawArc.{RawArc}

-- so often each price, in parts
abbrev pub scaled_cells : ℕ → List (List (Option ℕ)) → List (List (Option ℤ))
scaled_cells weight prices = map (map (λ price. parts (weigh weight price))) prices

abbrev pub use_raw : List (List (Option ℕ)) → Use → RawArc
use_raw moves u = record { first = u.source.0; second = u.target.0; cells = scaled_cells u.weight moves }

abbrev pub index_raw : List (List (Option ℕ)) → Index → RawArc
index_raw tells i = record { first = i.array.0; second = i.index.0; cells = scaled_cells i.weight tells }

-- by the protocols of a list, where the second point is a switch: of a guard, and of a member
abbrev pub guard_cells : List Proto → ℕ → HostId → List (List (Option ℤ))
guard_cells list weight h = map (λ p. Some (pos 0) ∷ parts (weigh weight (move_at p (Local h))) ∷ []) list

abbrev pub member_cells : List Proto → HostId → List (List (Option ℤ))
member_cells list h = map (λ p. (if is_holder p h then None else Some (pos 0)) ∷ Some (pos 0) ∷ []) list

abbrev pub guard_raw : List Proto → ℕ → HostId → Guard → RawArc
guard_raw list point h guard = record { first = guard.slot.0; second = point; cells = guard_cells list guard.weight h }

abbrev pub member_raw : List Proto → ℕ → HostId → SlotId → RawArc
member_raw list point h slot = record { first = slot.0; second = point; cells = member_cells list h }

abbrev pub switch_raws : List Proto → ℕ → SwitchTable → Guard → List RawArc
switch_raws list point switch guard = guard_raw list point switch.host guard ∷ map (member_raw list point switch.host) switch.members

-- of switches that have the points from this one on
abbrev pub raws_from : Problem → List Proto → ℕ → List SwitchTable → List RawArc
raws_from problem list point [] = []
raws_from problem list point (switch ∷ rest) = option_map_or (switch_raws list point switch) (slice_get problem.guards switch.guard) [] ++ raws_from problem list (point + 1) rest

abbrev pub raws_by : Problem → List Proto → List (List (Option ℕ)) → List (List (Option ℕ)) → List SwitchTable → List RawArc
raws_by problem list moves tells switches = map (use_raw moves) problem.uses ++ map (index_raw tells) problem.indexes ++ raws_from problem list (length problem.slots) switches
