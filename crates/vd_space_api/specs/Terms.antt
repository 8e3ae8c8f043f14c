-- What each slot costs, by slot and place, and what that means for a problem.
use Rattle.std.specs.Prelude.{◌≡◌, ℕ, ◌+◌, ◌*◌, ◌<◌, ◌≤◌, Bool, Option, Some, None, option_map, unwrap_or, List, [], ◌∷◌, length, slice_index_or, slice_set, ℤ, pos, max}
use Rattle.vd_base.specs.declared.protocols.Proto.{Proto}
use Rattle.vd_base.specs.declared.protocols.Proto.TheVariants.{Local}
use Rattle.vd_base.specs.Costs.{cost_at}
use Rattle.vd_base.specs.Moves.{move_at}
use Rattle.vd_base.specs.Holders.{proto_in}
use Rattle.vd_search_tree.specs.declared.shift.Shift.{Shift}
use Rattle.vd_space.specs.declared.problem.Problem.{Problem}
use Rattle.vd_space.specs.declared.problem.Making.{Making}
use Rattle.vd_space.specs.declared.problem.Output.{Output}
use Rattle.vd_space.specs.Validity.{protocols, protocol, can_stand, is_candidate}
use Rattle.vd_space.specs.Costs.{operation_value, plus}
use Rattle.vd_space.specs.Bounds.{only_if, add, outputs_value, shifted_one}
use Rattle.vd_space.specs.Sizes.{heft}
use Rattle.vd_space_api.specs.Rows.{if_passes, weighed, by_place}

abbrev pub row_at : List (List (Option ℕ)) → ℕ → List (Option ℕ)
row_at terms slot = slice_index_or terms slot []

abbrev pub candidates_of : Problem → Making → List Bool
candidates_of problem making = by_place (length (protocols problem)) (can_stand problem making)

-- ---- a slot's operation

abbrev pub operation_at : Problem → Making → ℕ → Option ℕ
operation_at problem making p = if_passes (can_stand problem making p) (weighed making.weight (cost_at making.row (protocol problem p)))

abbrev pub operations_of : Problem → Making → List (Option ℕ)
operations_of problem making = by_place (length (protocols problem)) (operation_at problem making)

-- ---- the outputs of its value

abbrev pub with_output : List Proto → Output → List (Option ℕ) → List (Option ℕ)
with_output list o row = by_place (length list) (λ p. plus (weighed o.weight (move_at (proto_in list p) (Local o.host))) (slice_index_or row p None))

-- with the output added to what its slot costs
abbrev pub terms_with : List Proto → Output → List (List (Option ℕ)) → List (List (Option ℕ))
terms_with list o terms = slice_set terms o.slot.0 (with_output list o (row_at terms o.slot.0))

-- ---- what the rows mean

-- at each candidate of a slot, the value there, if there is one
pub record IsTable (problem : Problem) (value : ℕ → ℕ → Option ℤ) (table : List (List (Option ℕ))) : Type 0 where
  pub slots : length table ≡ length problem.slots
  pub places : (slot : ℕ) → slot < length problem.slots → length (row_at table slot) ≡ length (protocols problem)
  pub terms : (slot p : ℕ) → slot < length problem.slots → p < length (protocols problem)
      → option_map pos (slice_index_or (row_at table slot) p None) ≡ only_if (is_candidate problem slot p) (value slot p)

-- the operations, with these outputs
abbrev pub costs_with : Problem → List Output → ℕ → ℕ → Option ℤ
costs_with problem outputs slot p = add (operation_value problem slot p) (outputs_value problem slot p outputs)

-- the terms of slots after these shifts
abbrev pub terms_after : Problem → List Shift → ℕ → ℕ → Option ℤ
terms_after problem shifts slot p = (shifted_one problem shifts slot).value p

-- ---- how much there is to hand on

abbrev pub greatest : List (Option ℕ) → ℕ
greatest [] = 0
greatest (o ∷ row) = max (unwrap_or o 0) (greatest row)

-- the operations with these outputs, and how much that is at most
pub record AreCosts (problem : Problem) (outputs : List Output) (terms : List (List (Option ℕ))) : Type 0 where
  pub table : IsTable problem (costs_with problem outputs) terms
  pub light : heft greatest terms ≤ heft (λ (m : Making). 220 * m.weight) problem.slots + heft (λ (o : Output). 212 * o.weight) outputs
