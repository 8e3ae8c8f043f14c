-- The parts of tables.
use Rattle.std.specs.Prelude.{◌≡◌, ℕ, ◌<◌, ◌≤◌, List, [], length, map, All, ◌+ℤ◌}
use Rattle.vd_base.specs.declared.protocols.Proto.{Proto}
use Rattle.vd_search_tree.specs.declared.shift.Shift.{Shift}
use Rattle.vd_space.specs.declared.problem.Problem.{Problem}
use Rattle.vd_space.specs.Validity.{protocols}
use Rattle.vd_space.specs.Costs.{total, use_term, index_term, guards_total}
use Rattle.vd_space.specs.Bounds.{least_one, shifted_uses, slot_shift}
use Rattle.vd_space_prefix.specs.declared.tables.Tables.{Tables}
use Rattle.vd_space_prefix.specs.declared.tables.Sums.{Sums}
use Rattle.vd_space_prefix.specs.Steps.{AreArcs}
use Rattle.vd_space_prefix.specs.Naming.{naming_of}
use Rattle.vd_space_prefix.specs.Tables.{AreSumsOf}
use Rattle.vd_space_prefix.specs.Transfers.{ArePrices, IsWithin, by_place}
use Rattle.vd_space_tables.specs.Arcs.{AreArcsOf}
use Rattle.vd_space_tables.specs.declared.made.Moved.{Moved}
use Rattle.vd_space_tables.specs.declared.made.Charges.{Charges}
use Rattle.vd_space_tables.specs.declared.made.Kept.{Kept}
use Rattle.vd_space_tables.specs.Charges.{IsCharge, operations_of, outputs_of, merged_of, telling_of}
use Rattle.vd_space_tables.specs.Gains.{gains_with}
use Rattle.vd_space_tables.specs.Start.{free_total, both_total}

-- what all shifts put on a slot at a place of the list is small: 2^49
abbrev pub AreSmallOnSlots : Problem → List Shift → Type 0
AreSmallOnSlots problem shifts =
    (slot p : ℕ) → slot < length problem.slots → p < length (protocols problem) → IsWithin 562949953421312 (total (slot_shift problem slot p) shifts)

-- each part as it is made
pub record HaveParts (problem : Problem) (tables : Tables) : Type 0 where
  pub list : tables.list ≡ protocols problem
  pub few : length tables.list ≤ 64
  pub moves : ArePrices tables.moves
  pub tells : ArePrices tables.tells
  pub arcs : AreArcsOf problem tables.moves (map (use_term problem) problem.uses) tables.arcs
  pub shifted_arcs : AreArcsOf problem tables.moves (shifted_uses problem tables.shifts 0 problem.uses) tables.shifted_arcs
  pub index_arcs : AreArcsOf problem tables.tells (map (index_term problem) problem.indexes) tables.index_arcs
  pub tellings : tables.tellings ≡ map (telling_of problem) problem.guards
  pub gains : tables.gains ≡ map (gains_with (outputs_of problem)) (operations_of problem)
  pub shifted_gains : tables.shifted_gains ≡ map (gains_with []) (merged_of problem tables.shifts)
  pub naming : tables.naming ≡ by_place (length problem.slots) (naming_of problem)
  pub start : AreSumsOf problem tables.shifts [] tables.start

-- ---- as they are made

pub record AreMoved (problem : Problem) (shifts : List Shift) (m : Moved) : Type 0 where
  pub moves : ArePrices m.moves
  pub tells : ArePrices m.tells
  pub arcs : AreArcsOf problem m.moves (map (use_term problem) problem.uses) m.arcs
  pub shifted_arcs : AreArcsOf problem m.moves (shifted_uses problem shifts 0 problem.uses) m.shifted_arcs
  pub index_arcs : AreArcsOf problem m.tells (map (index_term problem) problem.indexes) m.index_arcs

pub record AreCharges (problem : Problem) (shifts : List Shift) (c : Charges) : Type 0 where
  pub operations : c.operations ≡ operations_of problem
  pub outputs : c.outputs ≡ outputs_of problem
  pub merged : c.merged ≡ merged_of problem shifts

-- small enough, and few enough, for their sums to be made

pub record AreSmallMoved (m : Moved) : Type 0 where
  pub arcs : AreArcs m.arcs
  pub few_arcs : length m.arcs ≤ 2048
  pub shifted_arcs : AreArcs m.shifted_arcs
  pub few_shifted_arcs : length m.shifted_arcs ≤ 2048
  pub index_arcs : AreArcs m.index_arcs
  pub few_index_arcs : length m.index_arcs ≤ 2048

pub record AreSmallCharges (c : Charges) : Type 0 where
  pub operations : All (IsCharge 1125899906842624) c.operations
  pub few_operations : length c.operations ≤ 2048
  pub outputs : All (IsCharge 1073741824) c.outputs
  pub few_outputs : length c.outputs ≤ 2048
  pub merged : All (IsCharge 1125899906842624) c.merged
  pub few_merged : length c.merged ≤ 2048

pub record AreSmallParts (c : Charges) (m : Moved) : Type 0 where
  pub charges : AreSmallCharges c
  pub moved : AreSmallMoved m

-- the sums of the empty prefix
abbrev pub start_of : Problem → Charges → Moved → Sums
start_of problem c m = record {
  low = free_total c.operations +ℤ free_total c.outputs +ℤ both_total m.arcs;
  shifted = free_total c.merged +ℤ both_total m.shifted_arcs;
  common = both_total m.index_arcs +ℤ guards_total problem (least_one problem []) [];
}

pub record AreKept (problem : Problem) (c : Charges) (m : Moved) (k : Kept) : Type 0 where
  pub tellings : k.tellings ≡ map (telling_of problem) problem.guards
  pub gains : k.gains ≡ map (gains_with c.outputs) c.operations
  pub shifted_gains : k.shifted_gains ≡ map (gains_with []) c.merged
  pub naming : k.naming ≡ by_place (length problem.slots) (naming_of problem)
  pub start : k.start ≡ start_of problem c m

-- put together
abbrev pub tables_of : List Proto → List Shift → Moved → Kept → Tables
tables_of list shifts m k = record {
  list = list;
  shifts = shifts;
  moves = m.moves;
  tells = m.tells;
  arcs = m.arcs;
  shifted_arcs = m.shifted_arcs;
  index_arcs = m.index_arcs;
  tellings = k.tellings;
  gains = k.gains;
  shifted_gains = k.shifted_gains;
  naming = k.naming;
  start = k.start;
}
