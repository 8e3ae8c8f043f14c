-- The tables of a problem and shifts, and what they are for: by them the bound of a prefix grows with a further choice.
use Rattle.std.specs.Prelude.{◌≡◌, ℕ, ◌+◌, ◌<◌, ◌≤◌, nat_lt, true, List, [], map, length, take, slice_index_or, All, ℤ, pos, ◌+ℤ◌, ◌-ℤ◌}
use Rattle.vd_search_tree.specs.declared.shift.Shift.{Shift}
use Rattle.vd_space.specs.declared.problem.Problem.{Problem}
use Rattle.vd_space.specs.Validity.{protocols, is_valid}
use Rattle.vd_space.specs.Costs.{total, use_term, index_term, ones, guards_total}
use Rattle.vd_space.specs.Bounds.{least_one, least_pair, shifted_ones, shifted_uses}
use Rattle.vd_space.specs.Growth.{extends, guard_names, with_choice}
use Rattle.vd_space.specs.WellFormed.{IsWellFormed}
use Rattle.vd_space_prefix.specs.declared.naming.Naming.{Naming}
use Rattle.vd_space_prefix.specs.declared.tables.Tables.{Tables}
use Rattle.vd_space_prefix.specs.declared.tables.Sums.{Sums}
use Rattle.vd_space_prefix.specs.Transfers.{ArePrices, IsWithin}
use Rattle.vd_space_prefix.specs.Steps.{AreArcs, changes}
use Rattle.vd_space_prefix.specs.Guards.{AreTellings, guard_changes}
use Rattle.vd_space_prefix.specs.Naming.{all_at, allows}

-- ---- the parts of the bounds

-- without shifts, the terms of slots and uses
abbrev pub low_part : Problem → List ℕ → ℤ
low_part problem prefix = total (least_one problem prefix) (ones problem) +ℤ total (least_pair problem prefix) (map (use_term problem) problem.uses)

-- the same under shifts
abbrev pub shifted_part : Problem → List Shift → List ℕ → ℤ
shifted_part problem shifts prefix = total (least_one problem prefix) (shifted_ones problem shifts) +ℤ total (least_pair problem prefix) (shifted_uses problem shifts 0 problem.uses)

-- the terms of indexes and guards, which no shift touches
abbrev pub common_part : Problem → List ℕ → ℤ
common_part problem prefix = total (least_pair problem prefix) (map (index_term problem) problem.indexes) +ℤ guards_total problem (least_one problem prefix) prefix

-- the three sums of a prefix
pub record AreSumsOf (problem : Problem) (shifts : List Shift) (prefix : List ℕ) (sums : Sums) : Type 0 where
  pub low : sums.low ≡ low_part problem prefix
  pub shifted : sums.shifted ≡ shifted_part problem shifts prefix
  pub common : sums.common ≡ common_part problem prefix

-- ---- tables

abbrev pub no_naming : Naming
no_naming = record { uses = []; outputs = []; guards = []; indexes = [] }

abbrev pub naming_at : Tables → ℕ → Naming
naming_at tables slot = slice_index_or tables.naming slot no_naming

abbrev pub gain_at : List (List ℤ) → ℕ → ℕ → ℤ
gain_at gains slot choice = slice_index_or (slice_index_or gains slot []) choice (pos 0)

-- places of the list
abbrev pub AreListed : Problem → List ℕ → Type 0
AreListed problem prefix = All (λ p. p < length (protocols problem)) prefix

-- by the tables, a prefix grows by a choice as it should
pub record GrowsBy (problem : Problem) (tables : Tables) (prefix : List ℕ) (choice : ℕ) : Type 0 where
  pub named : all_at (guard_names (length prefix)) problem.guards (naming_at tables (length prefix)).guards ≡ true
  pub allowed : allows problem (naming_at tables (length prefix)) (length prefix) choice (with_choice prefix choice) ≡ extends problem prefix choice
  pub low : gain_at tables.gains (length prefix) choice +ℤ changes tables.moves tables.arcs (naming_at tables (length prefix)).uses prefix (with_choice prefix choice)
      ≡ low_part problem (with_choice prefix choice) -ℤ low_part problem prefix
  pub shifted : gain_at tables.shifted_gains (length prefix) choice +ℤ changes tables.moves tables.shifted_arcs (naming_at tables (length prefix)).uses prefix (with_choice prefix choice)
      ≡ shifted_part problem tables.shifts (with_choice prefix choice) -ℤ shifted_part problem tables.shifts prefix
  pub common : changes tables.tells tables.index_arcs (naming_at tables (length prefix)).indexes prefix (with_choice prefix choice) +ℤ guard_changes problem tables.tellings (naming_at tables (length prefix)).guards prefix (with_choice prefix choice)
      ≡ common_part problem (with_choice prefix choice) -ℤ common_part problem prefix

-- the parts of a prefix are small: 2^61
pub record AreSmallAt (problem : Problem) (shifts : List Shift) (prefix : List ℕ) : Type 0 where
  pub low : IsWithin 2305843009213693952 (low_part problem prefix)
  pub shifted : IsWithin 2305843009213693952 (shifted_part problem shifts prefix)
  pub common : IsWithin 2305843009213693952 (common_part problem prefix)

-- a slot is named by few
pub record IsFew (naming : Naming) : Type 0 where
  pub uses : length naming.uses ≤ 2048
  pub guards : length naming.guards ≤ 2048
  pub indexes : length naming.indexes ≤ 2048

pub record AreTables (problem : Problem) (tables : Tables) : Type 0 where
  pub well_formed : IsWellFormed problem
  pub list : tables.list ≡ protocols problem
  pub few_protocols : length tables.list ≤ 64
  pub few_slots : length problem.slots ≤ 2048
  pub slots : length tables.naming ≡ length problem.slots
  pub moves : ArePrices tables.moves
  pub tells : ArePrices tables.tells
  pub arcs : AreArcs tables.arcs
  pub shifted_arcs : AreArcs tables.shifted_arcs
  pub index_arcs : AreArcs tables.index_arcs
  pub tellings : AreTellings tables.tellings
  pub gains : (slot choice : ℕ) → IsWithin 2305843009213693952 (gain_at tables.gains slot choice)
  pub shifted_gains : (slot choice : ℕ) → IsWithin 2305843009213693952 (gain_at tables.shifted_gains slot choice)
  pub few : (slot : ℕ) → IsFew (naming_at tables slot)
  pub small : (prefix : List ℕ) → AreListed problem prefix → AreSmallAt problem tables.shifts prefix
  pub start : AreSumsOf problem tables.shifts [] tables.start
  pub grows : (prefix : List ℕ) (choice : ℕ) → AreListed problem prefix → length prefix < length problem.slots → choice < length (protocols problem) → GrowsBy problem tables prefix choice

-- a further choice at a slot that there is
pub record IsStep (problem : Problem) (before : List ℕ) (choice : ℕ) (after : List ℕ) : Type 0 where
  pub listed : AreListed problem before
  pub room : length before < length problem.slots
  pub choice_listed : choice < length (protocols problem)
  pub grown : after ≡ with_choice before choice

-- ---- a path

-- the prefixes of a path that are valid, and their sums
pub record IsPath (problem : Problem) (tables : Tables) (choices : List ℕ) (kept : List Sums) (made valid_ones : ℕ) : Type 0 where
  pub room : length choices ≡ length problem.slots
  pub sums_room : length kept ≡ length problem.slots + 1
  pub depth : made ≤ length problem.slots
  pub valid : valid_ones ≤ made + 1
  pub listed : AreListed problem (take made choices)
  pub validity : (k : ℕ) → k ≤ made → is_valid problem (take k choices) ≡ nat_lt k valid_ones
  pub sums : (k : ℕ) (default : Sums) → k < valid_ones → AreSumsOf problem tables.shifts (take k choices) (slice_index_or kept k default)

-- a valid prefix, with its sums
pub record IsNext (problem : Problem) (tables : Tables) (prefix : List ℕ) (sums : Sums) : Type 0 where
  pub valid : is_valid problem prefix ≡ true
  pub sums_of : AreSumsOf problem tables.shifts prefix sums
