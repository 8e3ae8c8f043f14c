-- Which rules read which part.
use Rattle.std.specs.Prelude.{◌≡◌, ℕ, ◌+◌, ◌*◌, ◌<◌, ◌≤◌, Bool, true, false, Option, Some, None, List, [], length, slice_index_or, All, Contains, IfSome}
use Rattle.vd_constraints.specs.declared.system.Place.{Place}
use Rattle.vd_constraints.specs.declared.system.Place.TheVariants.{Slot, Block}
use Rattle.vd_constraints.specs.declared.system.Part.{Part}
use Rattle.vd_constraints.specs.declared.system.Bound.{Bound}
use Rattle.vd_constraints.specs.declared.system.Bound.TheVariants.{Constant, Same, Given, Or}
use Rattle.vd_constraints.specs.declared.system.Lower.{Lower}
use Rattle.vd_constraints.specs.Systems.{Constraints}

-- the part that a bound reads
abbrev pub read_part : Bound → Option Part
read_part (Constant f) = None
read_part (Same part) = Some part
read_part (Given f part) = Some part
read_part (Or f part) = Some part

-- slots come before blocks
abbrev pub place_number : ℕ → Place → ℕ
place_number slots (Slot x) = x.0
place_number slots (Block b) = slots + b

abbrev pub side_number : Bool → ℕ
side_number true = 1
side_number false = 0

-- the number of a part in a system of so many slots
abbrev pub part_number : ℕ → Part → ℕ
part_number slots part = 2 * place_number slots part.at + side_number part.integ

-- The lists, by the numbers of parts, name some of the first so many rules,
-- and have each of these in the list of the part that it reads.
pub record IsIndex (s : Constraints) (below : ℕ) (readers : List (List ℕ)) : Type 0 where
  pub count : length readers ≡ 2 * (s.slots + s.blocks)
  pub rules : All (All (λ rule. rule < below)) readers
  pub short : All (λ list. length list ≤ below) readers
  pub complete : (rule : ℕ) (d : Lower) → rule < below → IfSome (read_part (slice_index_or s.lower rule d).bound) (λ part. Contains (slice_index_or readers (part_number s.slots part) []) rule)
