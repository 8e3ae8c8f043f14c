-- What a program and its protocols keep, statement by statement.
use Rattle.std.specs.Prelude.{◌≡◌, ℕ, ◌^◌, ◌<◌, ◌≤◌, Bool, true, false, ◌||◌, IsTrue, length}
use Rattle.vd_base.specs.declared.ids.SlotId.{SlotId}
use Rattle.vd_base.specs.declared.protocols.Proto.{Proto}
use Rattle.vd_base.specs.declared.protocols.Proto.TheVariants.{Local}
use Rattle.vd_base.specs.declared.rows.Row.TheVariants.{Constant, Input as InputRow, Variable, Apply as ApplyRow}
use Rattle.vd_base.specs.HostSets.{host}
use Rattle.vd_base.specs.Arity.{arity}
use Rattle.vd_base.specs.Holders.{is_holder}
use Rattle.vd_core.specs.declared.normal.Right.{Right}
use Rattle.vd_core.specs.declared.normal.Right.TheVariants.{Lit, Turn, Copy, Apply, Input, Declassify, Endorse, Load, Get}
use Rattle.vd_duet.specs.Laws.{NumberFits}
use Rattle.vd_split.specs.Block.{Block, End, Let, NewVar, NewArray, Store, Put, Output, If, For, each}
use Rattle.vd_split.specs.Joint.{Hosts, Each}
use Rattle.vd_split.specs.Suite.{Suite}
use Rattle.vd_split.specs.Emission.{Emission, in_turn, stmt_emission}

-- Numbers are words, operations have as many operands as they take, and hosts are declared.

abbrev pub RightFits : ℕ → Right → Type 0
RightFits hosts (Lit n) = n < 2 ^ 32
RightFits hosts Turn = Unit {0}
RightFits hosts (Copy y) = Unit {0}
RightFits hosts (Apply o ys) = (length ys ≡ arity o) × NumberFits o
RightFits hosts (Input h) = h.0 < hosts
RightFits hosts (Declassify y to) = Unit {0}
RightFits hosts (Endorse y to) = Unit {0}
RightFits hosts (Load v) = Unit {0}
RightFits hosts (Get v i) = Unit {0}

abbrev pub Fits : ℕ → Block → Type 0
Fits hosts End = Unit {0}
Fits hosts (Let x right rest) = RightFits hosts right × Fits hosts rest
Fits hosts (NewVar v x rest) = Fits hosts rest
Fits hosts (NewArray v cells rest) = Fits hosts rest
Fits hosts (Store v x rest) = Fits hosts rest
Fits hosts (Put v i x rest) = Fits hosts rest
Fits hosts (Output x h offset rest) = (h.0 < hosts) × Fits hosts rest
Fits hosts (If x t e offset rest) = Fits hosts t × Fits hosts e × Fits hosts rest
Fits hosts (For count body rest) = (count ≤ 2 ^ 32) × Fits hosts body × Fits hosts rest

module _ (m : Hosts) (s : Suite m) (proto : ℕ → Proto) where
  abbrev pub emission_of : Block → Emission s.calls proto
  emission_of b = in_turn s.calls proto (each (stmt_emission s.calls proto) b)

  -- a host needs the loop's register
  abbrev pub turns_at : Block → ℕ → Bool
  turns_at End h = false
  turns_at (Let x Turn rest) h = is_holder (proto x.0) (host h) || turns_at rest h
  turns_at (Let x right rest) h = turns_at rest h
  turns_at (NewVar v x rest) h = turns_at rest h
  turns_at (NewArray v cells rest) h = turns_at rest h
  turns_at (Store v x rest) h = turns_at rest h
  turns_at (Put v i x rest) h = turns_at rest h
  turns_at (Output x k offset rest) h = turns_at rest h
  turns_at (If x t e offset rest) h = turns_at t h || turns_at e h || turns_at rest h
  turns_at (For count body rest) h = turns_at rest h

  -- Each slot stands where it can, each use joins, and each host that takes part in a branch or holds an array is told the guard or the index.

  abbrev pub Joins : SlotId → Proto → Type 0
  Joins x q = IsTrue (s.joins (proto x.0) q)

  abbrev pub Reaches : SlotId → (ℕ → Bool) → Type 0
  Reaches x takes_part = (h : ℕ) → h < s.calls.hosts → takes_part h ≡ true → Joins x (Local (host h))

  abbrev pub RightPlaced : Proto → Right → Type 0
  RightPlaced q (Lit n) = IsTrue (s.holds Constant q)
  RightPlaced q Turn = IsTrue (s.holds Constant q)
  RightPlaced q (Copy y) = Joins y q
  RightPlaced q (Apply o ys) = IsTrue (s.holds (ApplyRow o) q) × Each (λ y. Joins y q) ys
  RightPlaced q (Input h) = IsTrue (s.holds (InputRow h) q)
  RightPlaced q (Declassify y to) = Joins y q
  RightPlaced q (Endorse y to) = Joins y q
  RightPlaced q (Load v) = IsTrue (s.holds Variable (proto v.0)) × Joins v q
  RightPlaced q (Get v i) = IsTrue (s.holds Variable (proto v.0)) × Joins v q × Reaches i (λ h. is_holder (proto v.0) (host h))

  abbrev pub Placed : Block → Type 0
  Placed End = Unit {0}
  Placed (Let x right rest) = RightPlaced (proto x.0) right × Placed rest
  Placed (NewVar v x rest) = IsTrue (s.holds Variable (proto v.0)) × Joins x (proto v.0) × Placed rest
  Placed (NewArray v cells rest) = IsTrue (s.holds Variable (proto v.0)) × Placed rest
  Placed (Store v x rest) = IsTrue (s.holds Variable (proto v.0)) × Joins x (proto v.0) × Placed rest
  Placed (Put v i x rest) = IsTrue (s.holds Variable (proto v.0)) × Joins x (proto v.0) × Reaches i (λ h. is_holder (proto v.0) (host h)) × Placed rest
  Placed (Output x h offset rest) = Joins x (Local h) × Placed rest
  Placed (If x t e offset rest) = Reaches x (λ h. (emission_of t).takes_part h || (emission_of e).takes_part h) × Placed t × Placed e × Placed rest
  Placed (For count body rest) = Placed body × Placed rest
