-- A store by a new file that takes the place of what stood at a name.
use Rattle.std.specs.Prelude.{◌≡◌, ◌≢◌, ◌⊎◌, ℕ, Bool, true, false, List, ◌++◌, Option, None, Some, Result, OnOk, codes, nat_eq, if◌then◌else◌}
use Rattle.std.specs.Str.{bytes_eq}
use Rattle.std.specs.List.{starts_with}
use Rattle.std.specs.Fmt.{decimal}
use Rattle.vd_outside.specs.Files.{Contents}
use Rattle.vd_edge.specs.declared.standing.Access.{Access}
use Rattle.vd_edge.specs.declared.standing.Access.TheVariants as access
use Rattle.vd_edge.specs.declared.standing.Standing.{Standing}
use Rattle.vd_edge.specs.declared.standing.Standing.TheVariants as standing

-- whether a new file can take the place of what stands there
abbrev pub is_replaced : Standing → Bool
is_replaced standing.Nothing = true
is_replaced (standing.Plain mode) = true
is_replaced standing.Special = false

-- whether something stands there
abbrev pub stands : Standing → Bool
stands standing.Nothing = false
stands (standing.Plain mode) = true
stands standing.Special = true

-- a deal, by its first bytes
abbrev pub is_deal : List ℕ → Bool
is_deal bytes = starts_with nat_eq bytes (codes "viaduct-deal ")

-- the access of a new file: a deal is for its owner alone, all else is as what stood there
abbrev pub access_of : Standing → List ℕ → Option Access
access_of standing.Nothing bytes = Some (if is_deal bytes then access.Private else access.Usual)
access_of (standing.Plain mode) bytes = Some (if is_deal bytes then access.Private else access.Mode mode)
access_of standing.Special bytes = None

-- the bits of the mode with which a file is made; as the system makes files, none
abbrev pub made_mode : Access → Option ℕ
made_mode access.Usual = None
made_mode access.Private = Some 0o600
made_mode (access.Mode mode) = Some 0o600

-- A file that is stored over a plain one can be read by those who could read that one, or by its owner alone. A deal of any version is for its
-- owner alone. What is not made as the system makes files is its owner's alone until its bytes stand in it.
pub record StoresOpenNothing : Type 0 where
  pub kept : (mode : ℕ) (bytes : List ℕ) → (access_of (standing.Plain mode) bytes ≡ Some (access.Mode mode))
      ⊎ (access_of (standing.Plain mode) bytes ≡ Some access.Private)
  pub new_deal : (rest : List ℕ) → access_of standing.Nothing (codes "viaduct-deal " ++ rest) ≡ Some access.Private
  pub deal_over : (mode : ℕ) (rest : List ℕ) → access_of (standing.Plain mode) (codes "viaduct-deal " ++ rest) ≡ Some access.Private
  pub made : (new : Access) → new ≢ access.Usual → made_mode new ≡ Some 0o600

-- the name of a new file: NAME.tmp-, the mark of the process, and a number
abbrev pub beside : List ℕ → ℕ → ℕ → List ℕ
beside name mark number = name ++ (codes ".tmp-" ++ (decimal mark ++ (codes "-" ++ decimal number)))

abbrev pub IsBeside : List ℕ → List ℕ → Type 0
IsBeside name new = (mark : ℕ) × (number : ℕ) × (new ≡ beside name mark number)

-- all stands as it stood
abbrev pub Same : Contents → Contents → Type 0
Same before now = (name : List ℕ) → now name ≡ before name

-- so it does at all other names
abbrev pub SameElse : List ℕ → Contents → Contents → Type 0
SameElse name before now = (other : List ℕ) → bytes_eq name other ≡ false → now other ≡ before other

-- a store was refused, and nothing was written
pub record IsRefused {T E : Type 0} (result : Result T E) (before now : Contents) : Type 0 where
  pub told : OnOk result ⊥
  pub same : Same before now

-- a file was given another name
pub record Moves (from to : List ℕ) (before now : Contents) : Type 0 where
  pub moved : now to ≡ before from
  pub gone : bytes_eq from to ≡ false → now from ≡ None
  pub others : (other : List ℕ) → bytes_eq from other ≡ false → bytes_eq to other ≡ false → now other ≡ before other

-- all stands as it stood at all other names, but that a new file can be left over where nothing stood
abbrev pub MayLeave : List ℕ → Contents → Contents → Type 0
MayLeave name before now = (other : List ℕ) → bytes_eq name other ≡ false →
    (now other ≡ before other) ⊎ ((before other ≡ None) × IsBeside name other)
