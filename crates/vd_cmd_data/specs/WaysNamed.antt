-- That whatever way the branches of a program go, each word that a host is told then has its output among those by which it is named.
use Rattle.std.specs.Prelude.{◌≡◌, ◌⊎◌, ◌<◌, ℕ, zero, suc, ◌+◌, ◌^◌, Bool, true, false, List, [], ◌∷◌, ◌++◌, map, length, if◌then◌else◌}
use Rattle.vd_base.specs.declared.ids.HostId.{HostId}
use Rattle.vd_base.specs.HostSets.{same_host}
use Rattle.vd_core.specs.declared.normal.NormalForm.{NormalForm}
use Rattle.vd_core.specs.declared.normal.Slot.{Slot}
use Rattle.vd_core.specs.declared.normal.Stmt.{Stmt}
use Rattle.vd_core.specs.declared.normal.Stmt.TheOpen.{Stmt-F}
use Rattle.vd_core.specs.declared.normal.Stmt.TheFolds.{fold-Stmt}
use Rattle.vd_cmd_data.specs.declared.outputs.Place.{Place}
use Rattle.vd_cmd_data.specs.Outputs.{deeper, is_truth, outputs_count, outputs_of, place_name}
use Rattle.vd_cmd_data.specs.Readings.{fits}
use Rattle.vd_cmd_data.specs.Spans.{is_within}

-- ---- what a program tells a host on a way

-- an output on a way: its name with its turns, and whether its word is true or false
pub record Telling : Type 0 where
  pub name : List ℕ
  pub is_bool : Bool

-- what is told in these turns, and how the way goes on: each branch takes the next of a list, and its first block where that is true
abbrev pub Walk : Type 0
Walk = (turns : List ℕ) → (ways : List Bool) → List Telling × List Bool

abbrev pub all_walk : List Walk → Walk
all_walk [] turns ways = ([], ways)
all_walk (w ∷ ws) turns ways =
    let one = w turns ways in
    let rest = all_walk ws turns one.1 in
    (one.0 ++ rest.0, rest.1)

-- so many turns are left, of which the first has this number
abbrev pub turns_walk : List Walk → (left turn : ℕ) → Walk
turns_walk body zero turn turns ways = ([], ways)
turns_walk body (suc left) turn turns ways =
    let one = all_walk body (deeper turns turn) ways in
    let rest = turns_walk body left (turn + 1) turns one.1 in
    (one.0 ++ rest.0, rest.1)

abbrev pub next_way : List Bool → Bool
next_way [] = false
next_way (way ∷ ways) = way

abbrev pub later_ways : List Bool → List Bool
later_ways [] = []
later_ways (way ∷ ways) = ways

module _ (source : List ℕ) (slots : List Slot) (host : HostId) where
  abbrev pub walk_step : Stmt-F Walk → Walk
  walk_step (Stmt-F.Output slot to offset) turns ways =
      (if same_host to host then record { name = place_name source slots turns slot offset; is_bool = is_truth slots slot } ∷ [] else [], ways)
  walk_step (Stmt-F.If guard first other offset) turns ways =
      if next_way ways then all_walk first turns (later_ways ways) else all_walk other turns (later_ways ways)
  walk_step (Stmt-F.For count body) turns ways = turns_walk body count 0 turns ways
  walk_step other turns ways = ([], ways)

  abbrev pub walk : Stmt → Walk
  walk = fold-Stmt Walk walk_step

abbrev pub told_on : (source : List ℕ) → NormalForm → HostId → (ways : List Bool) → List Telling
told_on source p host ways = (all_walk (map (walk source p.slots host) p.body) [] ways).0

-- ---- the places by which words are named

abbrev pub IsAmong : Place → List Place → Type 0
IsAmong place [] = ⊥
IsAmong place (one ∷ others) = (one ≡ place) ⊎ IsAmong place others

-- one of these places fits where so many words come before and behind, and is that of what was told
pub record IsPlaced (places : List Place) (telling : Telling) (before after : ℕ) : Type 0 where
  pub place : Place
  pub among : IsAmong place places
  pub name : place.name ≡ telling.name
  pub is_bool : place.is_bool ≡ telling.is_bool
  pub fits : fits (record { before = before; after = after }) place ≡ true

-- of all that was told, where so many words come before and behind
abbrev pub AreAllPlaced : List Place → (before : ℕ) → List Telling → (after : ℕ) → Type 0
AreAllPlaced places before [] after = Unit {0}
AreAllPlaced places before (telling ∷ told) after = IsPlaced places telling before (length told + after) × AreAllPlaced places (before + 1) told after

-- There can be so many words, and each is told by an output that fits its place.
abbrev pub WaysAreNamed : Type 0
WaysAreNamed = (source : List ℕ) (p : NormalForm) (host : HostId) (ways : List Bool)
    → let told = told_on source p host ways in length told < 2 ^ 64
    → (is_within (length told) (outputs_count p host) ≡ true) × AreAllPlaced (outputs_of source p host) 0 told 0
