-- A branch that carol does not see: alice shares a word with bob in it, and one with carol after it.
use Rattle.std.specs.Prelude.{◌≡◌, ℕ, List, [], ◌∷◌}
use Rattle.vd_base.specs.HostSets.{host}
use Rattle.vd_execution.specs.World.{Tape}
use Rattle.vd_execution.specs.Joint.{Part, Hosts, fresh, turn_begun}
use Rattle.vd_execution.specs.Gadgets.{Gadget, Shares}
use Rattle.vd_execution.specs.Plans.{Plan, Ends, Then, Branch}
use Rattle.vd_execution.specs.Text.{register}
use Rattle.vd_views.specs.Views.{alone}
use Rattle.vd_views.specs.Moved.{Moves, stays, moved_by, places}

-- alice and bob read the guard
abbrev pub readers : List Part
readers = (0, 0) ∷ (1, 0) ∷ []

abbrev pub sharing : Plan Gadget
sharing = Branch readers (Then (Shares (host 0) (register 1) (host 1) (register 1)) Ends) Ends (Then (Shares (host 0) (register 2) (host 2) (register 1)) Ends)

abbrev pub guarded_by : ℕ → Hosts
guarded_by guard = turn_begun readers guard fresh

-- alice's own words that she gives to carol where the branch is taken, moved to where it is not
abbrev pub exchange : Moves
exchange = moved_by (1 ∷ []) (0 ∷ []) stays

-- Where the branch is taken, carol gets the second own word of alice, else the first. So these two are exchanged, and the rest stays
pub record WorkedBranch : Type 0 where
  pub taken : (t : Tape) → places (alone 2) 0 t sharing (guarded_by 1) ≡ 1 ∷ []
  pub passed : (t : Tape) → places (alone 2) 0 t sharing (guarded_by 0) ≡ 0 ∷ []
  pub first : exchange.from 0 ≡ 1
  pub second : exchange.from 1 ≡ 0
  pub third : exchange.from 2 ≡ 2
