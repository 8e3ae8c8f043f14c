-- The gap: a host that departs hands two words to two copies.
use Rattle.std.specs.Prelude.{◌≡◌, ℕ, nat_eq, Bool, not, [], ◌∷◌}
use Rattle.vd_base.specs.declared.ids.HostId.{HostId}
use Rattle.vd_base.specs.HostSets.{host}
use Rattle.vd_execution.specs.Joint.{Hosts, fresh}
use Rattle.vd_execution.specs.Text.{register}
use Rattle.vd_execution.specs.World.{Tape}
use Rattle.vd_duet.specs.Calls.{Made, Places}
use Rattle.vd_clear.specs.Copies.{each_made, passed}
use Rattle.vd_integrity_runs.specs.Departing.{RunsGadgets}

abbrev pub alice : HostId
alice = host 0

abbrev pub bob : HostId
bob = host 1

abbrev pub carol : HostId
carol = host 2

abbrev pub carol_departs : ℕ → Bool
carol_departs h = not (nat_eq h 2)

-- carol hands the word of her first register to copies at alice and bob, whose next free registers are their second ones
abbrev pub handed : Made Places
handed = each_made (passed carol (register 0)) (alice ∷ bob ∷ []) (1 ∷ 1 ∷ 1 ∷ [])

-- there is a run after which alice has the one word, and bob the other
pub record HasTwoWords (t : Tape) (one other : ℕ) : Type 0 where
  pub after : Hosts
  pub runs : RunsGadgets carol_departs t handed.gadgets fresh after
  pub first : (after alice.0).registers 1 ≡ one
  pub second : (after bob.0).registers 1 ≡ other

abbrev pub TwoWordsForOne : Type 0
TwoWordsForOne = (t : Tape) (one other : ℕ) → HasTwoWords t one other
