-- Words in clear, at one host or as copies at several, where some of the hosts depart from their programs.
use Rattle.std.specs.Prelude.{◌≡◌, ℕ, ◌^◌, ◌<◌, Bool, true, false, List, [], ◌∷◌, length, slice_index}
use Rattle.vd_base.specs.declared.ids.HostId.{HostId}
use Rattle.vd_base.specs.declared.operations.Op.{Op}
use Rattle.vd_base.specs.declared.protocols.HostSet.{HostSet}
use Rattle.vd_base.specs.declared.protocols.Proto.{Proto}
use Rattle.vd_base.specs.declared.protocols.Proto.TheVariants.{Local, Rep}
use Rattle.vd_base.specs.Arity.{arity}
use Rattle.vd_base.specs.Operations.{result_of}
use Rattle.vd_base.specs.Holders.{holders}
use Rattle.vd_execution.specs.declared.instructions.Reg.{Reg}
use Rattle.vd_execution.specs.Gadgets.{acts_of_gadgets}
use Rattle.vd_execution.specs.Joint.{Hosts}
use Rattle.vd_execution.specs.World.{Tape}
use Rattle.vd_duet.specs.Calls.{Places, hosts_of}
use Rattle.vd_duet.specs.Laws.{AreBelow, AreKnown, IsHost, IsIn, NumberFits, at_host}
use Rattle.vd_clear.specs.Copies.{clear_calls, spread_to}
use Rattle.vd_integrity_runs.specs.Departing.{AreRight, GivesRight, IsRightThen, RunsGadgets, SaysOne}

abbrev pub IsInClear : Proto → Type 0
IsInClear (Local h) = Unit {0}
IsInClear (Rep set) = Unit {0}
IsInClear other = ⊥

-- a word in clear: it is right at the hosts that keep to their programs
pub record IsOperand (keeps : ℕ → Bool) (p : Proto) (next : List ℕ) (w : Hosts) (x : Places) (v : ℕ) : Type 0 where
  pub at : hosts_of x ≡ holders p
  pub below : AreBelow next x
  pub right : AreRight keeps w x v
  pub word : v < 2 ^ 32

abbrev pub AreOperands : (ℕ → Bool) → Proto → List ℕ → Hosts → List Places → List ℕ → Type 0
AreOperands keeps p next w [] [] = Unit {0}
AreOperands keeps p next w (x ∷ xs) (v ∷ vs) = IsOperand keeps p next w x v × AreOperands keeps p next w xs vs
AreOperands keeps p next w [] (v ∷ vs) = ⊥
AreOperands keeps p next w (x ∷ xs) [] = ⊥

-- one of these hosts keeps to its program
abbrev pub SomeKeeps : (ℕ → Bool) → Places → Type 0
SomeKeeps keeps x = (some : ℕ) × (IsHost (hosts_of x) some × (keeps some ≡ true))

-- renewed registers have the new word, and no other changes
pub record IsRenewed (keeps : ℕ → Bool) (kept : Places) (w w' : Hosts) (v : ℕ) : Type 0 where
  pub still : (h r : ℕ) → (IsIn kept h r → ⊥) → (w' h).registers r ≡ (w h).registers r
  pub right : AreRight keeps w' kept v

-- Whatever words hosts that depart send, each call gives right words to those that keep to their programs, where it had right ones.
-- Where copies are shown, one holder has to keep to its program; and where a word goes from one host to copies, that host.
pub record StaysRight (keeps : ℕ → Bool) (p : Proto) (t : Tape) (next : List ℕ) (w : Hosts) : Type 0 where
  pub literal : (v : ℕ) → GivesRight keeps t next ((clear_calls p).literal v next) w v
  pub share : (from : HostId) (x : Reg) → x.0 < slice_index next from.0 → keeps from.0 ≡ true → GivesRight keeps t next ((clear_calls p).share from x next) w ((w from.0).registers x.0)
  pub adopt : (x : Places) (v : ℕ) → ((h : ℕ) → IsHost (holders p) h → IsHost (hosts_of x) h) → AreBelow next x → AreRight keeps w x v → GivesRight keeps t next ((clear_calls p).adopt x next) w v
  pub show : (x : Places) (v : ℕ) → IsOperand keeps p next w x v → SomeKeeps keeps x → (to : HostId) → to.0 < length next → keeps to.0 ≡ true
      → GivesRight keeps t next (at_host to ((clear_calls p).show x to next)) w v
  pub spread : (to : HostSet) → AreKnown (holders (Rep to)) next → (x : Places) (v : ℕ) → IsOperand keeps p next w x v → SomeKeeps keeps x → GivesRight keeps t next (spread_to to x next) w v
  pub keep : (x : Places) (v : ℕ) → IsOperand keeps p next w x v → GivesRight keeps t next ((clear_calls p).keep x next) w v
  pub renew : (kept x : Places) (v : ℕ) → hosts_of kept ≡ holders p → AreBelow next kept → IsOperand keeps p next w x v
      → (w' : Hosts) → RunsGadgets keeps t ((clear_calls p).renew kept x) w w' → IsRenewed keeps kept w w' v
  pub apply : (o : Op) → NumberFits o → (xs : List Places) (vs : List ℕ) → length xs ≡ arity o → AreOperands keeps p next w xs vs
      → GivesRight keeps t next ((clear_calls p).apply o xs next) w (result_of o vs)

abbrev pub CopiesStayRight : Type 0
CopiesStayRight = (keeps : ℕ → Bool) (p : Proto) → IsInClear p → (t : Tape) (next : List ℕ) (w : Hosts) → AreKnown (holders p) next → StaysRight keeps p t next w

-- A host that departs hands a word to copies: where it says one word to all holders, that word is right from then on.
abbrev pub OneWordIsRight : Type 0
OneWordIsRight = (keeps : ℕ → Bool) (p : Proto) (t : Tape) (next : List ℕ) (w w' : Hosts) → AreKnown (holders p) next → (from : HostId) (x : Reg) (word : ℕ) → keeps from.0 ≡ false
    → (run : RunsGadgets keeps t ((clear_calls p).share from x next).gadgets w w') → SaysOne keeps t from.0 word (acts_of_gadgets ((clear_calls p).share from x next).gadgets) w w' run
    → IsRightThen keeps next ((clear_calls p).share from x next) w w' word
