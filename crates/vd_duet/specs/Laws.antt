-- What the calls of a back end do, for all valid deals and all states.
use Rattle.std.specs.Prelude.{◌≡◌, ℕ, ◌^◌, ◌<◌, ◌≤◌, IsTrue, is_some, List, [], ◌∷◌, ◌⊎◌, length, map, slice_index}
use Rattle.std.specs.List.{AllByRecursion}
use Rattle.vd_base.specs.declared.ids.HostId.{HostId}
use Rattle.vd_base.specs.declared.operations.Op.{Op}
use Rattle.vd_base.specs.declared.operations.Op.TheVariants as op
use Rattle.vd_base.specs.declared.protocols.Proto.{Proto}
use Rattle.vd_base.specs.declared.protocols.Proto.TheVariants.{Local}
use Rattle.vd_base.specs.Arity.{arity}
use Rattle.vd_base.specs.Moves.{move_at}
use Rattle.vd_base.specs.Operations.{result_of}
use Rattle.vd_base.specs.Holders.{holders}
use Rattle.vd_execution.specs.declared.instructions.Reg.{Reg}
use Rattle.vd_execution.specs.Step.{Inputs}
use Rattle.vd_execution.specs.World.{Tape}
use Rattle.vd_execution.specs.Joint.{Hosts}
use Rattle.vd_execution.specs.Acts.{run_acts, ActsAgree}
use Rattle.vd_execution.specs.Deals.{IsValidDeal}
use Rattle.vd_execution.specs.Gadgets.{Gadget, acts_of_gadgets, GadgetsAreTidy, IsSound}
use Rattle.vd_duet.specs.Builder.{most_taken, TakesAtMost}
use Rattle.vd_duet.specs.Calls.{Places, hosts_of, Made, Calls, Stand}

abbrev pub Each : {X : Type 0} → (X → Type 0) → List X → Type 0
Each P xs = AllByRecursion P xs

-- a register of a host is among these
abbrev pub IsIn : Places → ℕ → ℕ → Type 0
IsIn [] h r = ⊥
IsIn (p ∷ ps) h r = ((h ≡ p.0.0) × (r ≡ p.1.0)) ⊎ IsIn ps h r

abbrev pub IsInOne : List Places → ℕ → ℕ → Type 0
IsInOne [] h r = ⊥
IsInOne (x ∷ xs) h r = IsIn x h r ⊎ IsInOne xs h r

abbrev pub nowhere : ℕ → ℕ → Type 0
nowhere h r = ⊥

abbrev pub IsHost : List HostId → ℕ → Type 0
IsHost [] h = ⊥
IsHost (k ∷ ks) h = (h ≡ k.0) ⊎ IsHost ks h

abbrev pub words_at : Hosts → Places → List ℕ
words_at w x = map (λ q. (w q.0.0).registers q.1.0) x

-- the hosts have next free registers
abbrev pub AreKnown : List HostId → List ℕ → Type 0
AreKnown hosts next = Each (λ h. h.0 < length next) hosts

abbrev pub AreBelow : List ℕ → Places → Type 0
AreBelow next x = Each (λ q. q.1.0 < slice_index next q.0.0) x

-- a value can be brought from one protocol to another
abbrev pub Joins : Proto → Proto → Type 0
Joins p q = IsTrue (is_some (move_at p q))

-- gadgets lead from one state to another: no comparison fails, the state stays sound, nothing is printed, no input is taken,
-- and no register changes but fresh ones and these
pub record Leads (t : Tape) (next : List ℕ) (changed : ℕ → ℕ → Type 0) (gadgets : List Gadget) (w w' : Hosts) : Type 0 where
  pub runs : run_acts t (acts_of_gadgets gadgets) w ≡ w'
  pub agrees : ActsAgree t (acts_of_gadgets gadgets) w
  pub sound : IsSound w'
  pub kept : (h r : ℕ) → r < slice_index next h → (changed h r → ⊥) → (w' h).registers r ≡ (w h).registers r
  pub printed : (h : ℕ) → (w' h).printed ≡ (w h).printed
  pub inputs : (h : ℕ) → (w' h).cursors Inputs ≡ (w h).cursors Inputs

-- what holds of a call whatever the state: its gadgets are tidy, it takes at most so many registers of each host, and what it
-- gives is fresh or from its operands
pub record IsOrderly (count : ℕ) (next : List ℕ) (source : ℕ → ℕ → Type 0) (made : Made Places) : Type 0 where
  pub tidy : GadgetsAreTidy made.gadgets
  pub few : TakesAtMost count next made.next
  pub longer : (h : ℕ) → slice_index next h ≤ slice_index made.next h
  pub below : AreBelow made.next made.given
  pub from : (h r : ℕ) → IsIn made.given h r → (slice_index next h ≤ r) ⊎ source h r

-- a call leads to a state in which what it gives is as it should be
pub record Gives (count : ℕ) (t : Tape) (next : List ℕ) (source : ℕ → ℕ → Type 0) (made : Made Places) (w : Hosts) (Is : Hosts → Type 0) : Type 0 where
  pub orderly : IsOrderly count next source made
  pub reached : Hosts
  pub leads : Leads t next nowhere made.gadgets w reached
  pub is : Is reached

-- parts at the hosts of the protocol stand for a word, by the words of their own registers alone
pub record StandFor (c : Calls) (w : Hosts) (x : Places) (v : ℕ) : Type 0 where
  pub at : hosts_of x ≡ holders c.proto
  pub word : Stand c.proto (words_at w x) v

-- a copy of one word at each
abbrev pub Copies : Hosts → Places → ℕ → Type 0
Copies w x v = Each (λ q. (w q.0.0).registers q.1.0 ≡ v) x

-- a call gives parts that stand for a word
abbrev pub GivesWord : Calls → Tape → List ℕ → (ℕ → ℕ → Type 0) → Made Places → Hosts → ℕ → Type 0
GivesWord c t next source made w v = Gives most_taken t next source made w (λ u. StandFor c u made.given v)

-- what a call gives to one host, as places
abbrev pub at_host : HostId → Made Reg → Made Places
at_host h made = record { given = (h, made.given) ∷ []; gadgets = made.gadgets; next = made.next }

-- the register that is given to a host has the word
abbrev pub GivesThere : ℕ → Tape → List ℕ → (ℕ → ℕ → Type 0) → HostId → Made Reg → Hosts → ℕ → Type 0
GivesThere count t next source h made w v = Gives count t next source (at_host h made) w (λ u. (u h.0).registers made.given.0 ≡ v)

pub record Operand (c : Calls) (next : List ℕ) (w : Hosts) (x : Places) (v : ℕ) : Type 0 where
  pub below : AreBelow next x
  pub stands : StandFor c w x v

abbrev pub Operands : Calls → List ℕ → Hosts → List Places → List ℕ → Type 0
Operands c next w [] [] = Unit {0}
Operands c next w (x ∷ xs) (v ∷ vs) = Operand c next w x v × Operands c next w xs vs
Operands c next w [] (v ∷ vs) = ⊥
Operands c next w (x ∷ xs) [] = ⊥

-- a deal and a state in which a call can be made
pub record IsReady (c : Calls) (t : Tape) (next : List ℕ) (w : Hosts) : Type 0 where
  pub deal : IsValidDeal t
  pub sound : IsSound w
  pub known : AreKnown (holders c.proto) next

-- copies of one word below the next free registers, at the hosts of the protocol and maybe at more
pub record Reaches (c : Calls) (next : List ℕ) (w : Hosts) (x : Places) (v : ℕ) : Type 0 where
  pub hosts : (h : ℕ) → IsHost (holders c.proto) h → IsHost (hosts_of x) h
  pub below : AreBelow next x
  pub copies : Copies w x v

-- renewed registers stand for the new word
pub record Renews (c : Calls) (t : Tape) (next : List ℕ) (kept x : Places) (w : Hosts) (v : ℕ) : Type 0 where
  pub tidy : GadgetsAreTidy (c.renew kept x)
  pub reached : Hosts
  pub leads : Leads t next (IsIn kept) (c.renew kept x) w reached
  pub stands : StandFor c reached kept v

-- the number of an operation is a word, and a shift's is below 32
abbrev pub NumberFits : Op → Type 0
NumberFits (op.Scale k) = k < 2 ^ 32
NumberFits (op.Shl k) = k < 32
NumberFits (op.Shr k) = k < 32
NumberFits o = Unit {0}

-- the laws of the calls of a back end
pub record BackendLaws (c : Calls) : Type 0 where
  pub literal : (t : Tape) (next : List ℕ) (w : Hosts) → IsReady c t next w → (v : ℕ) → v < 2 ^ 32
      → GivesWord c t next nowhere (c.literal v next) w v
  pub share : (t : Tape) (next : List ℕ) (w : Hosts) → IsReady c t next w
      → (from : HostId) → Joins (Local from) c.proto → from.0 < length next → (x : Reg) → x.0 < slice_index next from.0
      → GivesWord c t next (IsIn ((from, x) ∷ [])) (c.share from x next) w ((w from.0).registers x.0)
  pub adopt : (t : Tape) (next : List ℕ) (w : Hosts) → IsReady c t next w → (x : Places) (v : ℕ) → Reaches c next w x v
      → GivesWord c t next (IsIn x) (c.adopt x next) w v
  pub show : (t : Tape) (next : List ℕ) (w : Hosts) → IsReady c t next w → (x : Places) (v : ℕ) → Operand c next w x v
      → (at : HostId) → Joins c.proto (Local at) → at.0 < length next
      → GivesThere most_taken t next (IsIn x) at (c.show x at next) w v
  pub show_all : (t : Tape) (next : List ℕ) (w : Hosts) → IsReady c t next w → (x : Places) (v : ℕ) → Operand c next w x v
      → let made = c.show_all x next in
      Gives most_taken t next (IsIn x) made w (λ u. (hosts_of made.given ≡ holders c.proto) × Copies u made.given v)
  pub keep : (t : Tape) (next : List ℕ) (w : Hosts) → IsReady c t next w → (x : Places) (v : ℕ) → Operand c next w x v
      → GivesWord c t next nowhere (c.keep x next) w v
  pub renew : (t : Tape) (next : List ℕ) (w : Hosts) → IsReady c t next w
      → (kept x : Places) (u v : ℕ) → Operand c next w kept u → Operand c next w x v → Renews c t next kept x w v
  pub apply : (t : Tape) (next : List ℕ) (w : Hosts) → IsReady c t next w
      → (o : Op) → IsTrue (c.serves o) → NumberFits o → (xs : List Places) (vs : List ℕ) → length xs ≡ arity o → Operands c next w xs vs
      → GivesWord c t next (IsInOne xs) (c.apply o xs next) w (result_of o vs)
