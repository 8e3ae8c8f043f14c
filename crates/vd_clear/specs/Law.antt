-- What is proved of hosts that hold words in clear.
use Rattle.std.specs.Prelude.{◌≡◌, ℕ, List}
use Rattle.std.specs.List.{list_any}
use Rattle.vd_base.specs.declared.ids.HostId.{HostId}
use Rattle.vd_base.specs.declared.protocols.HostSet.{HostSet}
use Rattle.vd_base.specs.declared.protocols.Proto.TheVariants.{Local, Rep}
use Rattle.vd_base.specs.Holders.{holders}
use Rattle.vd_execution.specs.World.{Tape}
use Rattle.vd_execution.specs.Joint.{Hosts}
use Rattle.vd_duet.specs.Calls.{Places, hosts_of}
use Rattle.vd_duet.specs.Acting.{acts_at, told_at, ActsWhereItSays}
use Rattle.vd_duet.specs.Laws.{IsIn, IsHost, AreKnown, IsReady, Operand, GivesWord, BackendLaws}
use Rattle.vd_clear.specs.Copies.{clear_calls, spread_to}

abbrev pub OneHostIsABackend : Type 0
OneHostIsABackend = (h : HostId) → BackendLaws (clear_calls (Local h)) × ActsWhereItSays (clear_calls (Local h))

-- of a set with at least one host
abbrev pub CopiesAreABackend : Type 0
CopiesAreABackend = (set : HostSet) (some : ℕ) → IsHost (holders (Rep set)) some
    → BackendLaws (clear_calls (Rep set)) × ActsWhereItSays (clear_calls (Rep set))

-- copies at a set of hosts become copies of the same word at another
abbrev pub SpreadKeepsTheWord : Type 0
SpreadKeepsTheWord = (from to : HostSet) (some : ℕ) → IsHost (holders (Rep from)) some
    → (t : Tape) (next : List ℕ) (w : Hosts) → IsReady (clear_calls (Rep from)) t next w → AreKnown (holders (Rep to)) next
    → (x : Places) (v : ℕ) → Operand (clear_calls (Rep from)) next w x v
    → GivesWord (clear_calls (Rep to)) t next (IsIn x) (spread_to to x next) w v

-- each host that is told, and all that tell it
abbrev pub SpreadActsWhereItSays : Type 0
SpreadActsWhereItSays = (from to : HostSet) (x : Places) → hosts_of x ≡ holders (Rep from) → (next : List ℕ) (h : ℕ)
    → acts_at (spread_to to x next).gadgets h ≡ list_any (λ k. told_at (holders (Rep from)) k h) (holders (Rep to))
