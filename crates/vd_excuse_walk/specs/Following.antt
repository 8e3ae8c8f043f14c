-- Both runs as lists follow both runs as functions, and so does the deal that is changed on the way.
use Rattle.std.specs.Prelude.{◌≡◌, ◌≢◌, ℕ, ◌+◌, ◌≤◌, ◌<◌, min, Bool, true, false, List, length, slice_index}
use Rattle.vd_base.specs.declared.ids.HostId.{HostId}
use Rattle.vd_execution.specs.Step.{Source, Inputs, OwnWords, Triples, BitTriples, Pairs, Cursors}
use Rattle.vd_execution.specs.World.{Tape}
use Rattle.vd_execution.specs.Joint.{Host, Hosts}
use Rattle.vd_views.specs.Views.{alone}
use Rattle.vd_excuse_walk.specs.declared.equivocation_laws.step.Step.{Step}
use Rattle.vd_excuse_walk.specs.Walks.{Both, both_steps, walks}
use Rattle.vd_excuse_runs.specs.declared.side.Side.{Side}
use Rattle.vd_excuse_runs.specs.declared.side.Taken.{Taken}
use Rattle.vd_excuse_runs.specs.Runs.{side_at}
use Rattle.vd_excuse_walk.specs.declared.walker.Walker.{Walker}
use Rattle.vd_excuse_walk.specs.Data.{all_both, data_walks}
use Rattle.vd_excuse_walk.specs.Supplies.{Lists, lists_of, supplies, dealt}

-- ---- a host

-- the place of the cursor, or one past the end
abbrev pub placed : ℕ → ℕ → ℕ
placed c n = min c (n + 1)

-- how far it is, against its cursors
pub record Counts (l : Lists) (t : Taken) (c : Cursors) : Type 0 where
  pub inputs : t.inputs ≡ placed (c Inputs) (length l.inputs)
  pub own : t.own ≡ placed (c OwnWords) (length l.own)
  pub triples : t.triples ≡ placed (c (Triples l.peer.0)) (length l.triples)
  pub bits : t.bits ≡ placed (c (BitTriples l.peer.0)) (length l.bits)
  pub pairs : t.pairs ≡ placed (c (Pairs l.peer.0)) (length l.pairs)

pub record Stands (s : Side) (w : Host) : Type 0 where
  pub registers : slice_index s.registers ≡ w.registers
  pub taken : Counts (lists_of s) s.taken w.cursors

-- ---- a run

-- a place within a list; each place of the inputs, which are followed by zeros
abbrev pub IsIn : Lists → Source → ℕ → Type 0
IsIn l Inputs i = Unit {0}
IsIn l OwnWords i = i < dealt l OwnWords
IsIn l (Triples p) i = i < dealt l (Triples p)
IsIn l (BitTriples p) i = i < dealt l (BitTriples p)
IsIn l (Pairs p) i = i < dealt l (Pairs p)

-- no item is taken past the end of these many
abbrev pub Within : (ℕ → Source → ℕ) → Hosts → Type 0
Within n w = (g : ℕ) (s : Source) → s ≢ Inputs → (w g).cursors s ≤ n g s

-- the items are those of the lists, where there is a limit only within them
pub record Known (limit : Bool) (u : Tape) (run : List Side) (w : Hosts) : Type 0 where
  pub holds : (g : ℕ) (s : Source) (i : ℕ) → (limit ≡ true → IsIn (lists_of (side_at run g)) s i) → u g s i ≡ supplies (lists_of (side_at run g)) s i
  pub stands : (g : ℕ) → Stands (side_at run g) (w g)

-- the lists are so long; and the items and hosts are known, where there is a limit as long as no item is taken past it
pub record Goes (n : ℕ → Source → ℕ) (limit : Bool) (u : Tape) (run : List Side) (w : Hosts) : Type 0 where
  pub counts : (g : ℕ) (s : Source) → dealt (lists_of (side_at run g)) s ≡ n g s
  pub known : (limit ≡ true → Within n w) → Known limit u run w

-- ---- both runs

-- a source that is shared with another host than this one
abbrev pub NotWith : ℕ → Source → Type 0
NotWith h Inputs = Unit {0}
NotWith h OwnWords = Unit {0}
NotWith h (Triples p) = p ≢ h
NotWith h (BitTriples p) = p ≢ h
NotWith h (Pairs p) = p ≢ h

-- all but the items that are shared
pub record Keeps (l m : Lists) : Type 0 where
  pub peer : m.peer ≡ l.peer
  pub inputs : m.inputs ≡ l.inputs
  pub own : m.own ≡ l.own

module _ (h : HostId) (t : Tape) (n : ℕ → Source → ℕ) (start : List Side) where
  pub record Follows (d : Walker) (r : Both) : Type 0 where
    pub host : d.host ≡ h
    pub first : Goes n false t d.first r.first
    pub second : Goes n true r.deal d.second r.second
    -- the items of the host that looks are never changed, wherever they stand
    pub looker : (s : Source) (i : ℕ) → NotWith h.0 s → r.deal h.0 s i ≡ supplies (lists_of (side_at start h.0)) s i
    pub keeps : (g : ℕ) → Keeps (lists_of (side_at start g)) (lists_of (side_at d.second g))
    pub mine : lists_of (side_at d.second h.0) ≡ lists_of (side_at start h.0)

-- so it is after steps, where the host that looks is not its own peer
abbrev pub WalksAreFollowed : Type 0
WalksAreFollowed =
    (h : HostId) (t : Tape) (n : ℕ → Source → ℕ) (start : List Side) → (side_at start h.0).peer.0 ≢ h.0 → (steps : List Step) (d : Walker) (r : Both)
    → Follows h t n start d r → Follows h t n start (all_both (data_walks steps) d) (both_steps (walks (alone h.0) t steps) r)
