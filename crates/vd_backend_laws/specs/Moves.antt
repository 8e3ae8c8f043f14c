-- Moves that are composed of the calls of two back ends.
use Rattle.std.specs.Prelude.{◌≡◌, ◌≢◌, ℕ, Bool, false, List, [], ◌∷◌, map}
use Rattle.std.specs.List.{list_any}
use Rattle.vd_base.specs.declared.ids.HostId.{HostId}
use Rattle.vd_base.specs.declared.protocols.HostSet.{HostSet}
use Rattle.vd_base.specs.declared.protocols.Proto.{Proto}
use Rattle.vd_base.specs.declared.protocols.Proto.TheVariants.{Local, Rep, Add, Xor}
use Rattle.vd_base.specs.Holders.{holders}
use Rattle.vd_execution.specs.declared.instructions.Reg.{Reg}
use Rattle.vd_execution.specs.World.{Tape}
use Rattle.vd_execution.specs.Joint.{Hosts}
use Rattle.vd_execution.specs.Text.{register}
use Rattle.vd_duet.specs.Calls.{Places, Made, Calls, register_of}
use Rattle.vd_duet.specs.Laws.{Joins, IsIn, IsHost, at_host, IsReady, Operand, GivesWord, BackendLaws}
use Rattle.vd_duet.specs.Acting.{is_either, share_at, adopt_at, told_at, show_at, show_all_at}
use Rattle.vd_clear.specs.Copies.{clear_calls, spread_to}
use Rattle.vd_backend_sharing.specs.PairCalls.{shares_of, places_at}
use Rattle.vd_convert.specs.Convert.{to_xor_made, to_add_made}
use Rattle.vd_backend_laws.specs.Commits.{committed_at, held_of, seen_of}

-- how a word gets from one protocol to another; by `Adopt` too where two do not join, so that what it leads to has parts
pub data Route : Type 0 where
  Share : HostId → Route
  Adopt : Route
  Show : HostId → Route
  ShowAll : Route
  Spread : HostSet → Route
  Same : HostId → HostId → Route
  SameBound : HostId → HostId → Route
  ToXor : HostId → HostId → Route
  ToAdd : HostId → HostId → Route

abbrev pub only : Places → Reg
only [] = register 0
only (q ∷ x) = q.1

-- of copies, those at these hosts
abbrev pub copies_at : List HostId → Places → Places
copies_at hs x = map (λ h. (h, register_of x h.0)) hs

abbrev pub shown_each : List HostId → Made Places → Made Places
shown_each hs made = record { given = copies_at hs made.given; gadgets = made.gadgets; next = made.next }

abbrev pub moved : Route → Calls → Calls → Places → List ℕ → Made Places
moved (Share h) p q x next = q.share h (only x) next
moved Adopt p q x next = q.adopt x next
moved (Show k) p q x next = at_host k (p.show x k next)
moved ShowAll p q x next = shown_each (holders q.proto) (p.show_all x next)
moved (Spread to) p q x next = spread_to to x next
moved (Same a b) p q x next = record { given = places_at a b (shares_of x); gadgets = []; next = next }
moved (SameBound a b) p q x next = record { given = committed_at a b (held_of x, seen_of x); gadgets = []; next = next }
moved (ToXor a b) p q x next = to_xor_made a b x next
moved (ToAdd a b) p q x next = to_add_made a b x next

-- the hosts that act in it, where it leads from p to q
abbrev pub moved_at : Route → Proto → Proto → ℕ → Bool
moved_at (Share k) p q h = share_at k q h
moved_at Adopt p q h = adopt_at q h
moved_at (Show k) p q h = show_at p k h
moved_at ShowAll p q h = show_all_at p h
moved_at (Spread to) p q h = list_any (λ k. told_at (holders p) k h) (holders (Rep to))
moved_at (Same a b) p q h = false
moved_at (SameBound a b) p q h = false
moved_at (ToXor a b) p q h = is_either h a b
moved_at (ToAdd a b) p q h = is_either h a b

-- when a route leads from a back end to another. A commitment is no back end
abbrev pub IsRoute : Route → Calls → Calls → Type 0
IsRoute (Share h) p q = (p.proto ≡ Local h) × Joins (Local h) q.proto
IsRoute Adopt p q = ((set : HostSet) × (p.proto ≡ Rep set)) × ((h : ℕ) → IsHost (holders q.proto) h → IsHost (holders p.proto) h)
IsRoute (Show k) p q = (q.proto ≡ Local k) × Joins p.proto (Local k)
IsRoute ShowAll p q = ((set : HostSet) × (q.proto ≡ Rep set)) × ((h : ℕ) → IsHost (holders q.proto) h → IsHost (holders p.proto) h)
IsRoute (Spread to) p q = ((from : HostSet) × ((some : ℕ) × IsHost (holders (Rep from)) some) × (p ≡ clear_calls (Rep from))) × (q ≡ clear_calls (Rep to))
IsRoute (Same a b) p q = (p ≡ q) × (holders p.proto ≡ a ∷ b ∷ [])
IsRoute (SameBound a b) p q = ⊥
IsRoute (ToXor a b) p q = (a.0 ≢ b.0) × (p.proto ≡ Add a b) × (q.proto ≡ Xor a b)
IsRoute (ToAdd a b) p q = (a.0 ≢ b.0) × (p.proto ≡ Xor a b) × (q.proto ≡ Add a b)

-- a move by a route gives parts that stand for the same word
abbrev pub MovesKeepTheWord : Type 0
MovesKeepTheWord = (route : Route) (p q : Calls) → BackendLaws p → BackendLaws q → IsRoute route p q
    → (t : Tape) (next : List ℕ) (w : Hosts) → IsReady p t next w → IsReady q t next w → (x : Places) (v : ℕ) → Operand p next w x v
    → GivesWord q t next (IsIn x) (moved route p q x next) w v
