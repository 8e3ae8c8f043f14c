-- What a fact about a let-normal form has to keep, at each thing that is made.
use Rattle.std.proofs.Common.{◌≡◌, ℕ, ◌+◌, Bool, true, ◌&&◌, nat_eq, List, [], ◌∷◌, ◌++◌, length, Option, Some, None}
use Rattle.vd_base.specs.declared.ids.SlotId.{SlotId}
use Rattle.vd_base.specs.declared.ids.HostId.{HostId}
use Rattle.vd_base.specs.declared.operations.Op.{Op}
use Rattle.vd_base.specs.declared.operations.Op.TheVariants as op
use Rattle.vd_base.specs.Arity.{arity}
use Rattle.vd_core.specs.declared.normal.Right.{Right}
use Rattle.vd_core.specs.declared.normal.Right.TheVariants.{Lit, Turn, Copy, Apply, Input, Declassify, Endorse, Load, Get}
use Rattle.vd_core.specs.declared.normal.Stmt as stmt
use Rattle.vd_core.specs.declared.normal.Written.{Written}
use Rattle.vd_core.specs.declared.normal.Slot.{Slot}
use Rattle.vd_core.specs.declared.source.Ident.{Ident}
use Rattle.vd_core.specs.declared.source.WrittenLabel.{WrittenLabel}
use Rattle.vd_elaborate.specs.declared.anf.spot.Spot.{Spot}
use Rattle.vd_elaborate.specs.declared.anf.spot.Spot.TheVariants.{Binding, Variable, Array}
use Rattle.vd_elaborate.specs.Normal.{Made, slot, emptied, with_slot, with_stmt, with_name_at, for_made}
use Rattle.vd_elaborate.proofs.Tests.{Tests, label_passes}

abbrev pub op_passes : Tests → Op → Bool
op_passes tests (op.Shl bits) = tests.shift bits
op_passes tests (op.Shr bits) = tests.shift bits
op_passes tests other = true

abbrev pub AllHere : (Spot → Type 0) → List SlotId → Type 0
AllHere Here [] = Unit {0}
AllHere Here (x ∷ xs) = Here (Binding x.0) × AllHere Here xs

-- a right side of known slots, other than Turn
abbrev pub IsFine : Tests → (Spot → Type 0) → Right → Type 0
IsFine tests Here (Lit n) = Unit {0}
IsFine tests Here Turn = ⊥
IsFine tests Here (Copy x) = Here (Binding x.0)
IsFine tests Here (Apply o xs) = (nat_eq (length xs) (arity o) ≡ true) × (op_passes tests o ≡ true) × AllHere Here xs
IsFine tests Here (Input host) = tests.host host.0 ≡ true
IsFine tests Here (Declassify x to) = Here (Binding x.0) × (tests.form to ≡ true)
IsFine tests Here (Endorse x to) = Here (Binding x.0) × (tests.form to ≡ true)
IsFine tests Here (Load v) = Here (Variable v.0)
IsFine tests Here (Get v i) = Here (Array v.0) × Here (Binding i.0)

abbrev pub entry_passes : Tests → Option Written → Bool
entry_passes tests None = true
entry_passes tests (Some l) = tests.form l.conf && tests.form l.integ

-- an If of what was made of its guard and its blocks
abbrev pub with_if : ℕ → ℕ → Made → Made → Made → Made
with_if k offset m a b = record { next = b.next; slots = b.slots; blocks = b.blocks; body = m.body ++ stmt.If (slot k) a.body b.body offset ∷ [] }

-- the same with one block more
abbrev pub block_more : Made → Made
block_more m = record { next = m.next; slots = m.slots; blocks = m.blocks + 1; body = [] }

-- the body of a loop, with its name alone
abbrev pub turned : Slot → Made → Made
turned entry m = (with_slot entry (stmt.Let (slot m.next) Turn) (emptied m)).1

-- Keeps w m m': the step from m to m' keeps the fact; Here w m p: the slot p is known at m. The index w says where the
-- list of statements stands.
pub record Laws (tests : Tests) (W : Type 0) (Keeps : W → Made → Made → Type 0) (Here : W → Made → Spot → Type 0) (inside : W → Made → W) : Type 0 where
  pub none : (w : W) (m : Made) → Keeps w m m
  pub after : (w : W) (m m1 m2 : Made) → Keeps w m m1 → Keeps w m1 m2 → Keeps w m m2
  pub stays : (w : W) (m m' : Made) (p : Spot) → Keeps w m m' → Here w m p → Here w m' p
  pub enters : (w : W) (m e : Made) (p : Spot) → Here w m p → Here (inside w m) (record { next = e.next; slots = e.slots; blocks = e.blocks; body = [] }) p
  pub right : (w : W) (m : Made) (entry : Slot) (r : Right) → entry_passes tests entry.label ≡ true → IsFine tests (Here w m) r → Keeps w m (with_slot entry (stmt.Let (slot m.next) r) m).1
  pub right_here : (w : W) (m : Made) (entry : Slot) (r : Right) → IsFine tests (Here w m) r → Here w (with_slot entry (stmt.Let (slot m.next) r) m).1 (Binding m.next)
  pub variable : (w : W) (m : Made) (entry : Slot) (k : ℕ) → entry_passes tests entry.label ≡ true → Here w m (Binding k) → Keeps w m (with_slot entry (stmt.NewVar (slot m.next) (slot k)) m).1
  pub variable_here : (w : W) (m : Made) (entry : Slot) (k : ℕ) → Here w (with_slot entry (stmt.NewVar (slot m.next) (slot k)) m).1 (Variable m.next)
  pub array : (w : W) (m : Made) (entry : Slot) (n : ℕ) → entry_passes tests entry.label ≡ true → Keeps w m (with_slot entry (stmt.NewArray (slot m.next) n) m).1
  pub array_here : (w : W) (m : Made) (entry : Slot) (n : ℕ) → Here w (with_slot entry (stmt.NewArray (slot m.next) n) m).1 (Array m.next)
  pub renamed : (w : W) (m : Made) (k : ℕ) (x : Ident) (label : Option WrittenLabel) → label_passes tests label ≡ true → Keeps w m (with_name_at k x label m)
  pub stores : (w : W) (m : Made) (v k : ℕ) → Here w m (Variable v) → Here w m (Binding k) → Keeps w m (with_stmt (stmt.Store (slot v) (slot k)) m)
  pub puts : (w : W) (m : Made) (v i k : ℕ) → Here w m (Array v) → Here w m (Binding i) → Here w m (Binding k) → Keeps w m (with_stmt (stmt.Put (slot v) (slot i) (slot k)) m)
  pub outputs : (w : W) (m : Made) (k : ℕ) (host : HostId) (offset : ℕ) → Here w m (Binding k) → tests.host host.0 ≡ true → Keeps w m (with_stmt (stmt.Output (slot k) host offset) m)
  pub branches : (w : W) (m : Made) (k offset : ℕ) (a b : Made) → Here w m (Binding k) → Keeps (inside w m) (block_more m) a → Keeps (inside w m) (emptied a) b → Keeps w m (with_if k offset m a b)
  pub loops : (w : W) (m : Made) (count : ℕ) (entry : Slot) (a : Made) → entry_passes tests entry.label ≡ true → Keeps (inside w m) (turned entry m) a → Keeps w m (for_made count a m)
  pub turn_here : (w : W) (m : Made) (entry : Slot) → Here (inside w m) (turned entry m) (Binding m.next)
  pub turn_stays : (w : W) (m : Made) (entry : Slot) (p : Spot) → Here w m p → Here (inside w m) (turned entry m) p
