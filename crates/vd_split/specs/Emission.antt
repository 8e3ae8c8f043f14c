-- The acts of a program, at protocols that each slot was given.
use Rattle.std.specs.Prelude.{ℕ, ◌+◌, nat_eq, Bool, false, ◌||◌, if◌then◌else◌, List, [], ◌∷◌, ◌++◌, map, replicate, slice_index_or}
use Rattle.std.specs.List.{list_any}
use Rattle.vd_base.specs.declared.ids.HostId.{HostId}
use Rattle.vd_base.specs.declared.ids.SlotId.{SlotId}
use Rattle.vd_base.specs.declared.protocols.Proto.{Proto}
use Rattle.vd_base.specs.declared.protocols.Proto.TheVariants.{Local}
use Rattle.vd_base.specs.HostSets.{host}
use Rattle.vd_base.specs.Holders.{is_holder}
use Rattle.vd_core.specs.declared.normal.Right.{Right}
use Rattle.vd_core.specs.declared.normal.Right.TheVariants.{Lit, Turn, Copy, Apply, Input, Declassify, Endorse, Load, Get}
use Rattle.vd_core.specs.declared.normal.Stmt.{Stmt}
use Rattle.vd_core.specs.declared.normal.Stmt.TheOpen.{Stmt-F}
use Rattle.vd_core.specs.declared.normal.Stmt.TheFolds.{fold-Stmt}
use Rattle.vd_execution.specs.Plans.{Plan, Ends, Branch, Loop}
use Rattle.vd_split.specs.Joint.{acts_then, and_then}
use Rattle.vd_split.specs.Suite.{picked, Made, Calls, holders_among}

-- the hosts that have a loop get a register for it
abbrev pub loop_registers : (ℕ → Bool) → ℕ → List ℕ → List (ℕ × ℕ)
loop_registers has k [] = []
loop_registers has k (r ∷ rs) = if has k then (k, r) ∷ loop_registers has (k + 1) rs else loop_registers has (k + 1) rs

abbrev pub after_loop_registers : (ℕ → Bool) → ℕ → List ℕ → List ℕ
after_loop_registers has k [] = []
after_loop_registers has k (r ∷ rs) = (if has k then r + 1 else r) ∷ after_loop_registers has (k + 1) rs

module _ {A P : Type 0} (s : Calls A P) (proto : ℕ → Proto) where
  -- the next free register of each host, the parts of each slot, and the registers of the innermost loop, by host
  pub record Emitting : Type 0 where
    pub next : List ℕ
    pub held : List P
    pub loop : List ℕ

  pub record Emitted : Type 0 where
    pub tree : Plan A
    pub state : Emitting

  -- the hosts that take part in a statement, those that have an instruction of it, and its acts
  pub record Emission : Type 0 where
    pub takes_part : ℕ → Bool
    pub acts_at : ℕ → Bool
    pub emit : Emitting → Emitted

  abbrev pub parts_at : Emitting → SlotId → P
  parts_at e x = slice_index_or e.held x.0 s.nowhere

  abbrev pub at_slot : SlotId → ℕ → Bool
  at_slot x h = is_holder (proto x.0) (host h)

  -- a word is moved to each of these hosts in clear
  abbrev pub delivered : Proto → P → List HostId → List ℕ → Made A (List (ℕ × ℕ))
  delivered p x [] next = record { given = []; acts = []; next = next }
  delivered p x (h ∷ hs) next =
      let one = s.move p (Local h) x next in
      let rest = delivered p x hs one.next in
      record { given = (h.0, s.register one.given h.0) ∷ rest.given; acts = one.acts ++ rest.acts; next = rest.next }

  abbrev pub delivered_at : Proto → List HostId → ℕ → Bool
  delivered_at p hs h = list_any (λ k. s.moves_at p (Local k) h) hs

  -- operands are moved from left to right
  abbrev pub all_moved : Proto → Emitting → List SlotId → List ℕ → Made A (List P)
  all_moved q e [] next = record { given = []; acts = []; next = next }
  all_moved q e (x ∷ xs) next =
      let one = s.move (proto x.0) q (parts_at e x) next in
      let rest = all_moved q e xs one.next in
      record { given = one.given ∷ rest.given; acts = one.acts ++ rest.acts; next = rest.next }

  -- one call, and then another on what it gives
  abbrev pub and_on : {X Y : Type 0} → Made A X → (X → List ℕ → Made A Y) → Made A Y
  and_on one f = let rest = f one.given one.next in record { given = rest.given; acts = one.acts ++ rest.acts; next = rest.next }

  -- the right side of a binding at a protocol
  abbrev pub right_made : Proto → Right → Emitting → Made A P
  right_made q (Lit n) e = s.literal q n e.next
  right_made q Turn e = s.turn q e.loop e.next
  right_made q (Copy y) e = s.move (proto y.0) q (parts_at e y) e.next
  right_made q (Apply o ys) e = and_on (all_moved q e ys e.next) (s.apply o q)
  right_made q (Input h) e = s.input h e.next
  right_made q (Declassify y to) e = s.move (proto y.0) q (parts_at e y) e.next
  right_made q (Endorse y to) e = s.move (proto y.0) q (parts_at e y) e.next
  right_made q (Load v) e = and_on (s.keep (proto v.0) (parts_at e v) e.next) (s.move (proto v.0) q)
  right_made q (Get v i) e =
      and_on (and_on (delivered (proto i.0) (parts_at e i) (holders_among s (proto v.0)) e.next) (s.get (proto v.0) (parts_at e v))) (s.move (proto v.0) q)

  abbrev pub right_takes_part : Right → ℕ → Bool
  right_takes_part (Lit n) h = false
  right_takes_part Turn h = false
  right_takes_part (Copy y) h = at_slot y h
  right_takes_part (Apply o ys) h = list_any (λ y. at_slot y h) ys
  right_takes_part (Input k) h = false
  right_takes_part (Declassify y to) h = at_slot y h
  right_takes_part (Endorse y to) h = at_slot y h
  right_takes_part (Load v) h = at_slot v h
  right_takes_part (Get v i) h = at_slot v h || at_slot i h

  abbrev pub right_acts_at : Proto → Right → ℕ → Bool
  right_acts_at q (Lit n) h = is_holder q (host h)
  right_acts_at q Turn h = is_holder q (host h)
  right_acts_at q (Copy y) h = s.moves_at (proto y.0) q h
  right_acts_at q (Apply o ys) h = list_any (λ y. s.moves_at (proto y.0) q h) ys || s.applies_at o q h
  right_acts_at q (Input k) h = nat_eq k.0 h
  right_acts_at q (Declassify y to) h = s.moves_at (proto y.0) q h
  right_acts_at q (Endorse y to) h = s.moves_at (proto y.0) q h
  right_acts_at q (Load v) h = at_slot v h || s.moves_at (proto v.0) q h
  right_acts_at q (Get v i) h = delivered_at (proto i.0) (holders_among s (proto v.0)) h || at_slot v h || s.moves_at (proto v.0) q h

  -- the acts of a call, whose parts are those of the next slot
  abbrev pub with_parts : Made A P → Emitting → Emitted
  with_parts made e = record { tree = acts_then made.acts Ends; state = record { next = made.next; held = e.held ++ made.given ∷ []; loop = e.loop } }

  abbrev pub with_acts : List A → List ℕ → Emitting → Emitted
  with_acts acts next e = record { tree = acts_then acts Ends; state = record { next = next; held = e.held; loop = e.loop } }

  -- one after the other
  abbrev pub in_turn : List Emission → Emission
  in_turn [] = record { takes_part = λ h. false; acts_at = λ h. false; emit = λ e. record { tree = Ends; state = e } }
  in_turn (f ∷ fs) =
      let rest = in_turn fs in
      record {
        takes_part = λ h. f.takes_part h || rest.takes_part h;
        acts_at = λ h. f.acts_at h || rest.acts_at h;
        emit = λ e. let one = f.emit e in let more = rest.emit one.state in record { tree = and_then one.tree more.tree; state = more.state };
      }

  abbrev pub store_made : SlotId → SlotId → Emitting → Emitted
  store_made v x e =
      let moved = s.move (proto x.0) (proto v.0) (parts_at e x) e.next in
      with_acts (moved.acts ++ s.renew (proto v.0) (parts_at e v) moved.given) moved.next e

  abbrev pub put_made : SlotId → SlotId → SlotId → Emitting → Emitted
  put_made v i x e =
      let index = delivered (proto i.0) (parts_at e i) (holders_among s (proto v.0)) e.next in
      let moved = s.move (proto x.0) (proto v.0) (parts_at e x) index.next in
      with_acts ((index.acts ++ moved.acts) ++ s.put (proto v.0) (parts_at e v) index.given moved.given) moved.next e

  abbrev pub output_made : SlotId → HostId → Emitting → Emitted
  output_made x h e =
      let moved = s.move (proto x.0) (Local h) (parts_at e x) e.next in
      with_acts (moved.acts ++ s.output h moved.given) moved.next e

  -- the guard is moved to each host that takes part, in order; these have the branch
  abbrev pub if_made : SlotId → Emission → Emission → Emitting → Emitted
  if_made x then_do else_do e =
      let hosts = picked 0 s.hosts (λ h. then_do.takes_part h || else_do.takes_part h) in
      let guard = delivered (proto x.0) (parts_at e x) hosts e.next in
      let t = then_do.emit (record { next = guard.next; held = e.held; loop = e.loop }) in
      let f = else_do.emit t.state in
      record { tree = acts_then guard.acts (Branch guard.given t.tree f.tree Ends); state = f.state }

  -- each host that has an instruction of the body has the loop
  abbrev pub for_made : ℕ → Emission → Emitting → Emitted
  for_made count body e =
      let b = body.emit (record { next = after_loop_registers body.acts_at 0 e.next; held = e.held; loop = e.next }) in
      record { tree = Loop (loop_registers body.acts_at 0 e.next) count b.tree Ends; state = record { next = b.state.next; held = b.state.held; loop = e.loop } }

  abbrev pub stmt_emission : Stmt-F Emission → Emission
  stmt_emission (Stmt-F.Let x right) = record {
    takes_part = λ h. at_slot x h || right_takes_part right h;
    acts_at = right_acts_at (proto x.0) right;
    emit = λ e. with_parts (right_made (proto x.0) right e) e;
  }
  stmt_emission (Stmt-F.NewVar v x) = record {
    takes_part = λ h. at_slot v h || at_slot x h;
    acts_at = λ h. s.moves_at (proto x.0) (proto v.0) h || at_slot v h;
    emit = λ e. with_parts (and_on (s.move (proto x.0) (proto v.0) (parts_at e x) e.next) (s.keep (proto v.0))) e;
  }
  stmt_emission (Stmt-F.NewArray v cells) = record { takes_part = at_slot v; acts_at = at_slot v; emit = λ e. with_parts (s.cells (proto v.0) cells e.next) e }
  stmt_emission (Stmt-F.Store v x) = record {
    takes_part = λ h. at_slot v h || at_slot x h;
    acts_at = λ h. s.moves_at (proto x.0) (proto v.0) h || at_slot v h;
    emit = store_made v x;
  }
  stmt_emission (Stmt-F.Put v i x) = record {
    takes_part = λ h. at_slot v h || at_slot i h || at_slot x h;
    acts_at = λ h. delivered_at (proto i.0) (holders_among s (proto v.0)) h || s.moves_at (proto x.0) (proto v.0) h || at_slot v h;
    emit = put_made v i x;
  }
  stmt_emission (Stmt-F.Output x k offset) = record {
    takes_part = λ h. nat_eq k.0 h || at_slot x h;
    acts_at = λ h. s.moves_at (proto x.0) (Local k) h || nat_eq k.0 h;
    emit = output_made x k;
  }
  stmt_emission (Stmt-F.If x then_block else_block offset) =
      let then_do = in_turn then_block in
      let else_do = in_turn else_block in
      record {
        takes_part = λ h. at_slot x h || then_do.takes_part h || else_do.takes_part h;
        acts_at = λ h. delivered_at (proto x.0) (picked 0 s.hosts (λ k. then_do.takes_part k || else_do.takes_part k)) h || then_do.takes_part h || else_do.takes_part h;
        emit = if_made x then_do else_do;
      }
  stmt_emission (Stmt-F.For count body) = record { takes_part = (in_turn body).takes_part; acts_at = (in_turn body).acts_at; emit = for_made count (in_turn body) }

  abbrev pub emission : Stmt → Emission
  emission = fold-Stmt Emission stmt_emission

  abbrev pub block_emission : List Stmt → Emission
  block_emission body = in_turn (map emission body)

  -- nothing is emitted yet
  abbrev pub emitting_at_start : Emitting
  emitting_at_start = record { next = replicate s.hosts 0; held = []; loop = [] }
