-- What the statements of blocks make.
use Rattle.std.proofs.Common.{◌≡◌, ℕ, zero, suc, ◌+◌, ◌*◌, ◌≤◌, Bool, true, false, ◌&&◌, ◌||◌, if◌then◌else◌, List, [], ◌∷◌, ◌++◌, length, map, slice_index, slice_index_or, refl, ap, lit≤, arith}
use Rattle.std.specs.List.{list_all, sum}
use Rattle.std.proofs.lemmas.Bool.{eqb-true}
use Rattle.std.proofs.lemmas.List.Sums.{sum_by-cons}
use Rattle.vd_base.specs.Arity.{arity}
use Rattle.vd_base.specs.HostSets.{host}
use Rattle.vd_base.specs.declared.ids.HostId.{HostId}
use Rattle.vd_base.specs.declared.ids.SlotId.{SlotId}
use Rattle.vd_base.specs.declared.operations.Op.{Op}
use Rattle.vd_base.specs.declared.operations.Op.TheVariants as op
use Rattle.vd_base.specs.declared.protocols.Proto.{Proto}
use Rattle.vd_base.specs.declared.protocols.Proto.TheVariants.{Local}
use Rattle.vd_base.specs.Holders.{is_holder}
use Rattle.vd_core.specs.declared.normal.Right.{Right}
use Rattle.vd_core.specs.declared.normal.Right.TheVariants.{Lit, Turn, Copy, Apply, Input, Declassify, Endorse, Load, Get}
use Rattle.vd_core.specs.declared.normal.Stmt.TheOpen.{Stmt-F}
use Rattle.vd_core.specs.Facts.{blocks_meet, of_rights, operands_fit, count_step}
use Rattle.vd_execution.specs.Gadgets.{Gadget}
use Rattle.vd_execution.specs.Plans.{Ends, Branch}
use Rattle.vd_duet.specs.Laws.{Each}
use Rattle.vd_split.specs.Block.{Block, End, Let, NewVar, NewArray, Store, Put, Output, If, For, each}
use Rattle.vd_split.specs.Joint.{acts_then, and_then}
use Rattle.vd_split.specs.Suite.{picked, Made, Calls, holders_among}
use Rattle.vd_split.specs.Emission.{Emitted, parts_at, delivered, all_moved, and_on, right_made, with_parts, in_turn, store_made, put_made, output_made, if_made, for_made, after_loop_registers}
use Rattle.vd_split.proofs.Front.{and_left, and_right}
use Rattle.vd_split.proofs.Front.{picked_few}
use Rattle.vd_backend_laws.specs.Parts.{Parts, suite_calls}
use Rattle.vd_backend_laws.specs.Suite.{IsOver}
use Rattle.vd_projection.specs.Statements.{State, Making, Statement, made_by, emptied, alone, own_cells, MakesFew, EachMakesFew, statements, all_of, in_branch, in_loop}
use Rattle.vd_projection.proofs.Counts.{acts_in, Grows, Takes, takes_none, takes_more, takes_both, most_plain, most_applied, most_moved}
use Rattle.vd_projection.proofs.CodeSizesCodes.{plan_acts, plans_acts, gadgets_acts, plan_code}
use Rattle.vd_projection.proofs.CallLengths.{IsSmall, CallTakes, literal_takes, apply_takes, keep_takes, renew_acts, move_takes, told_takes, turn_takes, input_takes, get_takes, put_acts}
use Rattle.vd_projection.proofs.Arrays.{cells_acts, cells_given, cells_registers}

-- an operation with its operands' moves
applied_cost : (o : Op) → most_moved * arity o + most_applied o ≤ 1024
applied_cost op.Add = lit≤ tt
applied_cost op.Sub = lit≤ tt
applied_cost op.Mul = lit≤ tt
applied_cost (op.Scale k) = lit≤ tt
applied_cost op.Div = lit≤ tt
applied_cost op.Rem = lit≤ tt
applied_cost op.And = lit≤ tt
applied_cost op.Or = lit≤ tt
applied_cost op.Xor = lit≤ tt
applied_cost op.Not = lit≤ tt
applied_cost op.Flip = lit≤ tt
applied_cost (op.Shl k) = lit≤ tt
applied_cost (op.Shr k) = lit≤ tt
applied_cost op.Eq = lit≤ tt
applied_cost op.Ne = lit≤ tt
applied_cost op.Lt = lit≤ tt
applied_cost op.Le = lit≤ tt
applied_cost op.Min = lit≤ tt
applied_cost op.Max = lit≤ tt
applied_cost op.Mux = lit≤ tt

-- the statements of a block, and of those in it
abbrev pub counted : Block → ℕ
counted b = sum (each count_step b)

count_next : (n : ℕ) (ns : List ℕ) → sum (n ∷ ns) ≡ n + sum ns
count_next n ns = sum_by-cons (λ (k : ℕ). k) n ns

-- each operation has as many operands as it takes
abbrev operands_hold : Block → Bool
operands_hold b = list_all (λ x. x) (each (λ s. of_rights operands_fit s && blocks_meet s) b)

module _ (hosts : ℕ) (proto : ℕ → Proto) (few_hosts : hosts ≤ 4) (over : (x : ℕ) → IsOver hosts (proto x)) where
  abbrev s : Calls Gadget Parts
  s = suite_calls hosts

  abbrev AreSmall : State hosts proto → Type 0
  AreSmall e = Each IsSmall e.held

  held_one : (held : List Parts) (x : Parts) → Each IsSmall held → IsSmall x → Each IsSmall (held ++ x ∷ [])
  held_one [] x f g = (g, tt)
  held_one (y ∷ held) x f g = (f.0, held_one held x f.1 g)

  held_at : (held : List Parts) (i : ℕ) → Each IsSmall held → IsSmall (slice_index_or held i (record { at = []; size = 0 }))
  held_at [] i f = omega arith
  held_at (x ∷ held) zero f = f.0
  held_at (x ∷ held) (suc i) f = held_at held i f.1

  slot_of : (e : State hosts proto) (x : SlotId) → AreSmall e → IsSmall (parts_at s proto e x)
  slot_of e x f = held_at e.held x.0 f

  -- ---- several moves

  all_take : (q : Proto) (e : State hosts proto) → AreSmall e → (xs : List SlotId) (next : List ℕ)
      → let made = all_moved s proto q e xs next in Takes (most_moved * length xs) next made.acts made.next
  all_take q e f [] next = takes_none 0 next
  all_take q e f (x ∷ xs) next =
      let one = s.move (proto x.0) q (parts_at s proto e x) next in
      let rest = all_moved s proto q e xs one.next in
      let moved = move_takes (proto x.0) q (parts_at s proto e x) (slot_of e x f) next in
      takes_more (most_moved + most_moved * length xs) (most_moved * suc (length xs)) next (one.acts ++ rest.acts) rest.next (omega arith)
      (takes_both most_moved (most_moved * length xs) next one.acts one.next rest.acts rest.next moved.takes (all_take q e f xs one.next))

  each_told : (p : Proto) (x : Parts) → IsSmall x → (hs : List HostId) (next : List ℕ)
      → let made = delivered s proto p x hs next in Takes (most_plain * length hs) next made.acts made.next
  each_told p x f [] next = takes_none 0 next
  each_told p x f (h ∷ hs) next =
      let one = s.move p (Local h) x next in
      let rest = delivered s proto p x hs one.next in
      takes_more (most_plain + most_plain * length hs) (most_plain * suc (length hs)) next (one.acts ++ rest.acts) rest.next (omega arith)
      (takes_both most_plain (most_plain * length hs) next one.acts one.next rest.acts rest.next (told_takes p h x f next) (each_told p x f hs one.next))

  -- a word is told to some of the hosts
  some_told : (test : ℕ → Bool) (p : Proto) (x : Parts) → IsSmall x → (next : List ℕ)
      → let made = delivered s proto p x (picked 0 hosts test) next in Takes 136 next made.acts made.next
  some_told test p x f next =
      let many = picked_few test 0 hosts in
      let made = delivered s proto p x (picked 0 hosts test) next in
      takes_more (most_plain * length (picked 0 hosts test)) 136 next made.acts made.next (enough (length (picked 0 hosts test)) many) (each_told p x f (picked 0 hosts test) next)
    where
      enough : (l : ℕ) → l ≤ hosts → 34 * l ≤ 136
      enough l le = omega (arith, le, few_hosts)

  -- ---- right sides

  call_more : (m n : ℕ) (next : List ℕ) (made : Made Gadget Parts) → m ≤ n → CallTakes m next made → CallTakes n next made
  call_more m n next made le f = record { takes = takes_more m n next made.acts made.next le f.takes; given = f.given }

  right_takes : (q : Proto) (r : Right) → operands_fit r ≡ true → (e : State hosts proto) → AreSmall e → CallTakes 1024 e.next (right_made s proto q r e)
  right_takes q (Lit v) operands e f = call_more most_plain 1024 e.next (s.literal q v e.next) (lit≤ tt) (literal_takes q v e.next)
  right_takes q Turn operands e f = call_more most_plain 1024 e.next (s.turn q e.loop e.next) (lit≤ tt) (turn_takes q e.loop e.next)
  right_takes q (Copy y) operands e f =
      call_more most_moved 1024 e.next (s.move (proto y.0) q (parts_at s proto e y) e.next) (lit≤ tt) (move_takes (proto y.0) q (parts_at s proto e y) (slot_of e y f) e.next)
  right_takes q (Apply o ys) operands e f =
      let many : length ys ≡ arity o = eqb-true (length ys) (arity o) operands in
      let cost = applied_cost o in
      let all = all_moved s proto q e ys e.next in
      let made = s.apply o q all.given all.next in
      let applied = apply_takes o q all.given all.next in
      record {
        takes = takes_more (most_moved * length ys + most_applied o) 1024 e.next (all.acts ++ made.acts) made.next (enough (length ys) (arity o) (most_applied o) many cost)
            (takes_both (most_moved * length ys) (most_applied o) e.next all.acts all.next made.acts made.next (all_take q e f ys e.next) applied.takes);
        given = applied.given;
      }
    where
      enough : (l k n : ℕ) → l ≡ k → 327 * k + n ≤ 1024 → 327 * l + n ≤ 1024
      enough l k n e g = omega (arith, e, g)
  right_takes q (Input h) operands e f = call_more most_plain 1024 e.next (s.input h e.next) (lit≤ tt) (input_takes h e.next)
  right_takes q (Declassify y to) operands e f =
      call_more most_moved 1024 e.next (s.move (proto y.0) q (parts_at s proto e y) e.next) (lit≤ tt) (move_takes (proto y.0) q (parts_at s proto e y) (slot_of e y f) e.next)
  right_takes q (Endorse y to) operands e f =
      call_more most_moved 1024 e.next (s.move (proto y.0) q (parts_at s proto e y) e.next) (lit≤ tt) (move_takes (proto y.0) q (parts_at s proto e y) (slot_of e y f) e.next)
  right_takes q (Load v) operands e f =
      let p = proto v.0 in
      let kept = s.keep p (parts_at s proto e v) e.next in
      let one = keep_takes p (parts_at s proto e v) e.next in
      let moved = s.move p q kept.given kept.next in
      let two = move_takes p q kept.given one.given kept.next in
      record {
        takes = takes_more 361 1024 e.next (kept.acts ++ moved.acts) moved.next (lit≤ tt)
            (takes_both most_plain most_moved e.next kept.acts kept.next moved.acts moved.next one.takes two.takes);
        given = two.given;
      }
  right_takes q (Get v i) operands e f =
      let p = proto v.0 in
      let index = delivered s proto (proto i.0) (parts_at s proto e i) (holders_among s p) e.next in
      let told = some_told (λ h. is_holder p (host h)) (proto i.0) (parts_at s proto e i) (slot_of e i f) e.next in
      let read = s.get p (parts_at s proto e v) index.given index.next in
      let one = get_takes p (parts_at s proto e v) index.given index.next in
      let moved = s.move p q read.given read.next in
      let two = move_takes p q read.given one.given read.next in
      record {
        takes = takes_more 497 1024 e.next ((index.acts ++ read.acts) ++ moved.acts) moved.next (lit≤ tt)
            (takes_both 170 most_moved e.next (index.acts ++ read.acts) read.next moved.acts moved.next
            (takes_both 136 most_plain e.next index.acts index.next read.acts read.next told one.takes) two.takes);
        given = two.given;
      }

  -- ---- one statement

  -- what it makes has few acts, and takes few registers besides the cells of an array
  record IsShort (cells : ℕ) (e : State hosts proto) (made : Emitted (suite_calls hosts) proto) : Type 0 where
    acts : plan_acts made.tree ≤ 1024
    registers : (h : ℕ) → slice_index made.state.next h ≤ slice_index e.next h + 2048 + cells

  makes_few : (stmt : Statement hosts proto) (e : State hosts proto) → IsShort (own_cells hosts proto stmt) e (made_by hosts proto (alone hosts proto stmt) e) → MakesFew hosts proto stmt e
  makes_few stmt e f = record {
    code = λ h. at (plan_code h (made_by hosts proto (alone hosts proto stmt) e).tree) f.acts;
    registers = f.registers;
  }
    where
      at : {a b : ℕ} → a ≤ b → b ≤ 1024 → a ≤ 1024
      at p q = omega (arith, p, q)

  -- acts that take no register
  acts_take : (n : ℕ) (gs : List Gadget) → acts_in gs ≤ n → (next : List ℕ) → Takes n next gs next
  acts_take n gs few next = record { acts = few; registers = λ h. omega arith }

  -- acts, and the registers that they take
  acts_short : (e : State hosts proto) (acts : List Gadget) (state : State hosts proto) → Takes 1024 e.next acts state.next → IsShort 0 e (record { tree = acts_then acts Ends; state = state })
  acts_short e acts state f = record {
    acts = few (plan_acts (acts_then acts Ends)) (acts_in acts) (gadgets_acts acts Ends) f.acts;
    registers = λ h. (let p = f.registers h in omega (arith, p));
  }
    where
      few : (p a : ℕ) → p ≡ a + 0 → a ≤ 1024 → p ≤ 1024
      few p a e g = omega (arith, e, g)

  -- ---- blocks

  pub record BlockIsShort (b : Block) (e : State hosts proto) (made : Emitted (suite_calls hosts) proto) : Type 0 where
    pub small : Each IsSmall made.state.held
    pub each_one : EachMakesFew hosts proto b e
    pub acts : plan_acts made.tree ≤ 1024 * counted b

  abbrev Goes : Block → Type 0
  Goes b = operands_hold b ≡ true → (e : State hosts proto) → AreSmall e → BlockIsShort b e ((all_of hosts proto b).emit e)

  -- blocks that hold nothing
  nothing_made : (fs : List (Making hosts proto)) (e : State hosts proto)
      → (in_turn s proto (map (emptied hosts proto) fs)).emit e ≡ record { tree = Ends; state = e }
  nothing_made [] e = refl
  nothing_made (f ∷ fs) e =
      ap (λ (m : Emitted (suite_calls hosts) proto). (let made : Emitted (suite_calls hosts) proto = record { tree = m.tree; state = m.state } in made)) (nothing_made fs e)

  -- one statement and those behind it
  in_row : (rest : Block) (n : ℕ) (one more : Emitted (suite_calls hosts) proto) → n ≡ 1 + counted rest → plan_acts one.tree ≤ 1024 → plan_acts more.tree ≤ 1024 * counted rest
      → plan_acts (and_then one.tree more.tree) ≤ 1024 * n
  in_row rest n one more e p q = sums _ _ _ (counted rest) (plans_acts one.tree more.tree) p q e
    where
      sums : (x a b k : ℕ) → x ≡ a + b → a ≤ 1024 → b ≤ 1024 * k → n ≡ 1 + k → x ≤ 1024 * n
      sums x a b k f p q e = omega (arith, e, f, p, q)

  -- ---- branches and loops by themselves

  if_short : (x : SlotId) (a b : List (Making hosts proto)) (e : State hosts proto) → AreSmall e
      → IsShort 0 e (if_made s proto x (in_turn s proto (map (emptied hosts proto) a)) (in_turn s proto (map (emptied hosts proto) b)) e)
  if_short x a b e f =
      let then_do = in_turn s proto (map (emptied hosts proto) a) in
      let else_do = in_turn s proto (map (emptied hosts proto) b) in
      let test : ℕ → Bool = λ h. then_do.takes_part h || else_do.takes_part h in
      let guard = delivered s proto (proto x.0) (parts_at s proto e x) (picked 0 hosts test) e.next in
      let told = some_told test (proto x.0) (parts_at s proto e x) (slot_of e x f) e.next in
      let inner : State hosts proto = record { next = guard.next; held = e.held; loop = e.loop } in
      let first = then_do.emit inner in
      let other = else_do.emit first.state in
      record {
        acts = sums _ _ _ _ (gadgets_acts guard.acts (Branch guard.given first.tree other.tree Ends)) told.acts
            (ap (λ (m : Emitted (suite_calls hosts) proto). plan_acts m.tree) (nothing_made a inner)) (ap (λ (m : Emitted (suite_calls hosts) proto). plan_acts m.tree) (nothing_made b first.state));
        registers = λ h.
            grown (slice_index other.state.next h) (slice_index first.state.next h) (slice_index guard.next h) (slice_index e.next h)
            (ap (λ (m : Emitted (suite_calls hosts) proto). slice_index m.state.next h) (nothing_made b first.state))
            (ap (λ (m : Emitted (suite_calls hosts) proto). slice_index m.state.next h) (nothing_made a inner)) (told.registers h);
      }
    where
      sums : (w g p q : ℕ) → w ≡ g + (1 + (p + (q + 0))) → g ≤ 136 → p ≡ 0 → q ≡ 0 → w ≤ 1024
      sums w g p q i few j k = omega (arith, i, few, j, k)

      grown : (u t g n : ℕ) → u ≡ t → t ≡ g → g ≤ n + 136 → u ≤ n + 2048 + 0
      grown u t g n i j le = omega (arith, i, j, le)

  loop_grows : (has : ℕ → Bool) (k : ℕ) (next : List ℕ) → Grows 1 next (after_loop_registers has k next)
  loop_grows has k [] h = omega arith
  loop_grows has k (r ∷ rs) zero = at (has k)
    where
      at : (b : Bool) → (if b then r + 1 else r) ≤ r + 1
      at true = omega arith
      at false = omega arith
  loop_grows has k (r ∷ rs) (suc h) = loop_grows has (k + 1) rs h

  for_short : (count : ℕ) (a : List (Making hosts proto)) (e : State hosts proto) → IsShort 0 e (for_made s proto count (in_turn s proto (map (emptied hosts proto) a)) e)
  for_short count a e =
      let body = in_turn s proto (map (emptied hosts proto) a) in
      let inner : State hosts proto = record { next = after_loop_registers body.acts_at 0 e.next; held = e.held; loop = e.next } in
      let made = body.emit inner in
      record {
        acts = lines (plan_acts made.tree) (ap (λ (m : Emitted (suite_calls hosts) proto). plan_acts m.tree) (nothing_made a inner));
        registers = λ h.
            grown (slice_index made.state.next h) (slice_index inner.next h) (slice_index e.next h) (ap (λ (m : Emitted (suite_calls hosts) proto). slice_index m.state.next h) (nothing_made a inner))
            (loop_grows body.acts_at 0 e.next h);
      }
    where
      lines : (p : ℕ) → p ≡ 0 → 1 + (p + 0) ≤ 1024
      lines p i = omega (arith, i)

      grown : (u g n : ℕ) → u ≡ g → g ≤ n + 1 → u ≤ n + 2048 + 0
      grown u g n i le = omega (arith, i, le)

  -- ---- all statements

  pub block_short : (b : Block) → Goes b
  block_short End p e f = record { small = f; each_one = tt; acts = omega arith }
  block_short (Let x right rest) p e f =
      let made = right_made s proto (proto x.0) right e in
      let one = right_takes (proto x.0) right (and_left (operands_fit right) true (and_left (operands_fit right && true) (operands_hold rest) p)) e f in
      let after = with_parts s proto made e in
      let short = acts_short e made.acts after.state one.takes in
      let more = block_short rest (and_right (operands_fit right && true) (operands_hold rest) p) after.state (held_one e.held made.given f one.given) in
      record {
        small = more.small;
        each_one = (makes_few (Stmt-F.Let x right) e short, more.each_one);
        acts = in_row rest (counted (Let x right rest)) after ((all_of hosts proto rest).emit after.state) (count_next 1 (each count_step rest)) short.acts more.acts;
      }
  block_short (NewVar v x rest) p e f =
      let moved = s.move (proto x.0) (proto v.0) (parts_at s proto e x) e.next in
      let one = move_takes (proto x.0) (proto v.0) (parts_at s proto e x) (slot_of e x f) e.next in
      let kept = s.keep (proto v.0) moved.given moved.next in
      let two = keep_takes (proto v.0) moved.given moved.next in
      let after = with_parts s proto (and_on s proto moved (s.keep (proto v.0))) e in
      let both = takes_more 361 1024 e.next (moved.acts ++ kept.acts) kept.next (lit≤ tt)
      (takes_both most_moved most_plain e.next moved.acts moved.next kept.acts kept.next one.takes two.takes) in
      let short = acts_short e (moved.acts ++ kept.acts) after.state both in
      let more = block_short rest p after.state (held_one e.held kept.given f two.given) in
      record {
        small = more.small;
        each_one = (makes_few (Stmt-F.NewVar v x) e short, more.each_one);
        acts = in_row rest (counted (NewVar v x rest)) after ((all_of hosts proto rest).emit after.state) (count_next 1 (each count_step rest)) short.acts more.acts;
      }
  block_short (NewArray v cells rest) p e f =
      let made = s.cells (proto v.0) cells e.next in
      let after = with_parts s proto made e in
      let short : IsShort cells e after = record {
        acts = few (plan_acts after.tree) (acts_in made.acts) (gadgets_acts made.acts Ends) (cells_acts cells (proto v.0) e.next);
        registers = λ h. (let grown = cells_registers cells hosts (proto v.0) (over v.0) e.next h in omega (arith, grown));
      } in
      let more = block_short rest p after.state (held_one e.held made.given f (cells_given cells (proto v.0) e.next)) in
      record {
        small = more.small;
        each_one = (makes_few (Stmt-F.NewArray v cells) e short, more.each_one);
        acts = in_row rest (counted (NewArray v cells rest)) after ((all_of hosts proto rest).emit after.state) (count_next 1 (each count_step rest)) short.acts more.acts;
      }
    where
      few : (p a : ℕ) → p ≡ a + 0 → a ≤ 8 → p ≤ 1024
      few p a i le = omega (arith, i, le)
  block_short (Store v x rest) p e f =
      let moved = s.move (proto x.0) (proto v.0) (parts_at s proto e x) e.next in
      let one = move_takes (proto x.0) (proto v.0) (parts_at s proto e x) (slot_of e x f) e.next in
      let renewed = s.renew (proto v.0) (parts_at s proto e v) moved.given in
      let two = acts_take most_plain renewed (renew_acts (proto v.0) (parts_at s proto e v) moved.given (slot_of e v f)) moved.next in
      let after = store_made s proto v x e in
      let both = takes_more 361 1024 e.next (moved.acts ++ renewed) moved.next (lit≤ tt) (takes_both most_moved most_plain e.next moved.acts moved.next renewed moved.next one.takes two) in
      let short = acts_short e (moved.acts ++ renewed) after.state both in
      let more = block_short rest p after.state f in
      record {
        small = more.small;
        each_one = (makes_few (Stmt-F.Store v x) e short, more.each_one);
        acts = in_row rest (counted (Store v x rest)) after ((all_of hosts proto rest).emit after.state) (count_next 1 (each count_step rest)) short.acts more.acts;
      }
  block_short (Put v i x rest) p e f =
      let t = proto v.0 in
      let index = delivered s proto (proto i.0) (parts_at s proto e i) (holders_among s t) e.next in
      let told = some_told (λ h. is_holder t (host h)) (proto i.0) (parts_at s proto e i) (slot_of e i f) e.next in
      let moved = s.move (proto x.0) t (parts_at s proto e x) index.next in
      let one = move_takes (proto x.0) t (parts_at s proto e x) (slot_of e x f) index.next in
      let written = s.put t (parts_at s proto e v) index.given moved.given in
      let two = acts_take most_plain written (put_acts t (parts_at s proto e v) index.given moved.given) moved.next in
      let after = put_made s proto v i x e in
      let all = takes_more 497 1024 e.next ((index.acts ++ moved.acts) ++ written) moved.next (lit≤ tt)
      (takes_both 463 most_plain e.next (index.acts ++ moved.acts) moved.next written moved.next
      (takes_both 136 most_moved e.next index.acts index.next moved.acts moved.next told one.takes) two) in
      let short = acts_short e ((index.acts ++ moved.acts) ++ written) after.state all in
      let more = block_short rest p after.state f in
      record {
        small = more.small;
        each_one = (makes_few (Stmt-F.Put v i x) e short, more.each_one);
        acts = in_row rest (counted (Put v i x rest)) after ((all_of hosts proto rest).emit after.state) (count_next 1 (each count_step rest)) short.acts more.acts;
      }
  block_short (Output x h offset rest) p e f =
      let moved = s.move (proto x.0) (Local h) (parts_at s proto e x) e.next in
      let one = told_takes (proto x.0) h (parts_at s proto e x) (slot_of e x f) e.next in
      let printed = s.output h moved.given in
      let two = acts_take 1 printed (lit≤ tt) moved.next in
      let after = output_made s proto x h e in
      let both = takes_more 35 1024 e.next (moved.acts ++ printed) moved.next (lit≤ tt) (takes_both most_plain 1 e.next moved.acts moved.next printed moved.next one two) in
      let short = acts_short e (moved.acts ++ printed) after.state both in
      let more = block_short rest p after.state f in
      record {
        small = more.small;
        each_one = (makes_few (Stmt-F.Output x h offset) e short, more.each_one);
        acts = in_row rest (counted (Output x h offset rest)) after ((all_of hosts proto rest).emit after.state) (count_next 1 (each count_step rest)) short.acts more.acts;
      }
  block_short (If x first other offset rest) p e f =
      let test : ℕ → Bool = λ h. (all_of hosts proto first).takes_part h || (all_of hosts proto other).takes_part h in
      let guard = delivered s proto (proto x.0) (parts_at s proto e x) (picked 0 hosts test) e.next in
      let told = some_told test (proto x.0) (parts_at s proto e x) (slot_of e x f) e.next in
      let inner = in_branch hosts proto x first other e in
      let one = block_short first (and_left _ _ (and_left _ _ p)) inner f in
      let then_made = (all_of hosts proto first).emit inner in
      let two = block_short other (and_right _ _ (and_left _ _ p)) then_made.state one.small in
      let else_made = (all_of hosts proto other).emit then_made.state in
      let made = if_made s proto x (all_of hosts proto first) (all_of hosts proto other) e in
      let behind = (all_of hosts proto rest).emit made.state in
      let more = block_short rest (and_right _ _ p) made.state two.small in
      record {
        small = more.small;
        each_one = (
          makes_few (Stmt-F.If x (statements hosts proto first) (statements hosts proto other) offset) e (if_short x (statements hosts proto first) (statements hosts proto other) e f),
          one.each_one,
          two.each_one,
          more.each_one,
        );
        acts = lines _ _ _ _ _ _ (counted first) (counted other) (counted rest) (plans_acts made.tree behind.tree) (gadgets_acts guard.acts (Branch guard.given then_made.tree else_made.tree Ends)) told.acts one.acts two.acts more.acts
            (count_next (1 + counted first + counted other) (each count_step rest));
      }
    where
      lines : (w m y g a b c d k : ℕ) → {all : ℕ} → w ≡ m + y → m ≡ g + (1 + (a + (b + 0))) → g ≤ 136 → a ≤ 1024 * c → b ≤ 1024 * d → y ≤ 1024 * k → all ≡ 1 + c + d + k → w ≤ 1024 * all
      lines w m y g a b c d k i j few p q r l = omega (arith, i, j, few, p, q, r, l)
  block_short (For count body rest) p e f =
      let inner = in_loop hosts proto body e in
      let one = block_short body (and_left _ _ p) inner f in
      let body_made = (all_of hosts proto body).emit inner in
      let made = for_made s proto count (all_of hosts proto body) e in
      let behind = (all_of hosts proto rest).emit made.state in
      let more = block_short rest (and_right _ _ p) made.state one.small in
      record {
        small = more.small;
        each_one = (makes_few (Stmt-F.For count (statements hosts proto body)) e (for_short count (statements hosts proto body) e), one.each_one, more.each_one);
        acts = lines _ _ _ (counted body) (counted rest) (plans_acts made.tree behind.tree) one.acts more.acts (count_next (1 + counted body) (each count_step rest));
      }
    where
      lines : (w y a c k : ℕ) → {all : ℕ} → w ≡ 1 + (a + 0) + y → a ≤ 1024 * c → y ≤ 1024 * k → all ≡ 1 + c + k → w ≤ 1024 * all
      lines w y a c k i p q l = omega (arith, i, p, q, l)
