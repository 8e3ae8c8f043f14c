-- What statements are emitted as takes few registers.
use Rattle.std.proofs.Common.{◌≡◌, ℕ, zero, suc, ◌+◌, ◌*◌, ◌<◌, ◌≤◌, nat_lt, Bool, true, false, ◌&&◌, ◌||◌, if◌then◌else◌, List, [], ◌∷◌, ◌++◌, length, slice_index_or, refl, subst, arith}
use Rattle.std.specs.List.{list_all}
use Rattle.std.proofs.lemmas.Bool.{eqb-true}
use Rattle.std.proofs.lemmas.Bool.Decides.{nat_tests}
use Rattle.vd_base.specs.declared.ids.HostId.{HostId}
use Rattle.vd_base.specs.declared.ids.SlotId.{SlotId}
use Rattle.vd_base.specs.declared.operations.Op.{Op}
use Rattle.vd_base.specs.declared.operations.Op.TheVariants as op
use Rattle.vd_base.specs.declared.protocols.Proto.{Proto}
use Rattle.vd_base.specs.declared.protocols.Proto.TheVariants.{Local}
use Rattle.vd_base.specs.Arity.{arity}
use Rattle.vd_base.specs.HostSets.{host}
use Rattle.vd_base.specs.Holders.{is_holder}
use Rattle.vd_core.specs.declared.normal.Right.{Right}
use Rattle.vd_core.specs.declared.normal.Right.TheVariants.{Lit, Turn, Copy, Apply, Input, Declassify, Endorse, Load, Get}
use Rattle.vd_core.specs.declared.normal.Stmt.TheOpen.{Stmt-F}
use Rattle.vd_core.specs.Facts.{blocks_meet, of_rights, operands_fit, host_is_declared}
use Rattle.vd_execution.specs.Gadgets.{Gadget}
use Rattle.vd_execution.specs.Plans.{Ends, Branch}
use Rattle.vd_duet.specs.Laws.{Each}
use Rattle.vd_split.specs.Block.{Block, End, Let, NewVar, NewArray, Store, Put, Output, If, For, each}
use Rattle.vd_split.specs.Joint.{and_then}
use Rattle.vd_split.specs.Suite.{picked, Made, Calls, holders_among}
use Rattle.vd_split.specs.Emission.{Emitting, Emitted, Emission, parts_at, delivered, all_moved, and_on, right_made, with_parts, with_acts, in_turn, store_made, put_made, output_made, if_made, for_made, loop_registers, after_loop_registers, stmt_emission}
use Rattle.vd_split.proofs.Front.{and_left, and_right}
use Rattle.vd_split.proofs.Front.{picked_below, picked_few}
use Rattle.vd_backend_laws.specs.Parts.{Parts, suite_calls}
use Rattle.vd_projection.specs.Fits.{IsLow, GadgetFits}
use Rattle.vd_projection.proofs.Bounds.{low_more, gadgets_fit}
use Rattle.vd_projection.proofs.Clear.{register_fits}
use Rattle.vd_projection.proofs.Fits.{PlanFits, plan_wider, plans_fit, acts_fit}
use Rattle.vd_projection.proofs.Calls.{SlotFits, CallFits, slot_more, places_of, IsKnown, IndexFits, literal_fits, move_fits, apply_fits, keep_fits, renew_fits, turn_fits, input_fits, output_fits, cells_fit, get_fits, put_fits}

lt_of : (a b : ℕ) → nat_lt a b ≡ true → a < b
lt_of a b h = grind (arith, nat_tests)

few_operands : (o : Op) → arity o ≤ 3
few_operands op.Add = omega arith
few_operands op.Sub = omega arith
few_operands op.Mul = omega arith
few_operands (op.Scale k) = omega arith
few_operands op.Div = omega arith
few_operands op.Rem = omega arith
few_operands op.And = omega arith
few_operands op.Or = omega arith
few_operands op.Xor = omega arith
few_operands op.Not = omega arith
few_operands op.Flip = omega arith
few_operands (op.Shl k) = omega arith
few_operands (op.Shr k) = omega arith
few_operands op.Eq = omega arith
few_operands op.Ne = omega arith
few_operands op.Lt = omega arith
few_operands op.Le = omega arith
few_operands op.Min = omega arith
few_operands op.Max = omega arith
few_operands op.Mux = omega arith

-- the registers that a block takes of a host, at most, and its statements
abbrev pub cost : Block → ℕ
cost End = 0
cost (Let x r rest) = 2560 + cost rest
cost (NewVar v x rest) = 2560 + cost rest
cost (NewArray v cells rest) = 2560 + 8 * cells + cost rest
cost (Store v x rest) = 2560 + cost rest
cost (Put v i x rest) = 2560 + cost rest
cost (Output x h offset rest) = 2560 + cost rest
cost (If x first other offset rest) = 2560 + cost first + cost other + cost rest
cost (For count body rest) = 2560 + cost body + cost rest

abbrev pub size : Block → ℕ
size End = 0
size (Let x r rest) = 1 + size rest
size (NewVar v x rest) = 1 + size rest
size (NewArray v cells rest) = 1 + size rest
size (Store v x rest) = 1 + size rest
size (Put v i x rest) = 1 + size rest
size (Output x h offset rest) = 1 + size rest
size (If x first other offset rest) = 1 + size first + size other + size rest
size (For count body rest) = 1 + size body + size rest

abbrev pub holds : (Stmt-F Bool → Bool) → Block → Bool
holds test b = list_all (λ x. x) (each (λ s. test s && blocks_meet s) b)

module _ (hosts N : ℕ) (proto : ℕ → Proto) (known : (x : ℕ) → IsKnown hosts N (proto x)) (few : hosts ≤ 4) where
  abbrev s : Calls Gadget Parts
  s = suite_calls hosts

  -- all registers are at most so many
  pub record StateFits (n : ℕ) (e : Emitting (suite_calls hosts) proto) : Type 0 where
    pub next : IsLow n e.next
    pub held : Each (SlotFits hosts N n) e.held
    pub loop : IsLow n e.loop

  pub record BlockFits (d n : ℕ) (made : Emitted (suite_calls hosts) proto) : Type 0 where
    pub plan : PlanFits hosts N d made.tree
    pub state : StateFits n made.state

  held_more : (m n : ℕ) (held : List Parts) → m ≤ n → Each (SlotFits hosts N m) held → Each (SlotFits hosts N n) held
  held_more m n [] le f = tt
  held_more m n (x ∷ held) le f = (slot_more hosts N m n x le f.0, held_more m n held le f.1)

  held_one : (n : ℕ) (held : List Parts) (x : Parts) → Each (SlotFits hosts N n) held → SlotFits hosts N n x → Each (SlotFits hosts N n) (held ++ x ∷ [])
  held_one n [] x f g = (g, tt)
  held_one n (y ∷ held) x f g = (f.0, held_one n held x f.1 g)

  held_at : (n : ℕ) (held : List Parts) (i : ℕ) → Each (SlotFits hosts N n) held → SlotFits hosts N n (slice_index_or held i (record { at = []; size = 0 }))
  held_at n [] i f = record { size = omega arith; parts = record { few = omega arith; at = tt } }
  held_at n (x ∷ held) zero f = f.0
  held_at n (x ∷ held) (suc i) f = held_at n held i f.1

  state_more : (m n : ℕ) (e : Emitting (suite_calls hosts) proto) → m ≤ n → StateFits m e → StateFits n e
  state_more m n e le f = record { next = low_more m n e.next le f.next; held = held_more m n e.held le f.held; loop = low_more m n e.loop le f.loop }

  parts_fit : (n : ℕ) (e : Emitting (suite_calls hosts) proto) (x : SlotId) → StateFits n e → SlotFits hosts N n (parts_at s proto e x)
  parts_fit n e x f = held_at n e.held x.0 f.held

  -- one call, and then another
  call_then : (a n : ℕ) (one rest : Made Gadget Parts) → CallFits hosts N a one → CallFits hosts N n rest
      → CallFits hosts N n (record { given = rest.given; acts = one.acts ++ rest.acts; next = rest.next })
  call_then a n one rest f g = record { low = g.low; given = g.given; acts = gadgets_fit hosts N one.acts rest.acts f.acts g.acts }

  record AllFit (n : ℕ) (made : Made Gadget (List Parts)) : Type 0 where
    low : IsLow n made.next
    given : Each (SlotFits hosts N n) made.given
    acts : Each (GadgetFits hosts N) made.acts

  record IndexMade (n : ℕ) (made : Made Gadget (List (ℕ × ℕ))) : Type 0 where
    low : IsLow n made.next
    given : IndexFits hosts N n made.given
    acts : Each (GadgetFits hosts N) made.acts

  operands_moved : (q : Proto) → IsKnown hosts N q → (e : Emitting (suite_calls hosts) proto) (k : ℕ) → StateFits k e → (xs : List SlotId) (m n : ℕ) (next : List ℕ) → k ≤ m → m + 384 * length xs ≤ n → n ≤ N → IsLow m next
      → AllFit n (all_moved s proto q e xs next)
  operands_moved q onto e k f [] m n next le more most low = record { low = low_more m n next (omega (arith, more)) low; given = tt; acts = tt }
  operands_moved q onto e k f (x ∷ xs) m n next le more most low =
      let one = move_fits hosts N (proto x.0) q (known x.0) onto (parts_at s proto e x) m (m + 384) next (slot_more hosts N k m (parts_at s proto e x) le (parts_fit k e x f)) (omega arith) (first (length xs) more) low in
      let moved = s.move (proto x.0) q (parts_at s proto e x) next in
      let rest = operands_moved q onto e k f xs (m + 384) n moved.next (omega (arith, le)) (others (length xs) more) most one.low in
      record {
        low = rest.low;
        given = (slot_more hosts N (m + 384) n moved.given (wide (length xs) more) one.given, rest.given);
        acts = gadgets_fit hosts N moved.acts (all_moved s proto q e xs moved.next).acts one.acts rest.acts;
      }
    where
      first : (l : ℕ) → m + 384 * suc l ≤ n → m + 384 ≤ N
      first l e = omega (arith, e, most)

      others : (l : ℕ) → m + 384 * suc l ≤ n → m + 384 + 384 * l ≤ n
      others l e = omega (arith, e)

      wide : (l : ℕ) → m + 384 * suc l ≤ n → m + 384 ≤ n
      wide l e = omega (arith, e)

  word_delivered : (p : Proto) → IsKnown hosts N p → (x : Parts) (k : ℕ) → SlotFits hosts N k x → (hs : List HostId) → Each (λ (h : HostId). h.0 < hosts) hs → (m n : ℕ) (next : List ℕ) → k ≤ m → m + 384 * length hs ≤ n → n ≤ N → IsLow m next
      → IndexMade n (delivered s proto p x hs next)
  word_delivered p from x k f [] there m n next le more most low = record { low = low_more m n next (omega (arith, more)) low; given = tt; acts = tt }
  word_delivered p from x k f (h ∷ hs) there m n next le more most low =
      let one = move_fits hosts N p (Local h) from (there.0, tt) x m (m + 384) next (slot_more hosts N k m x le f) (omega arith) (first (length hs) more) low in
      let moved = s.move p (Local h) x next in
      let rest = word_delivered p from x k f hs there.1 (m + 384) n moved.next (omega (arith, le)) (others (length hs) more) most one.low in
      let r = register_fits hosts N 0 (m + 384) moved.given.at h.0 (omega arith) (places_of hosts N (m + 384) moved.given one.given) in
      record {
        low = rest.low;
        given = (wide (length hs) _ more r, rest.given);
        acts = gadgets_fit hosts N moved.acts (delivered s proto p x hs moved.next).acts one.acts rest.acts;
      }
    where
      first : (l : ℕ) → m + 384 * suc l ≤ n → m + 384 ≤ N
      first l e = omega (arith, e, most)

      others : (l : ℕ) → m + 384 * suc l ≤ n → m + 384 + 384 * l ≤ n
      others l e = omega (arith, e)

      wide : (l r : ℕ) → m + 384 * suc l ≤ n → r + 0 ≤ m + 384 → r ≤ n
      wide l r e g = omega (arith, e, g)

  -- a word is delivered to some of the hosts
  told_some : (test : ℕ → Bool) (p : Proto) → IsKnown hosts N p → (x : Parts) (m n : ℕ) (next : List ℕ) → SlotFits hosts N m x → m + 1536 ≤ n → n ≤ N → IsLow m next
      → IndexMade n (delivered s proto p x (picked 0 hosts test) next)
  told_some test p from x m n next f more most low =
      let many = picked_few test 0 hosts in
      word_delivered p from x m f (picked 0 hosts test) (below (picked_below test 0 hosts)) m n next (omega arith) (enough (length (picked 0 hosts test)) many) most low
    where
      below : Each (λ (h : HostId). h.0 < 0 + hosts) (picked 0 hosts test) → Each (λ (h : HostId). h.0 < hosts) (picked 0 hosts test)
      below e = subst (λ (k : ℕ). Each (λ (h : HostId). h.0 < k) (picked 0 hosts test)) none e
        where
          none : 0 + hosts ≡ hosts
          none = omega arith

      enough : (l : ℕ) → l ≤ hosts → m + 384 * l ≤ n
      enough l le = omega (arith, le, few, more)

  right_fits : (q : Proto) → IsKnown hosts N q → (r : Right) → operands_fit r ≡ true → ((x : SlotId) → host_is_declared hosts (Stmt-F.Let x r) ≡ true)
      → (e : Emitting (suite_calls hosts) proto) (m n : ℕ) → StateFits m e → m + 2560 ≤ n → n ≤ N → CallFits hosts N n (right_made s proto q r e)
  right_fits q onto (Lit v) operands declared e m n f more most = literal_fits hosts N q onto v m n e.next (omega (arith, more)) most f.next
  right_fits q onto Turn operands declared e m n f more most = turn_fits hosts N q onto e.loop m n e.next f.loop (omega (arith, more)) most f.next
  right_fits q onto (Copy y) operands declared e m n f more most = move_fits hosts N (proto y.0) q (known y.0) onto (parts_at s proto e y) m n e.next (parts_fit m e y f) (omega (arith, more)) most f.next
  right_fits q onto (Apply o ys) operands declared e m n f more most =
      let many : length ys ≡ arity o = eqb-true (length ys) (arity o) operands in
      let three = few_operands o in
      let a = m + 384 * length ys in
      let moved = operands_moved q onto e m f ys m a e.next (omega arith) (omega arith) (within (length ys) (arity o) many three) f.next in
      let all = all_moved s proto q e ys e.next in
      let applied = apply_fits hosts N o q onto all.given a n all.next moved.given (within_more (length ys) (arity o) many three) most moved.low in
      record { low = applied.low; given = applied.given; acts = gadgets_fit hosts N all.acts (s.apply o q all.given all.next).acts moved.acts applied.acts }
    where
      within : (l k : ℕ) → l ≡ k → k ≤ 3 → m + 384 * l ≤ N
      within l k e g = omega (arith, e, g, more, most)

      within_more : (l k : ℕ) → l ≡ k → k ≤ 3 → m + 384 * l + 384 ≤ n
      within_more l k e g = omega (arith, e, g, more)
  right_fits q onto (Input h) operands declared e m n f more most = input_fits hosts N h (lt_of h.0 hosts (declared (record { 0 = 0 }))) m n e.next (omega (arith, more)) most f.next
  right_fits q onto (Declassify y to) operands declared e m n f more most = move_fits hosts N (proto y.0) q (known y.0) onto (parts_at s proto e y) m n e.next (parts_fit m e y f) (omega (arith, more)) most f.next
  right_fits q onto (Endorse y to) operands declared e m n f more most = move_fits hosts N (proto y.0) q (known y.0) onto (parts_at s proto e y) m n e.next (parts_fit m e y f) (omega (arith, more)) most f.next
  right_fits q onto (Load v) operands declared e m n f more most =
      let p = proto v.0 in
      let kept = s.keep p (parts_at s proto e v) e.next in
      let one = keep_fits hosts N p (known v.0) (parts_at s proto e v) m (m + 384) e.next (parts_fit m e v f) (omega arith) (omega (arith, more, most)) f.next in
      let two = move_fits hosts N p q (known v.0) onto kept.given (m + 384) n kept.next one.given (omega (arith, more)) most one.low in
      call_then (m + 384) n kept (s.move p q kept.given kept.next) one two
  right_fits q onto (Get v i) operands declared e m n f more most =
      let p = proto v.0 in
      let index = delivered s proto (proto i.0) (parts_at s proto e i) (holders_among s p) e.next in
      let told = told_some (λ h. is_holder p (host h)) (proto i.0) (known i.0) (parts_at s proto e i) m (m + 1536) e.next (parts_fit m e i f) (omega arith) (omega (arith, more, most)) f.next in
      let read = s.get p (parts_at s proto e v) index.given index.next in
      let one = get_fits hosts N p (known v.0) (parts_at s proto e v) index.given (m + 1536) (m + 1920) index.next (slot_more hosts N m (m + 1536) (parts_at s proto e v) (omega arith) (parts_fit m e v f)) told.given (omega arith) (omega (arith, more, most)) told.low in
      let two = move_fits hosts N p q (known v.0) onto read.given (m + 1920) n read.next one.given (omega (arith, more)) most one.low in
      record {
        low = two.low;
        given = two.given;
        acts = gadgets_fit hosts N (index.acts ++ read.acts) (s.move p q read.given read.next).acts (gadgets_fit hosts N index.acts read.acts told.acts one.acts) two.acts;
      }

  -- ---- statements

  slot_fits : (made : Made Gadget Parts) (m n : ℕ) (e : Emitting (suite_calls hosts) proto) → m ≤ n → StateFits m e → CallFits hosts N n made → BlockFits 0 n (with_parts s proto made e)
  slot_fits made m n e le f g = record {
    plan = acts_fit hosts N 0 made.acts Ends g.acts tt;
    state = record { next = g.low; held = held_one n e.held made.given (held_more m n e.held le f.held) g.given; loop = low_more m n e.loop le f.loop };
  }

  acts_alone : (acts : List Gadget) (next : List ℕ) (m n : ℕ) (e : Emitting (suite_calls hosts) proto) → m ≤ n → StateFits m e → Each (GadgetFits hosts N) acts → IsLow n next → BlockFits 0 n (with_acts s proto acts next e)
  acts_alone acts next m n e le f g low = record {
    plan = acts_fit hosts N 0 acts Ends g tt;
    state = record { next = low; held = held_more m n e.held le f.held; loop = low_more m n e.loop le f.loop };
  }

  -- one statement, and then others
  then_fits : (c d k a n : ℕ) (one more : Emitted (suite_calls hosts) proto) → c ≤ k → d ≤ k → BlockFits c a one → BlockFits d n more
      → BlockFits k n (record { tree = and_then one.tree more.tree; state = more.state })
  then_fits c d k a n one more le le' f g = record {
    plan = plans_fit hosts N k one.tree more.tree (plan_wider hosts N c k one.tree le f.plan) (plan_wider hosts N d k more.tree le' g.plan);
    state = g.state;
  }

  regs_fit : (n : ℕ) (at : List (ℕ × ℕ)) → n < N → IndexFits hosts N n at → Each (λ (p : ℕ × ℕ). p.1 < N) at
  regs_fit n [] lt f = tt
  regs_fit n (p ∷ at) lt f = (let q = f.0 in omega (arith, q, lt), regs_fit n at lt f.1)

  loop_fits : (has : ℕ → Bool) (k m : ℕ) (next : List ℕ) → m < N → IsLow m next → Each (λ (p : ℕ × ℕ). p.1 < N) (loop_registers has k next)
  loop_fits has k m [] lt low = tt
  loop_fits has k m (r ∷ rs) lt low = at (has k) (loop_fits has (k + 1) m rs lt (λ h. low (suc h)))
    where
      at : (b : Bool) → Each (λ (p : ℕ × ℕ). p.1 < N) (loop_registers has (k + 1) rs) → Each (λ (p : ℕ × ℕ). p.1 < N) (if b then (k, r) ∷ loop_registers has (k + 1) rs else loop_registers has (k + 1) rs)
      at true e = (let z = low 0 in omega (arith, z, lt), e)
      at false e = e

  after_low : (has : ℕ → Bool) (k m : ℕ) (next : List ℕ) → IsLow m next → IsLow (m + 1) (after_loop_registers has k next)
  after_low has k m [] low h = omega arith
  after_low has k m (r ∷ rs) low zero = at (has k)
    where
      at : (b : Bool) → (if b then r + 1 else r) ≤ m + 1
      at true = let z = low 0 in omega (arith, z)
      at false = let z = low 0 in omega (arith, z)
  after_low has k m (r ∷ rs) low (suc h) = after_low has (k + 1) m rs (λ j. low (suc j)) h

  abbrev pub emission_of : Block → Emission (suite_calls hosts) proto
  emission_of b = in_turn s proto (each (stmt_emission s proto) b)

  abbrev Goes : Block → Type 0
  Goes b =
      holds (of_rights operands_fit) b ≡ true → holds (host_is_declared hosts) b ≡ true → (e : Emitting (suite_calls hosts) proto) (m n : ℕ) → StateFits m e → m + cost b ≤ n → n < N
      → BlockFits (size b) n ((emission_of b).emit e)

  declared_at : (r : Right) (x y : SlotId) → host_is_declared hosts (Stmt-F.Let x r) ≡ true → host_is_declared hosts (Stmt-F.Let y r) ≡ true
  declared_at (Lit n) x y h = refl
  declared_at Turn x y h = refl
  declared_at (Copy z) x y h = refl
  declared_at (Apply o ys) x y h = refl
  declared_at (Input k) x y h = h
  declared_at (Declassify z to) x y h = refl
  declared_at (Endorse z to) x y h = refl
  declared_at (Load v) x y h = refl
  declared_at (Get v i) x y h = refl

  -- a statement that takes no more than a call may, and the others
  simple : (rest : Block) → Goes rest → holds (of_rights operands_fit) rest ≡ true → holds (host_is_declared hosts) rest ≡ true → (one : Emitted (suite_calls hosts) proto) (a n : ℕ) → BlockFits 0 a one → a + cost rest ≤ n → n < N
      → BlockFits (1 + size rest) n (record { tree = and_then one.tree ((emission_of rest).emit one.state).tree; state = ((emission_of rest).emit one.state).state })
  simple rest goes p q one a n f more most =
      then_fits 0 (size rest) (1 + size rest) a n one ((emission_of rest).emit one.state) (omega arith) (omega arith) f (goes p q one.state a n f.state more most)

  regroup : (m c n : ℕ) → m + (2560 + c) ≤ n → m + 2560 + c ≤ n
  regroup m c n le = omega (arith, le)

  at_most : (m c n : ℕ) → m + (2560 + c) ≤ n → n < N → m + 2560 ≤ N
  at_most m c n le lt = omega (arith, le, lt)

  under : (m c n : ℕ) → m + (2560 + c) ≤ n → n < N → m + 2560 < N
  under m c n le lt = omega (arith, le, lt)

  pub block_fits : (b : Block) → Goes b
  block_fits End p q e m n f more most = record { plan = tt; state = state_more m n e (omega (arith, more)) f }
  block_fits (Let x r rest) p q e m n f more most =
      let p' = and_left (operands_fit r && true) (holds (of_rights operands_fit) rest) p in
      let q' = and_left (host_is_declared hosts (Stmt-F.Let x r) && true) (holds (host_is_declared hosts) rest) q in
      let made = right_made s proto (proto x.0) r e in
      let one = right_fits (proto x.0) (known x.0) r (and_left (operands_fit r) true p') (λ y. declared_at r x y (and_left (host_is_declared hosts (Stmt-F.Let x r)) true q')) e m (m + 2560) f (omega arith) (at_most m (cost rest) n more most) in
      simple rest (block_fits rest) (and_right (operands_fit r && true) (holds (of_rights operands_fit) rest) p) (and_right (host_is_declared hosts (Stmt-F.Let x r) && true) (holds (host_is_declared hosts) rest) q)
      (with_parts s proto made e) (m + 2560) n (slot_fits made m (m + 2560) e (omega arith) f one) (regroup m (cost rest) n more) most
  block_fits (NewVar v x rest) p q e m n f more most =
      let moved = s.move (proto x.0) (proto v.0) (parts_at s proto e x) e.next in
      let one = move_fits hosts N (proto x.0) (proto v.0) (known x.0) (known v.0) (parts_at s proto e x) m (m + 384) e.next (parts_fit m e x f) (omega arith) (let z = at_most m (cost rest) n more most in omega (arith, z)) f.next in
      let two = keep_fits hosts N (proto v.0) (known v.0) moved.given (m + 384) (m + 2560) moved.next one.given (omega arith) (at_most m (cost rest) n more most) one.low in
      let made = and_on s proto moved (s.keep (proto v.0)) in
      simple rest (block_fits rest) p q (with_parts s proto made e) (m + 2560) n
      (slot_fits made m (m + 2560) e (omega arith) f (call_then (m + 384) (m + 2560) moved (s.keep (proto v.0) moved.given moved.next) one two)) (regroup m (cost rest) n more) most
  block_fits (NewArray v cells rest) p q e m n f more most =
      let made = s.cells (proto v.0) cells e.next in
      let a = m + 2560 + 8 * cells in
      simple rest (block_fits rest) p q (with_parts s proto made e) a n
      (slot_fits made m a e (omega arith) f (cells_fit hosts N (proto v.0) (known v.0) cells m a e.next (omega arith) (low cells (cost rest) more) f.next)) (group cells (cost rest) more) most
    where
      low : (k c : ℕ) → m + (2560 + 8 * k + c) ≤ n → m + 2560 + 8 * k < N
      low k c le = omega (arith, le, most)

      group : (k c : ℕ) → m + (2560 + 8 * k + c) ≤ n → m + 2560 + 8 * k + c ≤ n
      group k c le = omega (arith, le)
  block_fits (Store v x rest) p q e m n f more most =
      let a = m + 2560 in
      let moved = s.move (proto x.0) (proto v.0) (parts_at s proto e x) e.next in
      let one = move_fits hosts N (proto x.0) (proto v.0) (known x.0) (known v.0) (parts_at s proto e x) m a e.next (parts_fit m e x f) (omega arith) (at_most m (cost rest) n more most) f.next in
      let renewed = renew_fits hosts N (proto v.0) (known v.0) (parts_at s proto e v) moved.given a (slot_more hosts N m a (parts_at s proto e v) (omega arith) (parts_fit m e v f)) one.given (under m (cost rest) n more most) in
      simple rest (block_fits rest) p q (store_made s proto v x e) a n
      (acts_alone (moved.acts ++ s.renew (proto v.0) (parts_at s proto e v) moved.given) moved.next m a e (omega arith) f
      (gadgets_fit hosts N moved.acts (s.renew (proto v.0) (parts_at s proto e v) moved.given) one.acts renewed) one.low) (regroup m (cost rest) n more) most
  block_fits (Put v i x rest) p q e m n f more most =
      let a = m + 2560 in
      let t = proto v.0 in
      let index = delivered s proto (proto i.0) (parts_at s proto e i) (holders_among s t) e.next in
      let told = told_some (λ h. is_holder t (host h)) (proto i.0) (known i.0) (parts_at s proto e i) m (m + 1536) e.next (parts_fit m e i f) (omega arith) (let z = at_most m (cost rest) n more most in omega (arith, z)) f.next in
      let moved = s.move (proto x.0) t (parts_at s proto e x) index.next in
      let one = move_fits hosts N (proto x.0) t (known x.0) (known v.0) (parts_at s proto e x) (m + 1536) a index.next (slot_more hosts N m (m + 1536) (parts_at s proto e x) (omega arith) (parts_fit m e x f)) (omega arith) (at_most m (cost rest) n more most) told.low in
      let written = put_fits hosts N t (parts_at s proto e v) index.given moved.given a (slot_more hosts N m a (parts_at s proto e v) (omega arith) (parts_fit m e v f)) (index_more (m + 1536) a index.given (omega arith) told.given) one.given (under m (cost rest) n more most) in
      simple rest (block_fits rest) p q (put_made s proto v i x e) a n
      (acts_alone ((index.acts ++ moved.acts) ++ s.put t (parts_at s proto e v) index.given moved.given) moved.next m a e (omega arith) f
      (gadgets_fit hosts N (index.acts ++ moved.acts) (s.put t (parts_at s proto e v) index.given moved.given) (gadgets_fit hosts N index.acts moved.acts told.acts one.acts) written) one.low) (regroup m (cost rest) n more) most
    where
      index_more : (k n : ℕ) (at : List (ℕ × ℕ)) → k ≤ n → IndexFits hosts N k at → IndexFits hosts N n at
      index_more k n [] le f = tt
      index_more k n (p ∷ at) le f = (let z = f.0 in omega (arith, z, le), index_more k n at le f.1)
  block_fits (Output x h offset rest) p q e m n f more most =
      let a = m + 2560 in
      let q' = and_left (nat_lt h.0 hosts && true) (holds (host_is_declared hosts) rest) q in
      let there = lt_of h.0 hosts (and_left (nat_lt h.0 hosts) true q') in
      let moved = s.move (proto x.0) (Local h) (parts_at s proto e x) e.next in
      let one = move_fits hosts N (proto x.0) (Local h) (known x.0) (there, tt) (parts_at s proto e x) m a e.next (parts_fit m e x f) (omega arith) (at_most m (cost rest) n more most) f.next in
      simple rest (block_fits rest) p (and_right (nat_lt h.0 hosts && true) (holds (host_is_declared hosts) rest) q) (output_made s proto x h e) a n
      (acts_alone (moved.acts ++ s.output h moved.given) moved.next m a e (omega arith) f
      (gadgets_fit hosts N moved.acts (s.output h moved.given) one.acts (output_fits hosts N h moved.given a one.given (under m (cost rest) n more most))) one.low) (regroup m (cost rest) n more) most
  block_fits (If x first other offset rest) p q e m n f more most =
      let test : ℕ → Bool = λ h. (emission_of first).takes_part h || (emission_of other).takes_part h in
      let guard = delivered s proto (proto x.0) (parts_at s proto e x) (picked 0 hosts test) e.next in
      let a = m + 2560 in
      let b = a + cost first in
      let c = b + cost other in
      let told = told_some test (proto x.0) (known x.0) (parts_at s proto e x) m a e.next (parts_fit m e x f) (omega arith) (within _ _ _ more) f.next in
      let inner : Emitting (suite_calls hosts) proto = record { next = guard.next; held = e.held; loop = e.loop } in
      let there : StateFits a inner = record { next = told.low; held = held_more m a e.held (omega arith) f.held; loop = low_more m a e.loop (omega arith) f.loop } in
      let p' = and_left _ _ p in
      let q' = and_left _ _ q in
      let one = block_fits first (and_left _ _ p') (and_left _ _ q') inner a b there (omega arith) (within_first _ _ _ more) in
      let two = block_fits other (and_right _ _ p') (and_right _ _ q') ((emission_of first).emit inner).state b c one.state (omega arith) (within_other _ _ _ more) in
      let d = 1 + size first + size other in
      let made = if_made s proto x (emission_of first) (emission_of other) e in
      let whole : BlockFits (1 + size first + size other) c made = record {
        plan = acts_fit hosts N d guard.acts (Branch guard.given ((emission_of first).emit inner).tree ((emission_of other).emit ((emission_of first).emit inner).state).tree Ends) told.acts (
          regs_fit a guard.given (under_first _ _ _ more) told.given,
          (
            size first + size other,
            omega arith,
            plan_wider hosts N (size first) (size first + size other) ((emission_of first).emit inner).tree (omega arith) one.plan,
            plan_wider hosts N (size other) (size first + size other) ((emission_of other).emit ((emission_of first).emit inner).state).tree (omega arith) two.plan,
          ),
          tt,
        );
        state = two.state;
      } in
      then_fits d (size rest) (1 + size first + size other + size rest) c n made ((emission_of rest).emit made.state) (omega arith) (omega arith) whole
      (block_fits rest (and_right _ _ p) (and_right _ _ q) made.state c n two.state (group _ _ _ more) most)
    where
      within : (x y z : ℕ) → m + (2560 + x + y + z) ≤ n → m + 2560 ≤ N
      within x y z le = omega (arith, le, most)

      under_first : (x y z : ℕ) → m + (2560 + x + y + z) ≤ n → m + 2560 < N
      under_first x y z le = omega (arith, le, most)

      within_first : (x y z : ℕ) → m + (2560 + x + y + z) ≤ n → m + 2560 + x < N
      within_first x y z le = omega (arith, le, most)

      within_other : (x y z : ℕ) → m + (2560 + x + y + z) ≤ n → m + 2560 + x + y < N
      within_other x y z le = omega (arith, le, most)

      group : (x y z : ℕ) → m + (2560 + x + y + z) ≤ n → m + 2560 + x + y + z ≤ n
      group x y z le = omega (arith, le)
  block_fits (For count body rest) p q e m n f more most =
      let has = (emission_of body).acts_at in
      let a = m + 2560 in
      let b = a + cost body in
      let inner : Emitting (suite_calls hosts) proto = record { next = after_loop_registers has 0 e.next; held = e.held; loop = e.next } in
      let there : StateFits a inner = record { next = low_more (m + 1) a (after_loop_registers has 0 e.next) (omega arith) (after_low has 0 m e.next f.next); held = held_more m a e.held (omega arith) f.held; loop = low_more m a e.next (omega arith) f.next } in
      let one = block_fits body (and_left _ _ p) (and_left _ _ q) inner a b there (omega arith) (within_body _ _ more) in
      let made = for_made s proto count (emission_of body) e in
      let whole : BlockFits (1 + size body) b made = record {
        plan = (loop_fits has 0 m e.next (under_body _ _ more) f.next, (size body, omega arith, one.plan), tt);
        state = record { next = one.state.next; held = one.state.held; loop = low_more m b e.loop (omega arith) f.loop };
      } in
      then_fits (1 + size body) (size rest) (1 + size body + size rest) b n made ((emission_of rest).emit made.state) (omega arith) (omega arith) whole
      (block_fits rest (and_right _ _ p) (and_right _ _ q) made.state b n whole.state (group _ _ more) most)
    where
      within_body : (x z : ℕ) → m + (2560 + x + z) ≤ n → m + 2560 + x < N
      within_body x z le = omega (arith, le, most)

      under_body : (x z : ℕ) → m + (2560 + x + z) ≤ n → m < N
      under_body x z le = omega (arith, le, most)

      group : (x z : ℕ) → m + (2560 + x + z) ≤ n → m + 2560 + x + z ≤ n
      group x z le = omega (arith, le)
