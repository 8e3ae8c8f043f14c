-- What statements are emitted as takes few steps, by their weights.
use Rattle.std.proofs.Common.{◌≡◌, ℕ, zero, suc, ◌+◌, ◌*◌, ◌<◌, ◌≤◌, ◌^◌, nat_lt, Bool, true, false, ◌&&◌, ◌||◌, List, [], ◌∷◌, ◌++◌, length, slice_index_or, refl, sym, ap, subst, ◌∙◌, lit≤, mul-le-mul_left, arith}
use Rattle.std.specs.List.{sum}
use Rattle.std.proofs.lemmas.Bool.{eqb-true}
use Rattle.std.proofs.lemmas.List.Sums.{sum_by-cons}
use Rattle.vd_base.specs.Arity.{arity}
use Rattle.vd_base.specs.HostSets.{host}
use Rattle.vd_base.specs.Limits.{most_cells}
use Rattle.vd_base.specs.declared.ids.HostId.{HostId}
use Rattle.vd_base.specs.declared.ids.SlotId.{SlotId}
use Rattle.vd_base.specs.declared.protocols.Proto.{Proto}
use Rattle.vd_base.specs.declared.protocols.Proto.TheVariants.{Local}
use Rattle.vd_base.specs.Holders.{is_holder}
use Rattle.vd_core.specs.declared.normal.Right.{Right}
use Rattle.vd_core.specs.declared.normal.Right.TheVariants.{Lit, Turn, Copy, Apply, Input, Declassify, Endorse, Load, Get}
use Rattle.vd_core.specs.Facts.{of_rights, operands_fit, shift_fits, count_step, cells_step, weigh_step, weigh_all}
use Rattle.vd_space.proofs.Front.{weigh_next, few_operands}
use Rattle.vd_execution.specs.Gadgets.{Gadget}
use Rattle.vd_execution.specs.Plans.{Plan, Ends, Then, Branch, Loop}
use Rattle.vd_duet.specs.Laws.{Each}
use Rattle.vd_split.specs.Block.{Block, End, Let, NewVar, NewArray, Store, Put, Output, If, For, each}
use Rattle.vd_split.specs.Joint.{acts_then, and_then}
use Rattle.vd_split.specs.Suite.{picked, Made, Calls, holders_among}
use Rattle.vd_split.specs.Emission.{Emitting, Emitted, Emission, parts_at, delivered, all_moved, and_on, right_made, with_parts, in_turn, store_made, put_made, output_made, if_made, for_made, loop_registers, after_loop_registers, stmt_emission}
use Rattle.vd_split.proofs.Front.{and_left, and_right}
use Rattle.vd_split.proofs.Front.{picked_few}
use Rattle.vd_backend_laws.specs.Parts.{Parts, suite_calls}
use Rattle.vd_projection.proofs.Blocks.{holds}
use Rattle.vd_core.specs.Numbers.{number_fits, numbers_fit}
use Rattle.vd_projection.proofs.Numbers.{below}
use Rattle.vd_projection.proofs.Few.{GadgetIsSmall, AreFew, few_none, few_more, few_both, bulk}
use Rattle.vd_projection.proofs.FewCalls.{SlotIsSmall, CallIsFew, literal_few, apply_few, keep_few, renew_few, move_few, turn_few, input_few, output_few, cells_few, get_few, put_few}
use Rattle.vd_projection.proofs.Bulk.{plan_bulk, plans_bulk, gadgets_bulk}
use Rattle.vd_projection.proofs.Steps.{steps, steps_both, steps_acts}

-- ---- plans

-- all gadgets are small, and a loop has a word of turns
abbrev pub PlanIsSmall : Plan Gadget → Type 0
PlanIsSmall Ends = Unit {0}
PlanIsSmall (Then g rest) = GadgetIsSmall g × PlanIsSmall rest
PlanIsSmall (Branch ps first other rest) = PlanIsSmall first × (PlanIsSmall other × PlanIsSmall rest)
PlanIsSmall (Loop ps count body rest) = (count < 2 ^ 32) × (PlanIsSmall body × PlanIsSmall rest)

plans_small : (p q : Plan Gadget) → PlanIsSmall p → PlanIsSmall q → PlanIsSmall (and_then p q)
plans_small Ends q f g = g
plans_small (Then x rest) q f g = (f.0, plans_small rest q f.1 g)
plans_small (Branch ps first other rest) q f g = (f.0, (f.1.0, plans_small rest q f.1.1 g))
plans_small (Loop ps count body rest) q f g = (f.0, (f.1.0, plans_small rest q f.1.1 g))

acts_small : (gs : List Gadget) (p : Plan Gadget) → Each GadgetIsSmall gs → PlanIsSmall p → PlanIsSmall (acts_then gs p)
acts_small [] p f g = g
acts_small (x ∷ gs) p f g = (f.0, acts_small gs p f.1 g)

-- ---- the weights of blocks

abbrev pub weight_of : ℕ → Block → ℕ
weight_of around b = weigh_all (each weigh_step b) around

abbrev pub counted : Block → ℕ
counted b = sum (each count_step b)

abbrev pub cells_in : Block → ℕ
cells_in b = sum (each cells_step b)

cells_next : (k : ℕ) (ks : List ℕ) → sum (k ∷ ks) ≡ k + sum ks
cells_next k ks = sum_by-cons (λ (n : ℕ). n) k ks

-- once for each statement of the block itself
abbrev tops : ℕ → Block → ℕ
tops n End = 0
tops n (Let x r rest) = n + tops n rest
tops n (NewVar v x rest) = n + tops n rest
tops n (NewArray v cells rest) = n + tops n rest
tops n (Store v x rest) = n + tops n rest
tops n (Put v i x rest) = n + tops n rest
tops n (Output x h offset rest) = n + tops n rest
tops n (If x first other offset rest) = n + tops n rest
tops n (For count body rest) = n + tops n rest

module _ (hosts : ℕ) (proto : ℕ → Proto) (few_hosts : hosts ≤ 4) where
  abbrev s : Calls Gadget Parts
  s = suite_calls hosts

  abbrev State : Type 0
  State = Emitting (suite_calls hosts) proto

  abbrev SlotsAreSmall : State → Type 0
  SlotsAreSmall e = Each SlotIsSmall e.held

  pub record BlockIsSmall (b : Block) (made : Emitted (suite_calls hosts) proto) : Type 0 where
    pub plan : PlanIsSmall made.tree
    pub held : Each SlotIsSmall made.state.held
    pub steps_are : (n : ℕ) → steps n made.tree + tops n b ≤ 65000 * weight_of n b
    pub lines_are : plan_bulk made.tree ≤ 2043 * counted b

  held_one : (held : List Parts) (x : Parts) → Each SlotIsSmall held → SlotIsSmall x → Each SlotIsSmall (held ++ x ∷ [])
  held_one [] x f g = (g, tt)
  held_one (y ∷ held) x f g = (f.0, held_one held x f.1 g)

  held_at : (held : List Parts) (i : ℕ) → Each SlotIsSmall held → SlotIsSmall (slice_index_or held i (record { at = []; size = 0 }))
  held_at [] i f = record { few = omega arith; size = omega arith }
  held_at (x ∷ held) zero f = f.0
  held_at (x ∷ held) (suc i) f = held_at held i f.1

  slot_of : (e : State) (x : SlotId) → SlotsAreSmall e → SlotIsSmall (parts_at s proto e x)
  slot_of e x f = held_at e.held x.0 f

  -- ---- several moves

  moved_few : (q : Proto) (e : State) → SlotsAreSmall e → (xs : List SlotId) (next : List ℕ) → AreFew (340 * length xs) (all_moved s proto q e xs next).acts
  moved_few q e f [] next = few_none 0
  moved_few q e f (x ∷ xs) next =
      let one = s.move (proto x.0) q (parts_at s proto e x) next in
      let rest = all_moved s proto q e xs one.next in
      few_more (340 + 340 * length xs) (340 * suc (length xs)) (one.acts ++ rest.acts) (omega arith)
      (few_both 340 (340 * length xs) one.acts rest.acts (move_few (proto x.0) q (parts_at s proto e x) (slot_of e x f) next).acts (moved_few q e f xs one.next))

  delivered_few : (p : Proto) (x : Parts) → SlotIsSmall x → (hs : List HostId) (next : List ℕ) → AreFew (340 * length hs) (delivered s proto p x hs next).acts
  delivered_few p x f [] next = few_none 0
  delivered_few p x f (h ∷ hs) next =
      let one = s.move p (Local h) x next in
      let rest = delivered s proto p x hs one.next in
      few_more (340 + 340 * length hs) (340 * suc (length hs)) (one.acts ++ rest.acts) (omega arith)
      (few_both 340 (340 * length hs) one.acts rest.acts (move_few p (Local h) x f next).acts (delivered_few p x f hs one.next))

  -- a word is delivered to some of the hosts
  told_few : (test : ℕ → Bool) (p : Proto) (x : Parts) → SlotIsSmall x → (next : List ℕ) → AreFew 1360 (delivered s proto p x (picked 0 hosts test) next).acts
  told_few test p x f next =
      let many = picked_few test 0 hosts in
      few_more (340 * length (picked 0 hosts test)) 1360 (delivered s proto p x (picked 0 hosts test) next).acts (enough (length (picked 0 hosts test)) many) (delivered_few p x f (picked 0 hosts test) next)
    where
      enough : (l : ℕ) → l ≤ hosts → 340 * l ≤ 1360
      enough l le = omega (arith, le, few_hosts)

  -- ---- right sides

  record RightIsFew (made : Made Gadget Parts) : Type 0 where
    acts : AreFew 2040 made.acts
    given : SlotIsSmall made.given

  one_call : (made : Made Gadget Parts) → CallIsFew made → RightIsFew made
  one_call made f = record { acts = few_more 340 2040 made.acts (lit≤ tt) f.acts; given = f.given }

  right_few : (q : Proto) (r : Right) → operands_fit r ≡ true → shift_fits r ≡ true → (e : State) → SlotsAreSmall e → RightIsFew (right_made s proto q r e)
  right_few q (Lit v) operands shift e f = one_call (s.literal q v e.next) (literal_few q v e.next)
  right_few q Turn operands shift e f = one_call (s.turn q e.loop e.next) (turn_few q e.loop e.next)
  right_few q (Copy y) operands shift e f = one_call (s.move (proto y.0) q (parts_at s proto e y) e.next) (move_few (proto y.0) q (parts_at s proto e y) (slot_of e y f) e.next)
  right_few q (Apply o ys) operands shift e f =
      let many : length ys ≡ arity o = eqb-true (length ys) (arity o) operands in
      let three = few_operands o in
      let all = all_moved s proto q e ys e.next in
      let made = s.apply o q all.given all.next in
      let applied = apply_few o shift q all.given all.next in
      record {
        acts = few_more (340 * length ys + 340) 2040 (all.acts ++ made.acts) (enough (length ys) (arity o) many three)
            (few_both (340 * length ys) 340 all.acts made.acts (moved_few q e f ys e.next) applied.acts);
        given = applied.given;
      }
    where
      enough : (l k : ℕ) → l ≡ k → k ≤ 3 → 340 * l + 340 ≤ 2040
      enough l k e g = omega (arith, e, g)
  right_few q (Input h) operands shift e f = one_call (s.input h e.next) (input_few h e.next)
  right_few q (Declassify y to) operands shift e f = one_call (s.move (proto y.0) q (parts_at s proto e y) e.next) (move_few (proto y.0) q (parts_at s proto e y) (slot_of e y f) e.next)
  right_few q (Endorse y to) operands shift e f = one_call (s.move (proto y.0) q (parts_at s proto e y) e.next) (move_few (proto y.0) q (parts_at s proto e y) (slot_of e y f) e.next)
  right_few q (Load v) operands shift e f =
      let p = proto v.0 in
      let kept = s.keep p (parts_at s proto e v) e.next in
      let one = keep_few p (parts_at s proto e v) e.next in
      let moved = s.move p q kept.given kept.next in
      let two = move_few p q kept.given one.given kept.next in
      record { acts = few_more 680 2040 (kept.acts ++ moved.acts) (lit≤ tt) (few_both 340 340 kept.acts moved.acts one.acts two.acts); given = two.given }
  right_few q (Get v i) operands shift e f =
      let p = proto v.0 in
      let index = delivered s proto (proto i.0) (parts_at s proto e i) (holders_among s p) e.next in
      let told = told_few (λ h. is_holder p (host h)) (proto i.0) (parts_at s proto e i) (slot_of e i f) e.next in
      let read = s.get p (parts_at s proto e v) index.given index.next in
      let one = get_few p (parts_at s proto e v) index.given (slot_of e v f) index.next in
      let moved = s.move p q read.given read.next in
      let two = move_few p q read.given one.given read.next in
      record {
        acts = few_both 1700 340 (index.acts ++ read.acts) moved.acts (few_both 1360 340 index.acts read.acts told one.acts) two.acts;
        given = two.given;
      }

  -- ---- statements

  -- the steps of one statement that is no block
  simple_steps : (acts : List Gadget) → AreFew 2040 acts → (n : ℕ) → steps n (acts_then acts Ends) ≤ 48000 * n
  simple_steps acts f n =
      let few : length acts ≤ 2040 = f.few in
      let product : n * length acts ≤ n * 2040 = mul-le-mul_left n few in
      let same = steps_acts n acts Ends in
      omega (arith, product, same)

  abbrev pub emission_of : Block → Emission (suite_calls hosts) proto
  emission_of b = in_turn s proto (each (stmt_emission s proto) b)

  abbrev Goes : Block → Type 0
  Goes b =
      holds (of_rights operands_fit) b ≡ true → holds (of_rights shift_fits) b ≡ true → holds numbers_fit b ≡ true → cells_in b ≤ most_cells
      → (e : State) → SlotsAreSmall e → BlockIsSmall b ((emission_of b).emit e)

  -- a statement that is no block, and those behind it
  simple : (b rest : Block) (one : Emitted (suite_calls hosts) proto) (acts : List Gadget) → one.tree ≡ acts_then acts Ends → AreFew 2040 acts
      → ((n : ℕ) → weight_of n b ≡ n + weight_of n rest) → ((n : ℕ) → tops n b ≡ n + tops n rest) → counted b ≡ 1 + counted rest
      → (more : Emitted (suite_calls hosts) proto) → BlockIsSmall rest more
      → BlockIsSmall b (record { tree = and_then one.tree more.tree; state = more.state })
  simple b rest one acts same few weights counts one_more more f = record {
    plan = plans_small one.tree more.tree (subst PlanIsSmall (sym same) (acts_small acts Ends few.small tt)) f.plan;
    held = f.held;
    steps_are = λ n.
        sums n (steps n (and_then one.tree more.tree)) (steps n one.tree) (steps n more.tree) (weight_of n b) (weight_of n rest) (tops n b) (tops n rest)
        (steps_both n one.tree more.tree) (subst (λ (p : Plan Gadget). steps n p ≤ 48000 * n) (sym same) (simple_steps acts few n)) (f.steps_are n) (weights n) (counts n);
    lines_are =
        lines (plan_bulk (and_then one.tree more.tree)) (plan_bulk one.tree) (plan_bulk more.tree) (bulk acts) (counted b) (counted rest) (plans_bulk one.tree more.tree)
        (ap plan_bulk same ∙ gadgets_bulk acts Ends) few.lines f.lines_are one_more;
  }
    where
      sums : (n x a y w v t u : ℕ) → x ≡ a + y → a ≤ 48000 * n → y + u ≤ 65000 * v → w ≡ n + v → t ≡ n + u → x + t ≤ 65000 * w
      sums n x a y w v t u e p q f g = omega (arith, e, p, q, f, g)

      lines : (x a y g n m : ℕ) → x ≡ a + y → a ≡ g + 0 → g ≤ 2040 → y ≤ 2043 * m → n ≡ 1 + m → x ≤ 2043 * n
      lines x a y g n m e f p q h = omega (arith, e, f, p, q, h)

  no_cells : (k : ℕ) (b rest : Block) → cells_in b ≡ k + cells_in rest → cells_in b ≤ most_cells → cells_in rest ≤ most_cells
  no_cells k b rest e le = omega (arith, e, le)

  -- the hosts that have a loop are some only where its body has a statement
  loop_steps : (ps : List (ℕ × ℕ)) (n count : ℕ) (body : Plan Gadget) (b : Block) → (b ≡ End → ps ≡ [])
      → steps (n * count) body + tops (n * count) b ≤ 65000 * weight_of (n * count) b → steps n (Loop ps count body Ends) ≤ n + 65000 * weight_of (n * count) b
  loop_steps [] n count body b none le = omega arith
  loop_steps (p ∷ ps) n count body b none le = at b refl
    where
      some : (t : ℕ) → n * count ≤ t → tops (n * count) b ≡ t → n + (n * count + (steps (n * count) body + 0)) ≤ n + 65000 * weight_of (n * count) b
      some t low same = omega (arith, low, same, le)

      at : (c : Block) → b ≡ c → n + (n * count + (steps (n * count) body + 0)) ≤ n + 65000 * weight_of (n * count) b
      at End e = absurd (let empty = none e in cc)
      at (Let x r rest) e = some (n * count + tops (n * count) rest) (omega arith) (ap (tops (n * count)) e)
      at (NewVar v x rest) e = some (n * count + tops (n * count) rest) (omega arith) (ap (tops (n * count)) e)
      at (NewArray v cells rest) e = some (n * count + tops (n * count) rest) (omega arith) (ap (tops (n * count)) e)
      at (Store v x rest) e = some (n * count + tops (n * count) rest) (omega arith) (ap (tops (n * count)) e)
      at (Put v i x rest) e = some (n * count + tops (n * count) rest) (omega arith) (ap (tops (n * count)) e)
      at (Output x h offset rest) e = some (n * count + tops (n * count) rest) (omega arith) (ap (tops (n * count)) e)
      at (If x first other offset rest) e = some (n * count + tops (n * count) rest) (omega arith) (ap (tops (n * count)) e)
      at (For k body' rest) e = some (n * count + tops (n * count) rest) (omega arith) (ap (tops (n * count)) e)

  none_loop : (k : ℕ) (next : List ℕ) → loop_registers (λ h. false) k next ≡ []
  none_loop k [] = refl
  none_loop k (r ∷ rs) = none_loop (k + 1) rs

  empty_loop : (body : Block) (next : List ℕ) → body ≡ End → loop_registers (emission_of body).acts_at 0 next ≡ []
  empty_loop body next e = ap (λ (b : Block). loop_registers (emission_of b).acts_at 0 next) e ∙ none_loop 0 next

  pub block_small : (b : Block) → Goes b
  block_small End p q r le e f = record { plan = tt; held = f; steps_are = λ n. omega arith; lines_are = omega arith }
  block_small (Let x right rest) p q r le e f =
      let made = right_made s proto (proto x.0) right e in
      let one = right_few (proto x.0) right (and_left (operands_fit right) true (and_left (operands_fit right && true) (holds (of_rights operands_fit) rest) p))
      (and_left (shift_fits right) true (and_left (shift_fits right && true) (holds (of_rights shift_fits) rest) q)) e f in
      let after = with_parts s proto made e in
      simple (Let x right rest) rest after made.acts refl one.acts (λ n. weigh_next (λ k. k) (each weigh_step rest) n) (λ n. refl) (cells_next 1 (each count_step rest)) ((emission_of rest).emit after.state)
      (block_small rest (and_right (operands_fit right && true) (holds (of_rights operands_fit) rest) p) (and_right (shift_fits right && true) (holds (of_rights shift_fits) rest) q) (and_right (number_fits right && true) (holds numbers_fit rest) r)
      (no_cells 0 (Let x right rest) rest (cells_next 0 (each cells_step rest)) le) after.state (held_one e.held made.given f one.given))
  block_small (NewVar v x rest) p q r le e f =
      let moved = s.move (proto x.0) (proto v.0) (parts_at s proto e x) e.next in
      let one = move_few (proto x.0) (proto v.0) (parts_at s proto e x) (slot_of e x f) e.next in
      let kept = s.keep (proto v.0) moved.given moved.next in
      let two = keep_few (proto v.0) moved.given moved.next in
      let after = with_parts s proto (and_on s proto moved (s.keep (proto v.0))) e in
      simple (NewVar v x rest) rest after (moved.acts ++ kept.acts) refl
      (few_more 680 2040 (moved.acts ++ kept.acts) (lit≤ tt) (few_both 340 340 moved.acts kept.acts one.acts two.acts))
      (λ n. weigh_next (λ k. k) (each weigh_step rest) n) (λ n. refl) (cells_next 1 (each count_step rest)) ((emission_of rest).emit after.state)
      (block_small rest p q r (no_cells 0 (NewVar v x rest) rest (cells_next 0 (each cells_step rest)) le) after.state (held_one e.held kept.given f two.given))
  block_small (NewArray v cells rest) p q r le e f =
      let made = s.cells (proto v.0) cells e.next in
      let all : cells_in (NewArray v cells rest) ≡ cells + cells_in rest = cells_next cells (each cells_step rest) in
      let one = cells_few (proto v.0) cells (fitting cells (cells_in rest) (cells_in (NewArray v cells rest)) all le) e.next in
      let after = with_parts s proto made e in
      simple (NewArray v cells rest) rest after made.acts refl (few_more 340 2040 made.acts (lit≤ tt) one.acts)
      (λ n. weigh_next (λ k. k) (each weigh_step rest) n) (λ n. refl) (cells_next 1 (each count_step rest)) ((emission_of rest).emit after.state)
      (block_small rest p q r (no_cells cells (NewArray v cells rest) rest all le) after.state (held_one e.held made.given f one.given))
    where
      fitting : (k m n : ℕ) → n ≡ k + m → n ≤ most_cells → k ≤ most_cells
      fitting k m n e le = omega (arith, e, le)
  block_small (Store v x rest) p q r le e f =
      let moved = s.move (proto x.0) (proto v.0) (parts_at s proto e x) e.next in
      let one = move_few (proto x.0) (proto v.0) (parts_at s proto e x) (slot_of e x f) e.next in
      let renewed = s.renew (proto v.0) (parts_at s proto e v) moved.given in
      let two = renew_few (proto v.0) (parts_at s proto e v) moved.given (slot_of e v f) in
      let after = store_made s proto v x e in
      simple (Store v x rest) rest after (moved.acts ++ renewed) refl (few_more 680 2040 (moved.acts ++ renewed) (lit≤ tt) (few_both 340 340 moved.acts renewed one.acts two))
      (λ n. weigh_next (λ k. k) (each weigh_step rest) n) (λ n. refl) (cells_next 1 (each count_step rest)) ((emission_of rest).emit after.state)
      (block_small rest p q r (no_cells 0 (Store v x rest) rest (cells_next 0 (each cells_step rest)) le) after.state f)
  block_small (Put v i x rest) p q r le e f =
      let t = proto v.0 in
      let index = delivered s proto (proto i.0) (parts_at s proto e i) (holders_among s t) e.next in
      let told = told_few (λ h. is_holder t (host h)) (proto i.0) (parts_at s proto e i) (slot_of e i f) e.next in
      let moved = s.move (proto x.0) t (parts_at s proto e x) index.next in
      let one = move_few (proto x.0) t (parts_at s proto e x) (slot_of e x f) index.next in
      let written = s.put t (parts_at s proto e v) index.given moved.given in
      let two = put_few t (parts_at s proto e v) index.given moved.given (slot_of e v f) in
      let after = put_made s proto v i x e in
      simple (Put v i x rest) rest after ((index.acts ++ moved.acts) ++ written) refl
      (few_both 1700 340 (index.acts ++ moved.acts) written (few_both 1360 340 index.acts moved.acts told one.acts) two)
      (λ n. weigh_next (λ k. k) (each weigh_step rest) n) (λ n. refl) (cells_next 1 (each count_step rest)) ((emission_of rest).emit after.state)
      (block_small rest p q r (no_cells 0 (Put v i x rest) rest (cells_next 0 (each cells_step rest)) le) after.state f)
  block_small (Output x h offset rest) p q r le e f =
      let moved = s.move (proto x.0) (Local h) (parts_at s proto e x) e.next in
      let one = move_few (proto x.0) (Local h) (parts_at s proto e x) (slot_of e x f) e.next in
      let printed = s.output h moved.given in
      let after = output_made s proto x h e in
      simple (Output x h offset rest) rest after (moved.acts ++ printed) refl
      (few_more 680 2040 (moved.acts ++ printed) (lit≤ tt) (few_both 340 340 moved.acts printed one.acts (output_few h moved.given)))
      (λ n. weigh_next (λ k. k) (each weigh_step rest) n) (λ n. refl) (cells_next 1 (each count_step rest)) ((emission_of rest).emit after.state)
      (block_small rest p q r (no_cells 0 (Output x h offset rest) rest (cells_next 0 (each cells_step rest)) le) after.state f)
  block_small (If x first other offset rest) p q r le e f =
      let test : ℕ → Bool = λ h. (emission_of first).takes_part h || (emission_of other).takes_part h in
      let guard = delivered s proto (proto x.0) (parts_at s proto e x) (picked 0 hosts test) e.next in
      let told = told_few test (proto x.0) (parts_at s proto e x) (slot_of e x f) e.next in
      let inner : State = record { next = guard.next; held = e.held; loop = e.loop } in
      let all : cells_in (If x first other offset rest) ≡ cells_in first + cells_in other + cells_in rest = cells_next (cells_in first + cells_in other) (each cells_step rest) in
      let one = block_small first (and_left _ _ (and_left _ _ p)) (and_left _ _ (and_left _ _ q)) (and_left _ _ (and_left _ _ r)) (fitting_first _ _ _ _ all le) inner f in
      let then_made = (emission_of first).emit inner in
      let two = block_small other (and_right _ _ (and_left _ _ p)) (and_right _ _ (and_left _ _ q)) (and_right _ _ (and_left _ _ r)) (fitting_other _ _ _ _ all le) then_made.state one.held in
      let else_made = (emission_of other).emit then_made.state in
      let made = if_made s proto x (emission_of first) (emission_of other) e in
      let more = (emission_of rest).emit made.state in
      let three = block_small rest (and_right _ _ p) (and_right _ _ q) (and_right _ _ r) (fitting_rest _ _ _ _ all le) made.state two.held in
      record {
        plan = plans_small made.tree more.tree (acts_small guard.acts (Branch guard.given then_made.tree else_made.tree Ends) told.small (one.plan, (two.plan, tt))) three.plan;
        held = three.held;
        steps_are = λ n.
            sums n _ _ _ _ _ _ _ _ _ _ _ _ (steps_both n made.tree more.tree) (steps_acts n guard.acts (Branch guard.given then_made.tree else_made.tree Ends)) (few_told n guard.acts told)
            (one.steps_are n) (two.steps_are n) (three.steps_are n)
            (weigh_next (λ k. k + weight_of k first + weight_of k other) (each weigh_step rest) n);
        lines_are =
            lines _ _ _ _ _ _ _ _ _ (plans_bulk made.tree more.tree) (gadgets_bulk guard.acts (Branch guard.given then_made.tree else_made.tree Ends)) told.lines one.lines_are two.lines_are
            three.lines_are (cells_next (1 + counted first + counted other) (each count_step rest));
      }
    where
      fitting_first : (a b c n : ℕ) → n ≡ a + b + c → n ≤ most_cells → a ≤ most_cells
      fitting_first a b c n e le = omega (arith, e, le)

      fitting_other : (a b c n : ℕ) → n ≡ a + b + c → n ≤ most_cells → b ≤ most_cells
      fitting_other a b c n e le = omega (arith, e, le)

      fitting_rest : (a b c n : ℕ) → n ≡ a + b + c → n ≤ most_cells → c ≤ most_cells
      fitting_rest a b c n e le = omega (arith, e, le)

      lines : (x m y g a b c d e : ℕ) → {all : ℕ} → x ≡ m + y → m ≡ g + (3 + (a + (b + 0))) → g ≤ 1360 → a ≤ 2043 * c → b ≤ 2043 * d → y ≤ 2043 * e → all ≡ 1 + c + d + e → x ≤ 2043 * all
      lines x m y g a b c d e i f h p q r j = omega (arith, i, f, h, p, q, r, j)

      few_told : (n : ℕ) (acts : List Gadget) → AreFew 1360 acts → n * length acts ≤ n * 1360
      few_told n acts f = mul-le-mul_left n f.few

      sums : (n x m y g a b v w z u t k : ℕ) → x ≡ m + y → m ≡ 8 * g + (n + (a + (b + 0))) → g ≤ n * 1360 → a + v ≤ 65000 * w → b + z ≤ 65000 * u → y + t ≤ 65000 * k
          → {all : ℕ} → all ≡ n + w + u + k → x + (n + t) ≤ 65000 * all
      sums n x m y g a b v w z u t k e f h p q r i = omega (arith, e, f, h, p, q, r, i)
  block_small (For count body rest) p q r le e f =
      let has = (emission_of body).acts_at in
      let inner : State = record { next = after_loop_registers has 0 e.next; held = e.held; loop = e.next } in
      let all : cells_in (For count body rest) ≡ cells_in body + cells_in rest = cells_next (cells_in body) (each cells_step rest) in
      let r' = and_left (nat_lt count (2 ^ 32) && holds numbers_fit body) (holds numbers_fit rest) r in
      let one = block_small body (and_left _ _ p) (and_left _ _ q) (and_right _ _ r') (fitting_body _ _ _ all le) inner f in
      let body_made = (emission_of body).emit inner in
      let made = for_made s proto count (emission_of body) e in
      let more = (emission_of rest).emit made.state in
      let two = block_small rest (and_right _ _ p) (and_right _ _ q) (and_right _ _ r) (fitting_rest _ _ _ all le) made.state one.held in
      record {
        plan = plans_small made.tree more.tree (below count (2 ^ 32) (and_left _ _ r'), (one.plan, tt)) two.plan;
        held = two.held;
        steps_are = λ n.
            sums n _ _ _ _ _ _ _ (steps_both n made.tree more.tree)
            (loop_steps (loop_registers has 0 e.next) n count body_made.tree body (empty_loop body e.next) (one.steps_are (n * count)))
            (two.steps_are n) (weigh_next (λ k. k + weight_of (k * count) body) (each weigh_step rest) n);
        lines_are = lines _ _ _ _ _ _ (plans_bulk made.tree more.tree) one.lines_are two.lines_are (cells_next (1 + counted body) (each count_step rest));
      }
    where
      fitting_body : (a c n : ℕ) → n ≡ a + c → n ≤ most_cells → a ≤ most_cells
      fitting_body a c n e le = omega (arith, e, le)

      fitting_rest : (a c n : ℕ) → n ≡ a + c → n ≤ most_cells → c ≤ most_cells
      fitting_rest a c n e le = omega (arith, e, le)

      lines : (x y a c d all : ℕ) → x ≡ 2 + (a + 0) + y → a ≤ 2043 * c → y ≤ 2043 * d → all ≡ 1 + c + d → x ≤ 2043 * all
      lines x y a c d all e p q f = omega (arith, e, p, q, f)

      sums : (n x m y w t k all : ℕ) → x ≡ m + y → m ≤ n + 65000 * w → y + t ≤ 65000 * k → all ≡ n + w + k → x + (n + t) ≤ 65000 * all
      sums n x m y w t k all e f h i = omega (arith, e, f, h, i)
