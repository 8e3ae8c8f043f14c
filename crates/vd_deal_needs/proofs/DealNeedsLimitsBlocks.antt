-- How many items a host takes of a list in what is made of a block.
use Rattle.std.proofs.Common.{◌≡◌, ℕ, ◌+◌, ◌*◌, ◌≤◌, Bool, ◌||◌, List, [], ◌∷◌, ◌++◌, map, refl, sym, ap, subst₂, ◌∙◌, mul-le-mul_left, arith}
use Rattle.std.proofs.Math.Nat.{mul_assoc}
use Rattle.std.proofs.lemmas.List.Sums.{sum_by-cons}
use Rattle.vd_base.specs.declared.ids.SlotId.{SlotId}
use Rattle.vd_base.specs.declared.protocols.Proto.{Proto}
use Rattle.vd_base.specs.declared.protocols.Proto.TheVariants.{Local}
use Rattle.vd_core.specs.declared.normal.Stmt.TheOpen.{Stmt-F}
use Rattle.vd_core.specs.Facts.{Weighing, weigh_all, weigh_step}
use Rattle.vd_execution.specs.Gadgets.{Gadget}
use Rattle.vd_execution.specs.Joint.{code_of}
use Rattle.vd_execution.specs.Plans.{Plan, Ends, Branch, joint_of}
use Rattle.vd_execution.specs.Step.{Source}
use Rattle.vd_split.specs.Block.{Block, End, Let, NewVar, NewArray, Store, Put, Output, If, For, each}
use Rattle.vd_split.specs.Joint.{acts_then, and_then}
use Rattle.vd_split.specs.Suite.{Calls, Made, holders_among, picked}
use Rattle.vd_split.specs.Emission.{Emitted, and_on, delivered, for_made, if_made, in_turn, parts_at, right_made}
use Rattle.vd_deal_needs.specs.DealNeedsLawsNeeds.{greater, takes}
use Rattle.vd_backend_laws.specs.Parts.{Parts, suite_calls}
use Rattle.vd_projection.specs.Statements.{EachMakesFew, Making, State, all_of, alone, emptied, in_branch, in_loop, instructions, made_by, statements}
use Rattle.vd_deal_needs.proofs.Acts.{gadgets_few, gadgets_take, plans_take}

-- how often its statements are executed, where it is begun so often
abbrev pub weight_of : ℕ → Block → ℕ
weight_of n b = weigh_all (each weigh_step b) n

weigh_next : (w : Weighing) (ws : List Weighing) (n : ℕ) → weigh_all (w ∷ ws) n ≡ w n + weigh_all ws n
weigh_next w ws n = sum_by-cons (λ (k : ℕ). k) (w n) (map (λ (v : Weighing). v n) ws)

-- ---- numbers

-- a statement and those behind it, executed n times
in_row : (n w a m k : ℕ) {all : ℕ} → w ≡ a + m → a ≤ 1024 → n * m ≤ 1024 * k → all ≡ n + k → n * w ≤ 1024 * all
in_row n w a m k e few p f =
    let one : n * a ≤ n * 1024 = mul-le-mul_left n few in
    let spread : n * (a + m) ≡ n * a + n * m = omega arith in
    let whole = ap (λ (z : ℕ). n * z) e ∙ spread in
    omega (arith, one, whole, p, f)

-- a branch
in_branches : (n w m y g a b u v k : ℕ) {all : ℕ} → w ≡ m + y → m ≡ g + (greater a b + 0) → g ≤ 1024 → n * a ≤ 1024 * u → n * b ≤ 1024 * v → n * y ≤ 1024 * k → all ≡ n + u + v + k → n * w ≤ 1024 * all
in_branches n w m y g a b u v k e f few p q t i =
    let less : w ≤ g + (a + b) + y = omega (arith, e, f) in
    let whole : n * w ≤ n * (g + (a + b) + y) = mul-le-mul_left n less in
    let spread : n * (g + (a + b) + y) ≡ n * g + (n * a + n * b) + n * y = omega arith in
    let one : n * g ≤ n * 1024 = mul-le-mul_left n few in
    omega (arith, whole, spread, one, p, q, t, i)

-- a loop
in_turns : (n count w m y b u k : ℕ) {all : ℕ} → w ≡ m + y → m ≡ count * b + 0 → n * count * b ≤ 1024 * u → n * y ≤ 1024 * k → all ≡ n + u + k → n * w ≤ 1024 * all
in_turns n count w m y b u k e f p q i =
    let same : w ≡ count * b + y = omega (arith, e, f) in
    let whole = ap (λ (z : ℕ). n * z) same ∙ spread (count * b) in
    omega (arith, whole, sym (mul_assoc n count b), p, q, i)
  where
    spread : (z : ℕ) → n * (z + y) ≡ n * z + n * y
    spread z = omega arith

module _ (hosts : ℕ) (proto : ℕ → Proto) (h : ℕ) (r : Source) where
  abbrev s : Calls Gadget Parts
  s = suite_calls hosts

  abbrev taken : Plan Gadget → ℕ
  taken p = takes (joint_of p) h r

  abbrev made_of : Block → State hosts proto → Emitted (suite_calls hosts) proto
  made_of b e = (all_of hosts proto b).emit e

  abbrev Goes : Block → Type 0
  Goes b = (e : State hosts proto) → EachMakesFew hosts proto b e → (n : ℕ) → n * taken (made_of b e).tree ≤ 1024 * weight_of n b

  -- a statement that is no block, and those behind it
  simple : (b rest : Block) (acts : List Gadget) (more : Plan Gadget) → instructions (code_of h (joint_of (acts_then acts Ends))) ≤ 1024 → ((n : ℕ) → weight_of n b ≡ n + weight_of n rest)
      → ((n : ℕ) → n * taken more ≤ 1024 * weight_of n rest) → (n : ℕ) → n * taken (and_then (acts_then acts Ends) more) ≤ 1024 * weight_of n b
  simple b rest acts more few weights behind n = in_row n _ _ _ _ (plans_take h r (acts_then acts Ends) more) (gadgets_few h r acts Ends few) (behind n) (weights n)

  -- ---- the guard of a branch

  -- it is told to the hosts that take part in either block
  abbrev guard_of : SlotId → (ℕ → Bool) → (ℕ → Bool) → State hosts proto → Made Gadget (List (ℕ × ℕ))
  guard_of x f g e = delivered s proto (proto x.0) (parts_at s proto e x) (picked 0 hosts (λ k. f k || g k)) e.next

  -- who takes part in a block does not depend on what is made of it
  parts_stay : (fs : List (Making hosts proto)) → (in_turn s proto (map (emptied hosts proto) fs)).takes_part ≡ (in_turn s proto fs).takes_part
  parts_stay [] = refl
  parts_stay (f ∷ fs) = ap (λ (p : ℕ → Bool). let either : ℕ → Bool = λ k. f.takes_part k || p k in either) (parts_stay fs)

  guard_few : (x : SlotId) (a b : List (Making hosts proto)) (offset : ℕ) (e : State hosts proto)
      → instructions (code_of h (joint_of (made_by hosts proto (alone hosts proto (Stmt-F.If x a b offset)) e).tree)) ≤ 1024
      → taken (acts_then (guard_of x (in_turn s proto a).takes_part (in_turn s proto b).takes_part e).acts Ends) ≤ 1024
  guard_few x a b offset e few =
      let then_do = in_turn s proto (map (emptied hosts proto) a) in
      let else_do = in_turn s proto (map (emptied hosts proto) b) in
      let guard = guard_of x then_do.takes_part else_do.takes_part e in
      let inner : State hosts proto = record { next = guard.next; held = e.held; loop = e.loop } in
      let first = then_do.emit inner in
      let other = else_do.emit first.state in
      subst₂ (λ (f g : ℕ → Bool). taken (acts_then (guard_of x f g e).acts Ends) ≤ 1024) (parts_stay a) (parts_stay b)
      (gadgets_few h r guard.acts (Branch guard.given first.tree other.tree Ends) few)

  -- ---- all statements

  pub block_takes : (b : Block) → Goes b
  block_takes End e f n = omega arith
  block_takes (Let x right rest) e f n =
      let after = (made_by hosts proto (Stmt-F.Let x right) e).state in
      simple (Let x right rest) rest (right_made s proto (proto x.0) right e).acts (made_of rest after).tree (f.0.code h) (λ k. weigh_next (λ i. i) (each weigh_step rest) k) (block_takes rest after f.1) n
  block_takes (NewVar v x rest) e f n =
      let after = (made_by hosts proto (Stmt-F.NewVar v x) e).state in
      simple (NewVar v x rest) rest (and_on s proto (s.move (proto x.0) (proto v.0) (parts_at s proto e x) e.next) (s.keep (proto v.0))).acts (made_of rest after).tree (f.0.code h) (λ k. weigh_next (λ i. i) (each weigh_step rest) k) (block_takes rest after f.1) n
  block_takes (NewArray v cells rest) e f n =
      let after = (made_by hosts proto (Stmt-F.NewArray v cells) e).state in
      simple (NewArray v cells rest) rest (s.cells (proto v.0) cells e.next).acts (made_of rest after).tree (f.0.code h) (λ k. weigh_next (λ i. i) (each weigh_step rest) k) (block_takes rest after f.1) n
  block_takes (Store v x rest) e f n =
      let moved = s.move (proto x.0) (proto v.0) (parts_at s proto e x) e.next in
      let after = (made_by hosts proto (Stmt-F.Store v x) e).state in
      simple (Store v x rest) rest (moved.acts ++ s.renew (proto v.0) (parts_at s proto e v) moved.given) (made_of rest after).tree (f.0.code h) (λ k. weigh_next (λ i. i) (each weigh_step rest) k) (block_takes rest after f.1) n
  block_takes (Put v i x rest) e f n =
      let index = delivered s proto (proto i.0) (parts_at s proto e i) (holders_among s (proto v.0)) e.next in
      let moved = s.move (proto x.0) (proto v.0) (parts_at s proto e x) index.next in
      let after = (made_by hosts proto (Stmt-F.Put v i x) e).state in
      simple (Put v i x rest) rest ((index.acts ++ moved.acts) ++ s.put (proto v.0) (parts_at s proto e v) index.given moved.given) (made_of rest after).tree (f.0.code h) (λ k. weigh_next (λ i. i) (each weigh_step rest) k) (block_takes rest after f.1) n
  block_takes (Output x k offset rest) e f n =
      let moved = s.move (proto x.0) (Local k) (parts_at s proto e x) e.next in
      let after = (made_by hosts proto (Stmt-F.Output x k offset) e).state in
      simple (Output x k offset rest) rest (moved.acts ++ s.output k moved.given) (made_of rest after).tree (f.0.code h) (λ k. weigh_next (λ i. i) (each weigh_step rest) k) (block_takes rest after f.1) n
  block_takes (If x first other offset rest) e f n =
      let inner = in_branch hosts proto x first other e in
      let guard = guard_of x (all_of hosts proto first).takes_part (all_of hosts proto other).takes_part e in
      let then_made = made_of first inner in
      let else_made = made_of other then_made.state in
      let made = if_made s proto x (all_of hosts proto first) (all_of hosts proto other) e in
      let more = made_of rest made.state in
      in_branches n _ _ _ _ (taken then_made.tree) (taken else_made.tree) _ _ _ (plans_take h r made.tree more.tree) (gadgets_take h r guard.acts (Branch guard.given then_made.tree else_made.tree Ends)) (guard_few x (statements hosts proto first) (statements hosts proto other) offset e (f.0.code h))
      (block_takes first inner f.1 n) (block_takes other then_made.state f.2 n) (block_takes rest made.state f.3 n) (weigh_next (λ k. k + weight_of k first + weight_of k other) (each weigh_step rest) n)
  block_takes (For count body rest) e f n =
      let inner = in_loop hosts proto body e in
      let body_made = made_of body inner in
      let made = for_made s proto count (all_of hosts proto body) e in
      let more = made_of rest made.state in
      in_turns n count _ _ _ (taken body_made.tree) _ _ (plans_take h r made.tree more.tree) (turns count (taken body_made.tree)) (block_takes body inner f.1 (n * count)) (block_takes rest made.state f.2 n)
      (weigh_next (λ k. k + weight_of (k * count) body) (each weigh_step rest) n)
    where
      turns : (c b : ℕ) → c * b + 0 ≡ c * b + 0
      turns c b = refl
