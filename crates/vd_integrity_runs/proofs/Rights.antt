-- Right sides: they write fresh registers alone, and give right words of right ones.
use Rattle.std.proofs.Common.{◌≡◌, ℕ, zero, suc, ◌^◌, ◌<◌, ◌≤◌, ◌&&◌, ◌||◌, Bool, true, false, List, [], ◌∷◌, length, map, slice_index, refl, sym, ap, subst, ◌∙◌, arith}
use Rattle.std.specs.List.{list_all}
use Rattle.std.proofs.lemmas.Bool.{and_parts}
use Rattle.vd_base.specs.declared.ids.HostId.{HostId}
use Rattle.vd_base.specs.declared.ids.SlotId.{SlotId}
use Rattle.vd_base.specs.declared.protocols.Proto.{Proto}
use Rattle.vd_base.specs.HostSets.{host}
use Rattle.vd_base.specs.Holders.{holders, is_holder}
use Rattle.vd_core.specs.declared.normal.Right.{Right}
use Rattle.vd_core.specs.declared.normal.Right.TheVariants.{Lit, Turn, Copy, Apply, Input, Declassify, Endorse, Load, Get}
use Rattle.vd_core.specs.Facts.{Sight, is_binding, right_sees}
use Rattle.vd_semantics.specs.ProgramMeaning.{SlotState, word_at, right_word}
use Rattle.vd_execution.specs.Gadgets.{Gadget}
use Rattle.vd_execution.specs.Joint.{Hosts}
use Rattle.vd_execution.specs.World.{Tape}
use Rattle.vd_execution.specs.Deals.{IsValidDeal}
use Rattle.vd_execution.proofs.Front.{operation_word}
use Rattle.vd_duet.specs.Laws.{AreKnown, Each}
use Rattle.vd_split.specs.Joint.{Each as EachOf}
use Rattle.vd_split.specs.Suite.{Word, Made, Gives, Ready, Laws}
use Rattle.vd_split.specs.Emission.{Emitting, all_moved, right_made}
use Rattle.vd_split.specs.Validity.{RightFits, RightPlaced}
use Rattle.vd_split.proofs.Front.{Binding, Variable, Sees, Between, between_of, ready_past, Movable, all_past, movables, operand_of_variable as tied_variable}
use Rattle.vd_backend_laws.specs.Parts.{Parts, suite_calls}
use Rattle.vd_backend_laws.specs.Suite.{IsOver, suite, AreGiven}
use Rattle.vd_backend_laws.proofs.Front.{holder_at, host_known, all_below, cells_of, in_names, suite_laws}
use Rattle.vd_noninter.specs.Flowing.{Knowledge, only_with, right_flows}
use Rattle.vd_noninter.proofs.Front.{only}
use Rattle.vd_integrity_runs.specs.Departing.{AreRight, RunsGadgets}
use Rattle.vd_integrity_runs.specs.Copies.{AreOperands, IsInClear, IsOperand}
use Rattle.vd_integrity_runs.proofs.Steps.{gadgets_parts}
use Rattle.vd_integrity_runs.specs.Endorsed.{is_given}
use Rattle.vd_integrity_runs.proofs.Touching.{IsFramed, runs_framed}
use Rattle.vd_integrity_runs.proofs.Fresh.{Free, IsFresh, fresh_none, fresh_on, known_later, literal_fresh, keep_fresh, apply_fresh, turn_fresh, moved_fresh}
use Rattle.vd_integrity_runs.proofs.Calls.{IsKeptAt, apply_right, keep_right, literal_right, moved_right, operand_later, still_of, turn_right}
use Rattle.vd_integrity_runs.proofs.Relation.{has_back, part_of, Ties, InTrust, operand, operand_of_variable}

-- neither an input nor an element
abbrev pub IsCalm : Right → Type 0
IsCalm (Lit n) = Unit {0}
IsCalm Turn = Unit {0}
IsCalm (Copy y) = Unit {0}
IsCalm (Apply op ys) = Unit {0}
IsCalm (Input h) = ⊥
IsCalm (Declassify y to) = Unit {0}
IsCalm (Endorse y to) = Unit {0}
IsCalm (Load v) = Unit {0}
IsCalm (Get v i) = ⊥

module _ (hosts : ℕ) (t : Tape) (deal : IsValidDeal t) (inputs : ℕ → List ℕ) (given : AreGiven inputs t) (proto : ℕ → Proto) (clear : (x : ℕ) → IsInClear (proto x)) (declared : (x : ℕ) → IsOver hosts (proto x)) where
  abbrev pub laws : Laws _ (suite t inputs hosts)
  laws = suite_laws t deal inputs given hosts

  abbrev pub E : Type 0
  E = Emitting (suite_calls hosts) proto

  pub known_at : (q : Proto) → IsOver hosts q → (next : List ℕ) → length next ≡ hosts → AreKnown (holders q) next
  known_at q over next many = subst (λ n. Each (λ (h : HostId). h.0 < n) (holders q)) (sym many) over.known

  -- ---- fresh registers
  all_moved_fresh : (q : Proto) → IsInClear q → (e : E) (ys : List SlotId) (next : List ℕ) → AreKnown (holders q) next
      → IsFresh next (all_moved (suite_calls hosts) proto q e ys next).acts (all_moved (suite_calls hosts) proto q e ys next).next
  all_moved_fresh q cq e [] next known = fresh_none next
  all_moved_fresh q cq e (y ∷ ys) next known =
      let one = (suite_calls hosts).move (proto y.0) q (part_of hosts t inputs proto clear e.held y.0) next in
      let rest = all_moved (suite_calls hosts) proto q e ys one.next in
      let first = moved_fresh (proto y.0) q (clear y.0) cq (part_of hosts t inputs proto clear e.held y.0).at next known in
      fresh_on next one.next rest.next one.acts rest.acts first (all_moved_fresh q cq e ys one.next (known_later (holders q) next one.next first.known known))

  pub right_fresh : (x : ℕ) (right : Right) → IsCalm right → (e : E) → length e.next ≡ hosts
      → IsFresh e.next (right_made (suite_calls hosts) proto (proto x) right e).acts (right_made (suite_calls hosts) proto (proto x) right e).next
  right_fresh x (Lit n) calm e many = literal_fresh (proto x) (clear x) e.next (known_at (proto x) (declared x) e.next many) n
  right_fresh x Turn calm e many = turn_fresh (proto x) (clear x) e.next (known_at (proto x) (declared x) e.next many) e.loop
  right_fresh x (Copy y) calm e many = moved_fresh (proto y.0) (proto x) (clear y.0) (clear x) _ e.next (known_at (proto x) (declared x) e.next many)
  right_fresh x (Declassify y to) calm e many = moved_fresh (proto y.0) (proto x) (clear y.0) (clear x) _ e.next (known_at (proto x) (declared x) e.next many)
  right_fresh x (Endorse y to) calm e many = moved_fresh (proto y.0) (proto x) (clear y.0) (clear x) _ e.next (known_at (proto x) (declared x) e.next many)
  right_fresh x (Apply op ys) calm e many =
      let known = known_at (proto x) (declared x) e.next many in
      let args = all_moved (suite_calls hosts) proto (proto x) e ys e.next in
      let first = all_moved_fresh (proto x) (clear x) e ys e.next known in
      let two = (suite_calls hosts).apply op (proto x) args.given args.next in
      fresh_on e.next args.next two.next args.acts two.acts first
      (apply_fresh (proto x) (clear x) args.next (known_later (holders (proto x)) e.next args.next first.known known) op (map (λ (p : Parts). p.at) args.given))
  right_fresh x (Input h) calm e many = absurd calm
  right_fresh x (Load v) calm e many =
      let kept = (suite_calls hosts).keep (proto v.0) (part_of hosts t inputs proto clear e.held v.0) e.next in
      let first = keep_fresh (proto v.0) (clear v.0) e.next (known_at (proto v.0) (declared v.0) e.next many) (part_of hosts t inputs proto clear e.held v.0).at in
      let two = (suite_calls hosts).move (proto v.0) (proto x) kept.given kept.next in
      fresh_on e.next kept.next two.next kept.acts two.acts first
      (moved_fresh (proto v.0) (proto x) (clear v.0) (clear x) kept.given.at kept.next (known_at (proto x) (declared x) kept.next (first.known ∙ many)))
  right_fresh x (Get v i) calm e many = absurd calm

  -- ---- right words
  module _ (k : Knowledge) (declassified : (x y : ℕ) → k.given.declassified x y ≡ false) (stays : (x : ℕ) → k.kept x ≡ true → IsKeptAt k.known (proto x)) where
    abbrev pub Trust : Sight → List Parts → Hosts → SlotState → Type 0
    Trust o held w c = InTrust hosts t inputs proto clear k.known k.kept o held w c

    -- what is made where all keep names fresh registers, at the hosts of the protocol
    pub from_gives : (q : Proto) → IsInClear q → (next : List ℕ) (source : ℕ → ℕ → Type 0) (made : Made Gadget Parts) (w0 : Hosts) (v0 : ℕ) → Gives _ (suite t inputs hosts) next source made w0 q (Word v0)
        → (w : Hosts) (v : ℕ) → AreRight k.known w made.given.at v → v < 2 ^ 32 → IsOperand k.known q made.next w made.given.at v
    from_gives q cq next source made w0 v0 g w v right small =
        let cells = cells_of q (has_back q cq) g.reached made.given (Word v0) g.stands in
        record {
          at = cells.at;
          below = all_below made.next made.given.at (λ h r i. g.fresh.below h r (in_names made.given h r cells.size i));
          right = right;
          word = small;
        }

    abbrev AreRightOperands : List ℕ → Hosts → SlotState → E → List SlotId → Type 0
    AreRightOperands next w c e ys = Each (λ y. IsOperand k.known (proto y.0) next w (part_of hosts t inputs proto clear e.held y.0).at (word_at c y) × IsKeptAt k.known (proto y.0)) ys

    all_later : (next next' : List ℕ) (w w' : Hosts) (c : SlotState) (e : E) (ys : List SlotId) → ((h : ℕ) → slice_index next h ≤ slice_index next' h) → IsFramed (Free next) w w' → AreRightOperands next w c e ys → AreRightOperands next' w' c e ys
    all_later next next' w w' c e [] longer f all = tt
    all_later next next' w w' c e (y ∷ ys) longer f all =
        ((operand_later k.known (proto y.0) next next' w w' (part_of hosts t inputs proto clear e.held y.0).at (word_at c y) longer (still_of next w w' f) all.0.0, all.0.1), all_later next next' w w' c e ys longer f all.1)

    operands_right : (q : Proto) → IsInClear q → IsOver hosts q → (e : E) (word : SlotId → ℕ) (source : ℕ → ℕ → Type 0) (c : SlotState) (ys : List SlotId) (next : List ℕ) (w0 : Hosts) → Ready _ (suite t inputs hosts) next w0
        → EachOf (λ y. Movable _ (suite t inputs hosts) laws proto next w0 source q (proto y.0) (part_of hosts t inputs proto clear e.held y.0) (word y)) ys
        → (w u : Hosts) → AreRightOperands next w c e ys → RunsGadgets k.known t (all_moved (suite_calls hosts) proto q e ys next).acts w u
        → AreOperands k.known q (all_moved (suite_calls hosts) proto q e ys next).next u (map (λ (p : Parts). p.at) (all_moved (suite_calls hosts) proto q e ys next).given) (map (word_at c) ys)
    operands_right q cq dq e word source c [] next w0 ready all w u rights run = tt
    operands_right q cq dq e word source c (y ∷ ys) next w0 ready all w u rights run =
        let from = part_of hosts t inputs proto clear e.held y.0 in
        let one = (suite_calls hosts).move (proto y.0) q from next in
        let rest = all_moved (suite_calls hosts) proto q e ys one.next in
        let parts = gadgets_parts k.known t one.acts rest.acts w u run in
        let m = parts.0 in
        let o = all.0 in
        let g = laws.move_law (proto y.0) q o.declared dq o.joins from (word y) next w0 ready o.operand in
        let a : Between _ (suite t inputs hosts) next w0 one.acts one.next = between_of _ (suite t inputs hosts) next _ one w0 q (Word (word y)) g in
        let known = known_at q dq next ready.known in
        let first = moved_fresh (proto y.0) q (clear y.0) cq from.at next known in
        let framed = runs_framed (Free next) k.known t one.acts w m first.touches parts.1.0 in
        let right = moved_right k.known t next w (proto y.0) q (clear y.0) cq (known_at (proto y.0) (declared y.0) next ready.known) known from.at (word_at c y) rights.0.0 rights.0.1 m parts.1.0 in
        let head = from_gives q cq next _ one w0 (word y) g m (word_at c y) right rights.0.0.word in
        let later = all_moved_fresh q cq e ys one.next (known_later (holders q) next one.next first.known known) in
        let framed' = runs_framed (Free one.next) k.known t rest.acts m u later.touches parts.1.1 in (
          operand_later k.known q one.next rest.next m u one.given.at (word_at c y) later.longer (still_of one.next m u framed') head,
          operands_right q cq dq e word source c ys one.next g.reached (ready_past _ (suite t inputs hosts) next w0 one.acts one.next ready a)
              (all_past _ (suite t inputs hosts) laws proto next w0 one.acts one.next source q e word a ys all.1) m u (all_later next one.next w m c e ys first.longer framed rights.1) parts.1.1,
        )

    as_many : (q : Proto) (e : E) (ys : List SlotId) (next : List ℕ) → length (map (λ (p : Parts). p.at) (all_moved (suite_calls hosts) proto q e ys next).given) ≡ length ys
    as_many q e [] next = refl
    as_many q e (y ∷ ys) next = ap suc (as_many q e ys ((suite_calls hosts).move (proto y.0) q (part_of hosts t inputs proto clear e.held y.0) next).next)

    -- ---- a right side, in a state where the slots in trust are right
    module _ (o : Sight) (e : E) (w0 : Hosts) (c0 : SlotState) (ties : Ties hosts t inputs proto clear o e.next e.held w0 c0) (turn : ℕ) (has : ℕ → Bool)
        (w : Hosts) (c : SlotState) (trust : Trust o e.held w c) where
      -- each host that keeps and has the loop has the number of the turn
      abbrev pub LoopIsRight : Type 0
      LoopIsRight = (h : ℕ) → h < hosts → has h ≡ true → k.known h ≡ true → ((w h).registers (slice_index e.loop h) ≡ turn) × (slice_index e.loop h < slice_index e.next h)

      operand_at : (y : SlotId) → Sees o Binding y.0 → k.kept y.0 ≡ true → IsOperand k.known (proto y.0) e.next w (part_of hosts t inputs proto clear e.held y.0).at (word_at c y)
      operand_at y sees is = operand hosts t inputs proto clear k.known k.kept o e.next e.held w0 c0 ties w c trust y.0 sees is

      all_operands : (ys : List SlotId) → list_all (is_binding o) ys ≡ true → list_all (λ y. k.kept y.0) ys ≡ true → AreRightOperands e.next w c e ys
      all_operands [] sees all = tt
      all_operands (y ∷ ys) sees all =
          let first = and_parts (is_binding o y) (list_all (is_binding o) ys) sees in
          let both = and_parts (k.kept y.0) (list_all (λ z. k.kept z.0) ys) all in
          ((operand_at y first.0 both.0, stays y.0 both.0), all_operands ys first.1 both.1)

      -- a word that is moved
      pub one_moved : (y : SlotId) (q : Proto) → IsInClear q → IsOver hosts q → Sees o Binding y.0 → k.kept y.0 ≡ true → (u : Hosts)
          → RunsGadgets k.known t ((suite_calls hosts).move (proto y.0) q (part_of hosts t inputs proto clear e.held y.0) e.next).acts w u
          → AreRight k.known u ((suite_calls hosts).move (proto y.0) q (part_of hosts t inputs proto clear e.held y.0) e.next).given.at (word_at c y)
      one_moved y q cq dq sees is u run =
          moved_right k.known t e.next w (proto y.0) q (clear y.0) cq (known_at (proto y.0) (declared y.0) e.next ties.ready.known) (known_at q dq e.next ties.ready.known)
          (part_of hosts t inputs proto clear e.held y.0).at (word_at c y) (operand_at y sees is) (stays y.0 is) u run

      downgraded : (given freed : Bool) (x y : SlotId) → given ≡ false → (only_with (k.kept x.0) (given || k.kept y.0) && only_with freed (k.kept y.0)) ≡ true → k.kept x.0 ≡ true → k.kept y.0 ≡ true
      downgraded given freed x y off flows is =
          let first = (and_parts (only_with (k.kept x.0) (given || k.kept y.0)) (only_with freed (k.kept y.0)) flows).0 in
          let either = only (k.kept x.0) (given || k.kept y.0) first is in
          ap (λ b. b || k.kept y.0) (sym off) ∙ either

      pub right_right : (x : SlotId) (right : Right) → IsCalm right → right_sees right o ≡ true → RightFits hosts right → RightPlaced _ (suite t inputs hosts) proto (proto x.0) right
          → (right ≡ Turn → (h : ℕ) → is_holder (proto x.0) (host h) ≡ true → has h ≡ true) → LoopIsRight
          → k.kept x.0 ≡ true → right_flows k x right ≡ true → is_given k.given.endorsed x right ≡ false
          → (u : Hosts) → RunsGadgets k.known t (right_made (suite_calls hosts) proto (proto x.0) right e).acts w u
          → AreRight k.known u (right_made (suite_calls hosts) proto (proto x.0) right e).given.at (right_word right turn c)
      right_right x (Lit n) calm sees fits placed reach loop is flows own u run =
          literal_right k.known t e.next w (proto x.0) (clear x.0) (known_at (proto x.0) (declared x.0) e.next ties.ready.known) n u run
      right_right x Turn calm sees fits placed reach loop is flows own u run =
          turn_right k.known t e.next w (proto x.0) (clear x.0) (known_at (proto x.0) (declared x.0) e.next ties.ready.known) e.loop turn
          (λ h i keep. loop h (host_known hosts (holders (proto x.0)) h (declared x.0).known i) (reach refl h (holder_at (proto x.0) h i)) keep) u run
      right_right x (Copy y) calm sees fits placed reach loop is flows own u run = one_moved y (proto x.0) (clear x.0) (declared x.0) sees (only (k.kept x.0) (k.kept y.0) flows is) u run
      right_right x (Declassify y to) calm sees fits placed reach loop is flows own u run =
          one_moved y (proto x.0) (clear x.0) (declared x.0) sees (downgraded (k.given.declassified x.0 y.0) (k.freed.declassified x.0 y.0) x y (declassified x.0 y.0) flows is) u run
      right_right x (Endorse y to) calm sees fits placed reach loop is flows own u run =
          one_moved y (proto x.0) (clear x.0) (declared x.0) sees (downgraded (k.given.endorsed x.0 y.0) (k.freed.endorsed x.0 y.0) x y own flows is) u run
      right_right x (Apply op ys) calm sees fits placed reach loop is flows own u run =
          let args = all_moved (suite_calls hosts) proto (proto x.0) e ys e.next in
          let two = (suite_calls hosts).apply op (proto x.0) args.given args.next in
          let parts = gadgets_parts k.known t args.acts two.acts w u run in
          let known = known_at (proto x.0) (declared x.0) e.next ties.ready.known in
          let fresh = all_moved_fresh (proto x.0) (clear x.0) e ys e.next known in
          let os = operands_right (proto x.0) (clear x.0) (declared x.0) e (word_at c0) _ c ys e.next w0 ties.ready
          (movables _ (suite t inputs hosts) proto laws declared o e.next e.held w0 c0 ties (proto x.0) ys sees placed.1) w parts.0
          (all_operands ys sees (only (k.kept x.0) (list_all (λ y. k.kept y.0) ys) flows is)) parts.1.0 in
          apply_right k.known t args.next parts.0 (proto x.0) (clear x.0) (known_later (holders (proto x.0)) e.next args.next fresh.known known) op fits.1 (map (λ (p : Parts). p.at) args.given) (map (word_at c) ys)
          (as_many (proto x.0) e ys e.next ∙ fits.0) os u parts.1.1
      right_right x (Input h) calm sees fits placed reach loop is flows own u run = absurd calm
      right_right x (Load v) calm sees fits placed reach loop is flows own u run =
          let from = part_of hosts t inputs proto clear e.held v.0 in
          let kept = (suite_calls hosts).keep (proto v.0) from e.next in
          let two = (suite_calls hosts).move (proto v.0) (proto x.0) kept.given kept.next in
          let parts = gadgets_parts k.known t kept.acts two.acts w u run in
          let there = only (k.kept x.0) (k.kept v.0) flows is in
          let known = known_at (proto v.0) (declared v.0) e.next ties.ready.known in
          let op = operand_of_variable hosts t inputs proto clear k.known k.kept o e.next e.held w0 c0 ties w c trust v.0 sees there in
          let first = keep_right k.known t e.next w (proto v.0) (clear v.0) known from.at (word_at c v) op parts.0 parts.1.0 in
          let fresh = keep_fresh (proto v.0) (clear v.0) e.next known from.at in
          let g = laws.keep_law (proto v.0) (declared v.0) placed.0 from (slice_index c0.words v.0) e.next w0 ties.ready (tied_variable _ (suite t inputs hosts) proto laws declared o e.next e.held w0 c0 ties v.0 sees) in
          moved_right k.known t kept.next parts.0 (proto v.0) (proto x.0) (clear v.0) (clear x.0) (known_at (proto v.0) (declared v.0) kept.next (fresh.known ∙ ties.ready.known))
          (known_at (proto x.0) (declared x.0) kept.next (fresh.known ∙ ties.ready.known)) kept.given.at (word_at c v)
          (from_gives (proto v.0) (clear v.0) e.next _ kept w0 (slice_index c0.words v.0) g parts.0 (word_at c v) first op.word) (stays v.0 there) u parts.1.1
      right_right x (Get v i) calm sees fits placed reach loop is flows own u run = absurd calm

      -- ---- small words
      all_small : (ys : List SlotId) → list_all (is_binding o) ys ≡ true → list_all (λ y. k.kept y.0) ys ≡ true → (i : ℕ) → slice_index (map (word_at c) ys) i < 2 ^ 32
      all_small [] sees all i = none i
        where
          none : (i : ℕ) → slice_index [] i < 2 ^ 32
          none zero = omega arith
          none (suc i) = omega arith
      all_small (y ∷ ys) sees all zero = trust.small Binding y.0 (and_parts (is_binding o y) (list_all (is_binding o) ys) sees).0 (and_parts (k.kept y.0) (list_all (λ z. k.kept z.0) ys) all).0
      all_small (y ∷ ys) sees all (suc i) = all_small ys (and_parts (is_binding o y) (list_all (is_binding o) ys) sees).1 (and_parts (k.kept y.0) (list_all (λ z. k.kept z.0) ys) all).1 i

      pub right_small : (x : SlotId) (right : Right) → IsCalm right → right_sees right o ≡ true → RightFits hosts right → turn < 2 ^ 32 → k.kept x.0 ≡ true → right_flows k x right ≡ true → is_given k.given.endorsed x right ≡ false
          → right_word right turn c < 2 ^ 32
      right_small x (Lit n) calm sees fits small is flows own = fits
      right_small x Turn calm sees fits small is flows own = small
      right_small x (Copy y) calm sees fits small is flows own = trust.small Binding y.0 sees (only (k.kept x.0) (k.kept y.0) flows is)
      right_small x (Declassify y to) calm sees fits small is flows own =
          trust.small Binding y.0 sees (downgraded (k.given.declassified x.0 y.0) (k.freed.declassified x.0 y.0) x y (declassified x.0 y.0) flows is)
      right_small x (Endorse y to) calm sees fits small is flows own = trust.small Binding y.0 sees (downgraded (k.given.endorsed x.0 y.0) (k.freed.endorsed x.0 y.0) x y own flows is)
      right_small x (Apply op ys) calm sees fits small is flows own =
          let all = only (k.kept x.0) (list_all (λ y. k.kept y.0) ys) flows is in
          operation_word op (slice_index (map (word_at c) ys) 0) (slice_index (map (word_at c) ys) 1) (slice_index (map (word_at c) ys) 2) (all_small ys sees all 0) (all_small ys sees all 1) (all_small ys sees all 2)
      right_small x (Input h) calm sees fits small is flows own = absurd calm
      right_small x (Load v) calm sees fits small is flows own = trust.small Variable v.0 sees (only (k.kept x.0) (k.kept v.0) flows is)
      right_small x (Get v i) calm sees fits small is flows own = absurd calm
