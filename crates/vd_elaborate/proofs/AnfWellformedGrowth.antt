-- Slots and blocks only grow in number, by at most one for each statement that is made.
use Rattle.std.proofs.Common.{◌≡◌, ℕ, ◌+◌, ◌≤◌, List, [], ◌∷◌, map, arith}
use Rattle.vd_base.specs.Names.{Named, at_name}
use Rattle.vd_core.specs.declared.normal.Stmt.{Stmt, Let, NewVar, NewArray, Store, Put, Output, If, For}
use Rattle.vd_core.specs.declared.normal.Right.TheVariants.{Turn}
use Rattle.vd_core.specs.declared.normal.Slot.{Slot}
use Rattle.vd_core.specs.declared.source.Expr.{Expr}
use Rattle.vd_core.specs.declared.source.Segment.{Segment}
use Rattle.vd_core.specs.declared.source.Statement.{Statement}
use Rattle.vd_core.specs.declared.source.Function.{Function}
use Rattle.vd_core.specs.declared.source.Source.{Source}
use Rattle.vd_core.specs.Facts.{count_of, statement_count}
use Rattle.vd_elaborate.specs.declared.anf.here.Here.{Here}
use Rattle.vd_elaborate.specs.declared.anf.spot.Spot.{Spot}
use Rattle.vd_elaborate.specs.Normal.{Made, slot, with_slot, with_stmt, emptied, for_made, lowering, lowering_of_segment, chain_made, all_made, call_made, lowering_of, statements_made, inlinings_of, Place, main_made}
use Rattle.vd_elaborate.proofs.Laws.{with_if, block_more, turned, Laws}
use Rattle.vd_elaborate.proofs.Counts.{count_push, let_one, var_one, array_is, store_one, put_one, output_one, if_is, for_is}
use Rattle.vd_elaborate.proofs.ExprWalk.{Bindings, Shown, Calls, at_calls, call_makes, expr_keeps, segment_keeps}
use Rattle.vd_elaborate.proofs.AnfWellformedWalk.{statement_keeps, all_calls, main_keeps}
use Rattle.vd_elaborate.proofs.Plain.{always, source_always, expr_always, segment_always, statement_always, functions_always}

-- slots and blocks together
abbrev pub size : Made → ℕ
size m = m.next + m.blocks

record Grows (m m' : Made) : Type 0 where
  pub more : size m ≤ size m'
  pub few : size m' + statement_count m.body ≤ size m + statement_count m'.body

none : (m : Made) → Grows m m
none m = record { more = omega arith; few = omega arith }

after : (m m1 m2 : Made) → Grows m m1 → Grows m1 m2 → Grows m m2
after m m1 m2 a b =
    let a1 = a.more in
    let a2 = a.few in
    let b1 = b.more in
    let b2 = b.few in
    record { more = omega arith; few = omega arith }

-- a statement with a slot, and one without
with_one : (m : Made) (entry : Slot) (x : Stmt) → count_of x ≡ 1 → Grows m (with_slot entry x m).1
with_one m entry x is = let pushed = count_push m.body x in record { more = omega arith; few = omega arith }

without_slot : (m : Made) (x : Stmt) → count_of x ≡ 1 → Grows m (with_stmt x m)
without_slot m x is = let pushed = count_push m.body x in record { more = omega arith; few = omega arith }

branches : (m : Made) (k offset : ℕ) (a b : Made) → Grows (block_more m) a → Grows (emptied a) b → Grows m (with_if k offset m a b)
branches m k offset a b ga gb =
    let a1 = ga.more in
    let a2 = ga.few in
    let b1 = gb.more in
    let b2 = gb.few in
    let pushed = count_push m.body (If (slot k) a.body b.body offset) in
    let is = (if_is (slot k) a.body b.body offset).statements in
    record { more = omega arith; few = omega arith }

loops : (m : Made) (count : ℕ) (entry : Slot) (a : Made) → Grows (turned entry m) a → Grows m (for_made count a m)
loops m count entry a g =
    let inside = after (emptied m) (turned entry m) a (with_one (emptied m) entry (Let (slot m.next) Turn) (let_one (slot m.next) Turn).statements) g in
    let g1 = inside.more in
    let g2 = inside.few in
    let pushed = count_push m.body (For count a.body) in
    let is = (for_is count a.body).statements in
    record { more = omega arith; few = omega arith }

abbrev W : Type 0
W = Unit {0}

abbrev Keeps : W → Made → Made → Type 0
Keeps w m m' = Grows m m'

abbrev Here' : W → Made → Spot → Type 0
Here' w m p = Unit {0}

abbrev inside : W → Made → W
inside w m = tt

laws : Laws always W Keeps Here' inside
laws = record {
  none = λ w m. none m;
  after = λ w m m1 m2 a b. after m m1 m2 a b;
  stays = λ w m m' p k h. tt;
  enters = λ w m e p h. tt;
  right = λ w m entry r ok fine. with_one m entry (Let (slot m.next) r) (let_one (slot m.next) r).statements;
  right_here = λ w m entry r fine. tt;
  variable = λ w m entry k ok h. with_one m entry (NewVar (slot m.next) (slot k)) (var_one (slot m.next) (slot k)).statements;
  variable_here = λ w m entry k. tt;
  array = λ w m entry n ok. with_one m entry (NewArray (slot m.next) n) (array_is (slot m.next) n).statements;
  array_here = λ w m entry n. tt;
  renamed = λ w m k x label ok. record { more = omega arith; few = omega arith };
  stores = λ w m v k a b. without_slot m (Store (slot v) (slot k)) (store_one (slot v) (slot k)).statements;
  puts = λ w m v i k a b c. without_slot m (Put (slot v) (slot i) (slot k)) (put_one (slot v) (slot i) (slot k)).statements;
  outputs = λ w m k host offset a ok. without_slot m (Output (slot k) host offset) (output_one (slot k) host offset).statements;
  branches = λ w m k offset a b h ga gb. branches m k offset a b ga gb;
  loops = λ w m count entry a ok g. loops m count entry a g;
  turn_here = λ w m entry. tt;
  turn_stays = λ w m entry p h. tt;
}

-- the main statements make at most one slot or block each, beside block 0
pub main_size : (source : Source) → size (main_made source) ≤ 1 + statement_count (main_made source).body
main_size source = let few = (main_keeps always W Keeps Here' inside laws source (source_always source) tt).few in omega arith

module _ (hosts : List (List ℕ)) where
  shown : (m : Made) (names : Named Spot) → Shown hosts always W Keeps Here' inside laws tt m names
  shown m [] = tt
  shown m (e ∷ es) = (tt, shown m es)

  bindings : (m : Made) (ks : List ℕ) → Bindings hosts always W Keeps Here' inside laws tt m ks
  bindings m [] = tt
  bindings m (k ∷ ks) = (tt, bindings m ks)

  module _ (functions : List Function) where
    kept : Calls hosts always W Keeps Here' inside laws (inlinings_of hosts functions)
    kept = all_calls hosts always W Keeps Here' inside laws functions (functions_always hosts functions) [] tt

    pub expr_more : (e : Expr) (names : Named Spot) (here : Here) (m : Made) → size m ≤ size ((lowering hosts e).run (inlinings_of hosts functions) names here m).1
    expr_more e names here m = (expr_keeps hosts always W Keeps Here' inside laws e (expr_always hosts e) (inlinings_of hosts functions) kept names here tt m (shown m names)).0.more

    segment_more : (l : Segment) (names : Named Spot) (here : Here) (x : ℕ) (m : Made) → size m ≤ size (lowering_of_segment hosts l (inlinings_of hosts functions) names here x m).1
    segment_more l names here x m = (segment_keeps hosts always W Keeps Here' inside laws l (segment_always hosts l) (inlinings_of hosts functions) kept names here tt x m (shown m names) tt).0.more

    statement_more : (s : Statement) (block : ℕ) (p : Place) → size p.made ≤ size (lowering_of hosts s (inlinings_of hosts functions) block p).made
    statement_more s block p = (statement_keeps hosts always W Keeps Here' inside laws s (statement_always hosts s) (inlinings_of hosts functions) kept block tt p (shown p.made p.names)).0.more

    pub chain_more : (ls : List Segment) (names : Named Spot) (here : Here) (x : ℕ) (m : Made) → size m ≤ size (chain_made (map (lowering_of_segment hosts) ls) (inlinings_of hosts functions) names here x m).1
    chain_more [] names here x m = omega arith
    chain_more (l ∷ ls) names here x m =
        let p = lowering_of_segment hosts l (inlinings_of hosts functions) names here x m in
        let one = segment_more l names here x m in
        let rest = chain_more ls names here p.0 p.1 in
        omega arith

    pub exprs_more : (es : List Expr) (names : Named Spot) (here : Here) (m : Made) → size m ≤ size (all_made (map (lowering hosts) es) (inlinings_of hosts functions) names here m).1
    exprs_more [] names here m = omega arith
    exprs_more (e ∷ es) names here m =
        let one = expr_more e names here m in
        let rest = exprs_more es names here ((lowering hosts e).run (inlinings_of hosts functions) names here m).1 in
        omega arith

    pub statements_more : (ss : List Statement) (block : ℕ) (p : Place) → size p.made ≤ size (statements_made (map (lowering_of hosts) ss) (inlinings_of hosts functions) block p).made
    statements_more [] block p = omega arith
    statements_more (s ∷ ss) block p =
        let one = statement_more s block p in
        let rest = statements_more ss block (lowering_of hosts s (inlinings_of hosts functions) block p) in
        omega arith

    pub call_more : (name : List ℕ) (here : Here) (ks : List ℕ) (m : Made) → size m ≤ size (call_made (at_name (inlinings_of hosts functions) name) here (ks, m)).1
    call_more name here ks m =
        let is = inlinings_of hosts functions in
        (call_makes hosts always W Keeps Here' inside laws (at_name is name) (at_calls hosts always W Keeps Here' inside laws is name kept) here tt (ks, m) (bindings m ks)).0.more
