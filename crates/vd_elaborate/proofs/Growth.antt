-- What is made so far fits where what is made in the end does.
use Rattle.std.proofs.Common.{◌≡◌, ℕ, zero, suc, ◌+◌, ◌^◌, ◌<◌, ◌≤◌, true, false, bytes_eq, if◌then◌else◌, List, [], ◌∷◌, ◌++◌, Option, Some, None, length, drop, get_or, map, refl, sym, ap, ◌∙◌, subst, add-one, append_assoc, arith, rules}
use Rattle.vd_base.specs.declared.ids.Span.{Span}
use Rattle.vd_base.specs.declared.operations.Kind.TheVariants.{Word}
use Rattle.vd_base.specs.Names.{Named, at_name, bound, place_of}
use Rattle.vd_core.specs.declared.normal.Stmt as stmt
use Rattle.vd_core.specs.declared.normal.Right.TheVariants.{Apply, Turn}
use Rattle.vd_core.specs.declared.source.Ident.{Ident}
use Rattle.vd_core.specs.declared.source.Host.{Host}
use Rattle.vd_core.specs.declared.source.Sign.{Sign}
use Rattle.vd_core.specs.declared.source.Expr.{Expr}
use Rattle.vd_core.specs.declared.source.Expr.TheVariants.{Min, Max, Mux, Unary, Chain, Call}
use Rattle.vd_core.specs.declared.source.Expr.TheOpen.{Expr-F}
use Rattle.vd_core.specs.declared.source.Expr.TheFolds.{the_lemmas}
use Rattle.vd_core.specs.declared.source.Segment.{Segment}
use Rattle.vd_core.specs.declared.source.Statement.{Statement}
use Rattle.vd_core.specs.declared.source.Statement.TheVariants.{Put, If}
use Rattle.vd_core.specs.declared.source.Statement.TheOpen.{Statement-F}
use Rattle.vd_core.specs.declared.source.Statement.TheFolds.{the_lemmas as the_statements}
use Rattle.vd_core.specs.declared.source.Function.{Function}
use Rattle.vd_semantics.specs.SourceMeaning.{host_names, parameter_names}
use Rattle.vd_elaborate.specs.declared.anf.here.Here.{Here}
use Rattle.vd_elaborate.specs.declared.anf.spot.Spot.{Spot}
use Rattle.vd_elaborate.specs.declared.anf.spot.Spot.TheVariants.{Binding, Variable, Array}
use Rattle.vd_elaborate.specs.Normal.{Made, Place, Lowering, StatementLowering, lowering, expr_lowering, lowering_of_segment, chain_made, all_made, lowering_of, statement_lowering, statements_made, inner_made, loop_made, inlining_of, inlinings_of, prefixes_made, put_made, emitted, emptied, with_slot, named_slot, slot, prefix_op, prefix_kind}
use Rattle.vd_elaborate.proofs.AnfWellformedGrowth.{size, chain_more, expr_more, exprs_more, statements_more, call_more}
use Rattle.vd_elaborate.specs.Lowered.{Fits}

-- operators before an operand
prefixes_more : (ss : List Sign) (here : Here) (x : ℕ) (m : Made) → size m ≤ size (prefixes_made ss here x m).1
prefixes_more [] here x m = omega arith
prefixes_more (s ∷ ss) here x m =
    let p = emitted here (prefix_kind s.prefix) (Apply (prefix_op s.prefix) (slot x ∷ [])) m in
    let rest = prefixes_more ss here p.0 p.1 in
    omega arith

pub prefix_within : (ss : List Sign) (k : ℕ) (here : Here) (x : ℕ) (m : Made) → k < length ss → size m + 1 ≤ size (prefixes_made (drop k ss) here x m).1
prefix_within [] k here x m low = absurd (omega arith)
prefix_within (s ∷ ss) zero here x m low =
    let p = emitted here (prefix_kind s.prefix) (Apply (prefix_op s.prefix) (slot x ∷ [])) m in
    let rest = prefixes_more ss here p.0 p.1 in
    omega arith
prefix_within (s ∷ ss) (suc k) here x m low = prefix_within ss k here x m (omega arith)

-- one step of a chain, one of several expressions, one of several statements
module _ (hosts : List (List ℕ)) (fs : List Function) where
  pub segment_within : (ls : List Segment) (k : ℕ) (l : Segment) (names : Named Spot) (here : Here) (x : ℕ) (m : Made) → k < length ls → l ≡ get_or ls k l
      → size (lowering_of_segment hosts l (inlinings_of hosts fs) names here x m).1 ≤ size (chain_made (map (lowering_of_segment hosts) (drop k ls)) (inlinings_of hosts fs) names here x m).1
  segment_within [] k l names here x m low is = absurd (omega arith)
  segment_within (y ∷ ls) zero l names here x m low is =
      let p = lowering_of_segment hosts y (inlinings_of hosts fs) names here x m in
      subst (λ (z : Segment). size (lowering_of_segment hosts z (inlinings_of hosts fs) names here x m).1 ≤ size (chain_made (map (lowering_of_segment hosts) (y ∷ ls)) (inlinings_of hosts fs) names here x m).1) (sym is)
      (chain_more hosts fs ls names here p.0 p.1)
  segment_within (y ∷ ls) (suc k) l names here x m low is = segment_within ls k l names here x m (omega arith) is

  pub expr_within : (es : List Expr) (k : ℕ) (e : Expr) (names : Named Spot) (here : Here) (m : Made) → k < length es → e ≡ get_or es k e
      → size ((lowering hosts e).run (inlinings_of hosts fs) names here m).1 ≤ size (all_made (map (lowering hosts) (drop k es)) (inlinings_of hosts fs) names here m).1
  expr_within [] k e names here m low is = absurd (omega arith)
  expr_within (y ∷ es) zero e names here m low is =
      subst (λ (z : Expr). size ((lowering hosts z).run (inlinings_of hosts fs) names here m).1 ≤ size (all_made (map (lowering hosts) (y ∷ es)) (inlinings_of hosts fs) names here m).1) (sym is)
      (exprs_more hosts fs es names here ((lowering hosts y).run (inlinings_of hosts fs) names here m).1)
  expr_within (y ∷ es) (suc k) e names here m low is = expr_within es k e names here m (omega arith) is

  pub statement_within : (ss : List Statement) (k : ℕ) (s : Statement) (block : ℕ) (p : Place) → k < length ss → s ≡ get_or ss k s
      → size (lowering_of hosts s (inlinings_of hosts fs) block p).made ≤ size (statements_made (map (lowering_of hosts) (drop k ss)) (inlinings_of hosts fs) block p).made
  statement_within [] k s block p low is = absurd (omega arith)
  statement_within (y ∷ ss) zero s block p low is =
      subst (λ (z : Statement). size (lowering_of hosts z (inlinings_of hosts fs) block p).made ≤ size (statements_made (map (lowering_of hosts) (y ∷ ss)) (inlinings_of hosts fs) block p).made) (sym is)
      (statements_more hosts fs ss block (lowering_of hosts y (inlinings_of hosts fs) block p))
  statement_within (y ∷ ss) (suc k) s block p low is = statement_within ss k s block p (omega arith) is

-- a step of a chain, and one more expression, in a loop
module _ (hosts : List (List ℕ)) (fs : List Function) (names : Named Spot) (here : Here) where
  abbrev pub run : Expr → Made → ℕ × Made
  run e m = (lowering hosts e).run (inlinings_of hosts fs) names here m

  abbrev chained : List Segment → ℕ → Made → ℕ × Made
  chained ls x m = chain_made (map (lowering_of_segment hosts) ls) (inlinings_of hosts fs) names here x m

  abbrev all_run : List Expr → Made → List ℕ × Made
  all_run es m = all_made (map (lowering hosts) es) (inlinings_of hosts fs) names here m

  chain_next : (ls : List Segment) (k : ℕ) (l : Segment) (x : ℕ) (m : Made) (r : ℕ × Made) → k < length ls → l ≡ get_or ls k l
      → r ≡ lowering_of_segment hosts l (inlinings_of hosts fs) names here x m → chained (drop (suc k) ls) r.0 r.1 ≡ chained (drop k ls) x m
  chain_next [] k l x m r low is made = absurd (omega arith)
  chain_next (y ∷ ls) zero l x m r low is made =
      ap (λ (q : ℕ × Made). chained ls q.0 q.1) (made ∙ ap (λ (z : Segment). lowering_of_segment hosts z (inlinings_of hosts fs) names here x m) is)
  chain_next (y ∷ ls) (suc k) l x m r low is made = chain_next ls k l x m r (omega arith) is made

  pub chain_step : (ls : List Segment) (k : ℕ) (l : Segment) (x : ℕ) (m : Made) (r : ℕ × Made) → k < length ls → l ≡ get_or ls k l
      → r ≡ lowering_of_segment hosts l (inlinings_of hosts fs) names here x m → chained (drop (k + 1) ls) r.0 r.1 ≡ chained (drop k ls) x m
  chain_step ls k l x m r low is made = ap (λ j. chained (drop j ls) r.0 r.1) (add-one k) ∙ chain_next ls k l x m r low is made

  exprs_next : (es : List Expr) (k : ℕ) (e : Expr) (m : Made) (r : ℕ × Made) → k < length es → e ≡ get_or es k e → r ≡ run e m
      → ◌≡◌ {A = List ℕ × Made} (r.0 ∷ (all_run (drop (suc k) es) r.1).0, (all_run (drop (suc k) es) r.1).1) (all_run (drop k es) m)
  exprs_next [] k e m r low is made = absurd (omega arith)
  exprs_next (y ∷ es) zero e m r low is made =
      ap (λ (q : ℕ × Made). let rest = all_run es q.1 in (q.0 ∷ rest.0, rest.1)) (made ∙ ap (λ (z : Expr). run z m) is)
  exprs_next (y ∷ es) (suc k) e m r low is made = exprs_next es k e m r (omega arith) is made

  pub exprs_step : (es : List Expr) (k : ℕ) (e : Expr) (m : Made) (r : ℕ × Made) (xs : List ℕ) → k < length es → e ≡ get_or es k e → r ≡ run e m
      → ◌≡◌ {A = List ℕ × Made} ((xs ++ r.0 ∷ []) ++ (all_run (drop (k + 1) es) r.1).0, (all_run (drop (k + 1) es) r.1).1) (xs ++ (all_run (drop k es) m).0, (all_run (drop k es) m).1)
  exprs_step es k e m r xs low is made =
      ap (λ j. ((xs ++ r.0 ∷ []) ++ (all_run (drop j es) r.1).0, (all_run (drop j es) r.1).1)) (add-one k)
      ∙ ap (λ z. (z, (all_run (drop (suc k) es) r.1).1)) (append_assoc xs (r.0 ∷ []) (all_run (drop (suc k) es) r.1).0)
      ∙ ap (λ (q : List ℕ × Made). (xs ++ q.0, q.1)) (exprs_next es k e m r low is made)

  -- ---- the operands of an expression: what they make is at most what it makes
  abbrev Part : Expr → Expr → Type 0
  Part x e = (m : Made) → size (run x m).1 ≤ size (run e m).1

  pub min_first : (at : Span) (x y : Expr) → Part x (Min at x y)
  min_first at x y m =
      let whole : lowering hosts (Min at x y) ≡ expr_lowering hosts (Expr-F.Min at (lowering hosts x) (lowering hosts y)) = search (rules, the_lemmas) in
      let same = ap (λ (l : Lowering). size (l.run (inlinings_of hosts fs) names here m).1) whole in
      let second = expr_more hosts fs y names here (run x m).1 in
      omega arith

  pub max_first : (at : Span) (x y : Expr) → Part x (Max at x y)
  max_first at x y m =
      let whole : lowering hosts (Max at x y) ≡ expr_lowering hosts (Expr-F.Max at (lowering hosts x) (lowering hosts y)) = search (rules, the_lemmas) in
      let same = ap (λ (l : Lowering). size (l.run (inlinings_of hosts fs) names here m).1) whole in
      let second = expr_more hosts fs y names here (run x m).1 in
      omega arith

  mux_second : (at : Span) (x y z : Expr) (m : Made) → size (run y (run x m).1).1 ≤ size (run (Mux at x y z) m).1
  mux_second at x y z m =
      let whole : lowering hosts (Mux at x y z) ≡ expr_lowering hosts (Expr-F.Mux at (lowering hosts x) (lowering hosts y) (lowering hosts z)) = search (rules, the_lemmas) in
      let same = ap (λ (l : Lowering). size (l.run (inlinings_of hosts fs) names here m).1) whole in
      let third = expr_more hosts fs z names here (run y (run x m).1).1 in
      omega arith

  pub mux_first : (at : Span) (x y z : Expr) → Part x (Mux at x y z)
  mux_first at x y z m =
      let second = expr_more hosts fs y names here (run x m).1 in
      let whole = mux_second at x y z m in
      omega arith

  pub unary_operand : (x : Expr) (signs : List Sign) → Part x (Unary x signs)
  unary_operand x signs m =
      let whole : lowering hosts (Unary x signs) ≡ expr_lowering hosts (Expr-F.Unary (lowering hosts x) signs) = search (rules, the_lemmas) in
      let same = ap (λ (l : Lowering). size (l.run (inlinings_of hosts fs) names here m).1) whole in
      let rest = prefixes_more signs here (run x m).0 (run x m).1 in
      omega arith

  pub chain_operand : (x : Expr) (segments : List Segment) → Part x (Chain x segments)
  chain_operand x segments m =
      let whole : lowering hosts (Chain x segments) ≡ expr_lowering hosts (Expr-F.Chain (lowering hosts x) (map (lowering_of_segment hosts) segments)) = search (rules, the_lemmas) in
      let same = ap (λ (l : Lowering). size (l.run (inlinings_of hosts fs) names here m).1) whole in
      let rest = chain_more hosts fs segments names here (run x m).0 (run x m).1 in
      omega arith

  pub call_arguments : (f : Ident) (arguments : List Expr) (m : Made) → size (all_run arguments m).1 ≤ size (run (Call f arguments) m).1
  call_arguments f arguments m =
      let whole : lowering hosts (Call f arguments) ≡ expr_lowering hosts (Expr-F.Call f (map (lowering hosts) arguments)) = search (rules, the_lemmas) in
      let same = ap (λ (l : Lowering). size (l.run (inlinings_of hosts fs) names here m).1) whole in
      let rest = call_more hosts fs f.name here (all_run arguments m).0 (all_run arguments m).1 in
      omega arith

-- where the whole fits, so does the part that is read in its place
pub part_fits : (hosts : List (List ℕ)) (fs : List Function) (names : Named Spot) (here : Here) (x x' e whole : Expr) (m : Made) → e ≡ whole → x' ≡ x
    → size (run hosts fs names here x m).1 ≤ size (run hosts fs names here whole m).1 → Fits (run hosts fs names here e m).1 → Fits (run hosts fs names here x' m).1
part_fits hosts fs names here x x' e whole m is read part fits =
    let all = ap (λ (z : Expr). size (run hosts fs names here z m).1) is in
    let same = ap (λ (z : Expr). size (run hosts fs names here z m).1) read in
    omega arith

pub second_fits : (hosts : List (List ℕ)) (fs : List Function) (names : Named Spot) (here : Here) (at : Span) (x y z x' y' e : Expr) (m : Made) (r : ℕ × Made) → e ≡ Mux at x y z → x' ≡ x → y' ≡ y
    → r ≡ run hosts fs names here x' m → Fits (run hosts fs names here e m).1 → Fits (run hosts fs names here y' r.1).1
second_fits hosts fs names here at x y z x' y' e m r is first second made fits =
    let all = ap (λ (z : Expr). size (run hosts fs names here z m).1) is in
    let begun : r ≡ run hosts fs names here x m = made ∙ ap (λ (z : Expr). run hosts fs names here z m) first in
    let same = ap (λ (q : ℕ × Made). size (run hosts fs names here y' q.1).1) begun in
    let read = ap (λ (w : Expr). size (run hosts fs names here w (run hosts fs names here x m).1).1) second in
    let part = mux_second hosts fs names here at x y z m in
    omega arith

-- ---- the parts of a statement, a loop and a function
module _ (hosts : List (List ℕ)) (fs : List Function) where
  pub inside_more : (ss : List Statement) (block : ℕ) (names : Named Spot) (m : Made) → size m ≤ size (inner_made (map (lowering_of hosts) ss) (inlinings_of hosts fs) block names m)
  inside_more ss block names m = statements_more hosts fs ss block (record { names = names; made = emptied m })

  pub turn_more : (x : Ident) (ss : List Statement) (here : Here) (names : Named Spot) (m : Made) → size m + 1 ≤ size (loop_made x (map (lowering_of hosts) ss) (inlinings_of hosts fs) here names m)
  turn_more x ss here names m =
      let start : Place = record { names = names ++ (x.name, Binding m.next) ∷ []; made = (with_slot (named_slot here x Word None) (stmt.Let (slot m.next) Turn) (emptied m)).1 } in
      let more = statements_more hosts fs ss here.block start in
      omega arith

  pub body_within : (f : Function) (here : Here) (ks : List ℕ) (names : Named Spot) (m : Made) (body : List Statement) → names ≡ bound Binding (parameter_names f.parameters) ks → body ≡ f.body
      → Fits (inlining_of hosts f (inlinings_of hosts fs) here ks m).1 → Fits (statements_made (map (lowering_of hosts) body) (inlinings_of hosts fs) here.block (record { names = names; made = m })).made
  body_within f here ks names m body bind is fits =
      let start : Place = record { names = bound Binding (parameter_names f.parameters) ks; made = m } in
      let p = statements_made (map (lowering_of hosts) f.body) (inlinings_of hosts fs) here.block start in
      let named = ap (λ (ns : Named Spot). size (statements_made (map (lowering_of hosts) body) (inlinings_of hosts fs) here.block (record { names = ns; made = m })).made) bind in
      let read = ap (λ (ss : List Statement). size (statements_made (map (lowering_of hosts) ss) (inlinings_of hosts fs) here.block start).made) is in
      let gives = expr_more hosts fs f.gives p.names here p.made in
      omega arith

  put_more : (o : Option Spot) (i : ℕ) (p : ℕ × Made) → size p.1 ≤ size (put_made o i p)
  put_more None i p = omega arith
  put_more (Some (Binding k)) i p = omega arith
  put_more (Some (Variable k)) i p = omega arith
  put_more (Some (Array k)) i p = omega arith

  abbrev made_by : Statement → ℕ → Place → Made
  made_by s block p = (lowering_of hosts s (inlinings_of hosts fs) block p).made

  pub put_index : (s : Statement) (x : Ident) (i e : Expr) (block : ℕ) (names names' : Named Spot) (m : Made) → s ≡ Put x i e → names' ≡ names
      → Fits (made_by s block (record { names = names; made = m })) → Fits (run hosts fs names' (record { offset = x.span.start; block = block }) i m).1
  put_index s x i e block names names' m is read fits =
      let here : Here = record { offset = x.span.start; block = block } in
      let q = run hosts fs names here i m in
      let start : Place = record { names = names; made = m } in
      let whole : lowering_of hosts (Put x i e) ≡ statement_lowering hosts (Statement-F.Put x i e) = search (rules, the_statements) in
      let all = ap (λ (z : Statement). size (made_by z block start)) is in
      let same = ap (λ (l : StatementLowering). size (l (inlinings_of hosts fs) block start).made) whole in
      let seen = ap (λ (ns : Named Spot). size (run hosts fs ns here i m).1) read in
      let value = expr_more hosts fs e names here q.1 in
      let last = put_more (at_name names x.name) q.0 (run hosts fs names here e q.1) in
      omega arith

  -- an If: its guard, and then its block
  if_more : (s : Statement) (at : Span) (guard : Expr) (a b : List Statement) (block : ℕ) (names : Named Spot) (m : Made) → s ≡ If at guard a b
      → size (run hosts fs names (record { offset = at.start; block = block }) guard m).1 + 1 ≤ size (made_by s block (record { names = names; made = m }))
  if_more s at guard a b block names m is =
      let here : Here = record { offset = at.start; block = block } in
      let q = run hosts fs names here guard m in
      let start : Place = record { names = names; made = m } in
      let whole : lowering_of hosts (If at guard a b) ≡ statement_lowering hosts (Statement-F.If at guard (map (lowering_of hosts) a) (map (lowering_of hosts) b)) = search (rules, the_statements) in
      let all = ap (λ (z : Statement). size (made_by z block start)) is in
      let same = ap (λ (l : StatementLowering). size (l (inlinings_of hosts fs) block start).made) whole in
      let begun : Made = record { next = q.1.next; slots = q.1.slots; blocks = q.1.blocks + 1; body = q.1.body } in
      let first = inside_more a q.1.blocks names begun in
      let second = inside_more b q.1.blocks names (inner_made (map (lowering_of hosts) a) (inlinings_of hosts fs) q.1.blocks names begun) in
      omega arith

  pub guard_fits : (s : Statement) (at : Span) (guard : Expr) (a b : List Statement) (block : ℕ) (names names' : Named Spot) (m : Made) → s ≡ If at guard a b → names' ≡ names
      → Fits (made_by s block (record { names = names; made = m })) → Fits (run hosts fs names' (record { offset = at.start; block = block }) guard m).1
  guard_fits s at guard a b block names names' m is read fits =
      let here : Here = record { offset = at.start; block = block } in
      let more = if_more s at guard a b block names m is in
      let seen = ap (λ (ns : Named Spot). size (run hosts fs ns here guard m).1) read in
      omega arith

  pub block_fits : (s : Statement) (at : Span) (guard : Expr) (a b : List Statement) (block : ℕ) (names names' : Named Spot) (m : Made) (r : ℕ × Made) → s ≡ If at guard a b → names' ≡ names
      → r ≡ run hosts fs names' (record { offset = at.start; block = block }) guard m → Fits (made_by s block (record { names = names; made = m })) → r.1.next + (r.1.blocks + 1) < 2 ^ 16
  block_fits s at guard a b block names names' m r is read made fits =
      let here : Here = record { offset = at.start; block = block } in
      let more = if_more s at guard a b block names m is in
      let begun = ap (λ (q : ℕ × Made). size q.1) made in
      let seen = ap (λ (ns : Named Spot). size (run hosts fs ns here guard m).1) read in
      omega arith

-- the place of a host is at most their number
pub place_within : (hosts : List (List ℕ)) (name : List ℕ) → place_of hosts name ≤ length hosts
place_within [] name = omega arith
place_within (x ∷ hosts) name =
    elim (bytes_eq x name) as (λ b. (if b then zero else suc (place_of hosts name)) ≤ suc (length hosts)) [
      | true ↦ omega arith
      | false ↦ (let rest = place_within hosts name in omega arith)
    ]

pub hosts_length : (hs : List Host) → length (host_names hs) ≡ length hs
hosts_length [] = refl
hosts_length (h ∷ hs) = ap suc (hosts_length hs)
