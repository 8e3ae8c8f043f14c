-- What is made of a statement does what the statement does.
use Rattle.std.proofs.Common.{◌≡◌, ℕ, zero, suc, ◌+◌, ◌<◌, ◌≤◌, Bool, true, false, List, [], ◌∷◌, ◌++◌, append_assoc, append-nil, length, take, map, Option, Some, None, refl, sym, ap, ◌∙◌, subst, arith, rules, replicate, slice_set, if◌then◌else◌, nat_eq}
use Rattle.vd_base.specs.declared.ids.HostId.{HostId}
use Rattle.vd_base.specs.declared.ids.Span.{Span}
use Rattle.vd_base.specs.declared.operations.Kind.{Kind}
use Rattle.vd_base.specs.declared.operations.Kind.TheVariants.{Word}
use Rattle.vd_core.specs.declared.normal.Right.TheVariants.{Turn, Copy}
use Rattle.vd_core.specs.declared.normal.Stmt.{Stmt, Let, NewVar, Store, NewArray, Put, Output, If, For}
use Rattle.vd_core.specs.declared.normal.Stmt.TheFolds.{the_lemmas}
use Rattle.vd_core.specs.declared.normal.Stmt.TheOpen.{Stmt-F}
use Rattle.vd_core.specs.declared.source.Ident.{Ident}
use Rattle.vd_core.specs.declared.source.WrittenLabel.{WrittenLabel}
use Rattle.vd_core.specs.declared.source.Expr.{Expr}
use Rattle.vd_core.specs.declared.source.Statement.TheOpen.{Statement-F}
use Rattle.vd_semantics.specs.declared.held.Held.{Held}
use Rattle.vd_semantics.specs.declared.held.Held.TheVariants.{Bound, Cell, Elements}
use Rattle.vd_semantics.specs.World.{World, after_output}
use Rattle.vd_base.specs.Names.{Named, at_name, changed, place_of}
use Rattle.vd_semantics.specs.Turns.{turns}
use Rattle.vd_semantics.specs.ProgramMeaning.{SlotState, Effect, in_world, in_order, stmt_effect, effect, block_effect}
use Rattle.vd_semantics.specs.SourceMeaning.{State, Callee, evaluation, store_word, store_element, Execution, in_sequence, left_block, block_execution, with_name, turn_execution, statement_execution}
use Rattle.vd_elaborate.specs.declared.anf.spot.Spot.{Spot}
use Rattle.vd_elaborate.specs.declared.anf.spot.Spot.TheVariants.{Binding, Variable, Array}
use Rattle.vd_elaborate.specs.declared.anf.here.Here.{Here}
use Rattle.vd_elaborate.specs.Normal.{Made, slot, host_id, with_stmt, with_slot, named_slot, emitted, kind_at, Inlining, Place, StatementLowering, lowering, statements_made, emptied, inner_made, loop_made, copied, stored, put_made, if_made, for_made, statement_lowering}
use Rattle.vd_elaborate.proofs.Slots.{item_put, word, array, put_word, put_array, word_other, array_other, word_same, cell, slot_of, fixed, shown, Still, Same, Apart, Good, good_more, apart_push, good_push, apart_found, held, held_append, held_same, changed_held, unchanged_held}
use Rattle.vd_elaborate.proofs.Gives.{ran, block_push, effect_let, Gives, emit_gives, then_gives, Sights, Both}
use Rattle.vd_elaborate.proofs.Exprs.{expr_means}

effect_var : (v x : ℕ) → effect (NewVar (slot v) (slot x)) ≡ stmt_effect (Stmt-F.NewVar (slot v) (slot x))
effect_var v x = search (rules, the_lemmas)

effect_store : (v x : ℕ) → effect (Store (slot v) (slot x)) ≡ stmt_effect (Stmt-F.Store (slot v) (slot x))
effect_store v x = search (rules, the_lemmas)

effect_array : (v n : ℕ) → effect (NewArray (slot v) n) ≡ stmt_effect (Stmt-F.NewArray (slot v) n)
effect_array v n = search (rules, the_lemmas)

effect_put : (v i x : ℕ) → effect (Put (slot v) (slot i) (slot x)) ≡ stmt_effect (Stmt-F.Put (slot v) (slot i) (slot x))
effect_put v i x = search (rules, the_lemmas)

effect_output : (x : ℕ) (h : HostId) (offset : ℕ) → effect (Output (slot x) h offset) ≡ stmt_effect (Stmt-F.Output (slot x) h offset)
effect_output x h offset = search (rules, the_lemmas)

effect_if : (x : ℕ) (a b : List Stmt) (offset : ℕ) → effect (If (slot x) a b offset) ≡ stmt_effect (Stmt-F.If (slot x) (map effect a) (map effect b) offset)
effect_if x a b offset = search (rules, the_lemmas)

effect_for : (n : ℕ) (body : List Stmt) → effect (For n body) ≡ stmt_effect (Stmt-F.For n (map effect body))
effect_for n body = search (rules, the_lemmas)

pushed : (xs : List Stmt) (x : Stmt) (f : Effect) → effect x ≡ f → (turn : ℕ) (s : SlotState) → block_effect (xs ++ x ∷ []) turn s ≡ f turn (block_effect xs turn s)
pushed xs x f is turn s = block_push xs x turn s ∙ ap (λ (g : Effect). g turn (block_effect xs turn s)) is

-- a state of the source, as a state of the slots shows it
abbrev pub view : Named Spot → SlotState → State
view names s = record { env = held s names; world = s.world }

-- no variable in sight has slot k
abbrev pub NotVar : ℕ → Named Spot → Type 0
NotVar k names = Apart (Binding k) names

-- with names in sight whose slots are below n, s became s', which now shows t
pub record Does (names : Named Spot) (n : ℕ) (s s' : SlotState) (names' : Named Spot) (n' : ℕ) (t : State) : Type 0 where
  pub seen : view names' s' ≡ t
  pub good : Good names' n'
  pub more : n ≤ n'
  pub same : (k : ℕ) → k < n → NotVar k names → cell s' k ≡ cell s k
  pub apart : (k : ℕ) → k < n → NotVar k names → NotVar k names'
  pub back : Named Spot
  pub grown : names' ≡ names ++ back

abbrev pub place : Named Spot → Made → Place
place names m = record { names = names; made = m }

abbrev pub StatementMeans : Execution → StatementLowering → Type 0
StatementMeans f l =
    (gs : Named Callee) (is : Named Inlining) → Sights gs is → (names : Named Spot) (block : ℕ) (m : Made) (turn : ℕ) (s0 : SlotState) → Good names m.next
    → Does names m.next (ran m turn s0) (ran (l is block (place names m)).made turn s0) (l is block (place names m)).names (l is block (place names m)).made.next (f gs (view names (ran m turn s0)))

pub sequence_means : (fs : List Execution) (ls : List StatementLowering) → Both StatementMeans fs ls → StatementMeans (in_sequence fs) (statements_made ls)
sequence_means [] [] both gs is h names block m turn s0 good =
    record { seen = refl; good = good; more = omega arith; same = λ k lt nv. refl; apart = λ k lt nv. nv; back = []; grown = sym (append-nil names) }
sequence_means [] (l ∷ ls) both gs is h names block m turn s0 good = absurd both
sequence_means (f ∷ fs) [] both gs is h names block m turn s0 good = absurd both
sequence_means (f ∷ fs) (l ∷ ls) both gs is h names block m turn s0 good =
    let p = l is block (place names m) in
    let one = both.0 gs is h names block m turn s0 good in
    let rest = sequence_means fs ls both.1 gs is h p.names block p.made turn s0 one.good in
    let more1 = one.more in
    let more2 = rest.more in
    record {
      seen = rest.seen ∙ ap (in_sequence fs gs) one.seen;
      good = rest.good;
      more = omega arith;
      same = λ k lt nv. rest.same k (omega arith) (one.apart k lt nv) ∙ one.same k lt nv;
      apart = λ k lt nv. rest.apart k (omega arith) (one.apart k lt nv);
      back = one.back ++ rest.back;
      grown = rest.grown ∙ ap (λ z. z ++ rest.back) one.grown ∙ append_assoc names one.back rest.back;
    }

held_length : (s : SlotState) (xs : Named Spot) → length (held s xs) ≡ length xs
held_length s [] = refl
held_length s (x ∷ xs) = ap suc (held_length s xs)

take_front : (xs ys : Named Held) → take (length xs) (xs ++ ys) ≡ xs
take_front [] ys = refl
take_front (x ∷ xs) ys = ap (λ z. x ∷ z) (take_front xs ys)

-- at the end of a block its names go, on both sides
left_view : (names back names' : Named Spot) (s s' : SlotState) → names' ≡ names ++ back → left_block (view names s) (view names' s') ≡ view names s'
left_view names back names' s s' is =
    let cut : take (length (held s names)) (held s' (names ++ back)) ≡ held s' names =
    ap (λ k. take k (held s' (names ++ back))) (held_length s names ∙ sym (held_length s' names))
    ∙ ap (take (length (held s' names))) (held_append s' names back) ∙ take_front (held s' names) (held s' back) in
    rw (is, cut) refl

-- a block that has ended
pub record Within (names : Named Spot) (n : ℕ) (s s' : SlotState) (n' : ℕ) (t : State) : Type 0 where
  pub seen : view names s' ≡ t
  pub more : n ≤ n'
  pub same : (k : ℕ) → k < n → NotVar k names → cell s' k ≡ cell s k

within_of : (names : Named Spot) (n : ℕ) (s s' : SlotState) (names' : Named Spot) (n' : ℕ) (t : State) → Does names n s s' names' n' t → Within names n s s' n' (left_block (view names s) t)
within_of names n s s' names' n' t d = record {
  seen = sym (left_view names d.back names' s s' d.grown) ∙ ap (left_block (view names s)) d.seen;
  more = d.more;
  same = d.same;
}

inner_within : (fs : List Execution) (ls : List StatementLowering) → Both StatementMeans fs ls → (gs : Named Callee) (is : Named Inlining) → Sights gs is → (names : Named Spot) (block : ℕ) (m : Made) (turn : ℕ) (s : SlotState) → Good names m.next
    → Within names m.next s (block_effect (inner_made ls is block names m).body turn s) (inner_made ls is block names m).next (block_execution fs gs (view names s))
inner_within fs ls both gs is h names block m turn s good =
    let p = statements_made ls is block (place names (emptied m)) in
    within_of names m.next s (ran p.made turn s) p.names p.made.next (in_sequence fs gs (view names s)) (sequence_means fs ls both gs is h names block (emptied m) turn s good)

-- what a block leaves: the names outside
outside : (names : Named Spot) (n : ℕ) (s s' : SlotState) (n' : ℕ) (t : State) → Good names n → Within names n s s' n' t → Does names n s s' names n' t
outside names n s s' n' t good w = record {
  seen = w.seen;
  good = good_more names n n' good w.more;
  more = w.more;
  same = w.same;
  apart = λ k lt nv. nv;
  back = [];
  grown = sym (append-nil names);
}

-- one name more, of a new slot
binding_does : (x : List ℕ) (names : Named Spot) (n : ℕ) (s s' : SlotState) (k n' : ℕ) (q : ℕ × World) → Good names n → Gives n false s s' k n' q
    → Does names n s s' (names ++ (x, Binding k) ∷ []) n' (record { env = held s names ++ (x, Bound q.0) ∷ []; world = q.1 })
binding_does x names n s s' k n' q good g =
    let fresh = g.fresh refl in
    record {
      seen = rw (held_append s' names ((x, Binding k) ∷ []), g.value, g.world, held_same names n s s' good g.same) refl;
      good = good_push x (Binding k) names n n' good fresh g.below;
      more = g.more;
      same = λ j lt nv. g.same j lt;
      apart = λ j lt nv. apart_push x (Binding j) (Binding k) names nv (omega arith);
      back = (x, Binding k) ∷ [];
      grown = refl;
    }

copy_gives : (b : Bool) (here : Here) (n : ℕ) (s : SlotState) (k : ℕ) (m : Made) (turn : ℕ) (s0 : SlotState) (q : ℕ × World) → Gives n b s (ran m turn s0) k m.next q
    → Gives n false s (ran (copied b here (k, m)).1 turn s0) (copied b here (k, m)).0 (copied b here (k, m)).1.next q
copy_gives true here n s k m turn s0 q g =
    let kind = kind_at m k in
    let emit = emit_gives false here kind (Copy (slot k)) m turn s0 in
    let emit' = rw (g.value, g.world) at emit in
    then_gives n true false s (ran m turn s0) (ran (emitted here kind (Copy (slot k)) m).1 turn s0) k m.next m.next (m.next + 1) q q g emit'
copy_gives false here n s k m turn s0 q g = g

-- where the name is none that can be changed, nothing is stored
no_store : (x : List ℕ) (f : Held → Held) (names : Named Spot) (n : ℕ) (s s1 : SlotState) (n1 : ℕ) (w : World) → Good names n → n ≤ n1 → Same n s s1 → s1.world ≡ w → Still f s (at_name names x)
    → Does names n s s1 names n1 (record { env = changed f x (held s names); world = w })
no_store x f names n s s1 n1 w good more same world still = record {
  seen = rw (unchanged_held names s x f still, world, held_same names n s s1 good same) refl;
  good = good_more names n n1 good more;
  more = more;
  same = λ k lt nv. same k lt;
  apart = λ k lt nv. nv;
  back = [];
  grown = sym (append-nil names);
}

-- a store to the slot of a name
store_does : (x : List ℕ) (f : Held → Held) (names : Named Spot) (n : ℕ) (s s1 s2 : SlotState) (n1 : ℕ) (w : World) → Good names n → n ≤ n1 → Same n s s1 → s2.world ≡ w
    → (v : Spot) → at_name names x ≡ Some v → fixed v ≡ false → ((k : ℕ) → (slot_of v ≡ k → ⊥) → cell s2 k ≡ cell s1 k) → shown s2 v ≡ f (shown s1 v)
    → Does names n s s2 names n1 (record { env = changed f x (held s names); world = w })
store_does x f names n s s1 s2 n1 w good more same world v e is other here = record {
  seen = rw (changed_held names n s1 s2 x v f good e is other here, world, held_same names n s s1 good same) refl;
  good = good_more names n n1 good more;
  more = more;
  same = λ j lt nv. other j (λ eq. apart_found (Binding j) names x v nv e is (sym eq)) ∙ same j lt;
  apart = λ k lt nv. nv;
  back = [];
  grown = sym (append-nil names);
}

set_does : (x : List ℕ) (names : Named Spot) (n : ℕ) (b : Bool) (s : SlotState) (k : ℕ) (m : Made) (turn : ℕ) (s0 : SlotState) (q : ℕ × World) → Good names n → Gives n b s (ran m turn s0) k m.next q
    → (o : Option Spot) → at_name names x ≡ o
    → Does names n s (ran (stored o (k, m)) turn s0) names (stored o (k, m)).next (record { env = changed (store_word q.0) x (held s names); world = q.1 })
set_does x names n b s k m turn s0 q good g None e = no_store x (store_word q.0) names n s (ran m turn s0) m.next q.1 good g.more g.same g.world (rw e tt)
set_does x names n b s k m turn s0 q good g (Some (Binding v)) e = no_store x (store_word q.0) names n s (ran m turn s0) m.next q.1 good g.more g.same g.world (rw e refl)
set_does x names n b s k m turn s0 q good g (Some (Array v)) e = no_store x (store_word q.0) names n s (ran m turn s0) m.next q.1 good g.more g.same g.world (rw e refl)
set_does x names n b s k m turn s0 q good g (Some (Variable v)) e =
    let s1 = ran m turn s0 in
    let s2 : SlotState = put_word v (word s1 k) s1 in
    let ran2 : ran (with_stmt (Store (slot v) (slot k)) m) turn s0 ≡ s2 = pushed m.body (Store (slot v) (slot k)) (stmt_effect (Stmt-F.Store (slot v) (slot k))) (effect_store v k) turn s0 in
    subst (λ z. Does names n s z names m.next (record { env = changed (store_word q.0) x (held s names); world = q.1 })) (sym ran2)
    (store_does x (store_word q.0) names n s s1 s2 m.next q.1 good g.more g.same g.world (Variable v) e refl (λ j ne. word_other s1 v j (word s1 k) ne) (ap Cell (item_put 0 s1.words v (word s1 k) ∙ g.value)))

-- a write, once the index i and the word are there
put_does : (x : List ℕ) (names : Named Spot) (n : ℕ) (s : SlotState) (i j k : ℕ) (m : Made) (turn : ℕ) (s0 : SlotState) (w : ℕ) (u : World) → Good names n → n ≤ m.next → Same n s (ran m turn s0)
    → word (ran m turn s0) i ≡ j → word (ran m turn s0) k ≡ w → (ran m turn s0).world ≡ u
    → (o : Option Spot) → at_name names x ≡ o
    → Does names n s (ran (put_made o i (k, m)) turn s0) names (put_made o i (k, m)).next (record { env = changed (store_element j w) x (held s names); world = u })
put_does x names n s i j k m turn s0 w u good more same index stored world None e = no_store x (store_element j w) names n s (ran m turn s0) m.next u good more same world (rw e tt)
put_does x names n s i j k m turn s0 w u good more same index stored world (Some (Binding v)) e = no_store x (store_element j w) names n s (ran m turn s0) m.next u good more same world (rw e refl)
put_does x names n s i j k m turn s0 w u good more same index stored world (Some (Variable v)) e = no_store x (store_element j w) names n s (ran m turn s0) m.next u good more same world (rw e refl)
put_does x names n s i j k m turn s0 w u good more same index stored world (Some (Array v)) e =
    let s1 = ran m turn s0 in
    let ws = slice_set (array s1 v) (word s1 i) (word s1 k) in
    let s2 : SlotState = put_array v ws s1 in
    let ran2 : ran (with_stmt (Put (slot v) (slot i) (slot k)) m) turn s0 ≡ s2 = pushed m.body (Put (slot v) (slot i) (slot k)) (stmt_effect (Stmt-F.Put (slot v) (slot i) (slot k))) (effect_put v i k) turn s0 in
    subst (λ z. Does names n s z names m.next (record { env = changed (store_element j w) x (held s names); world = u })) (sym ran2)
    (store_does x (store_element j w) names n s s1 s2 m.next u good more same world (Array v) e refl (λ j ne. array_other s1 v j ws ne)
    (ap Elements (item_put [] s1.arrays v ws ∙ ap (λ z. slice_set (array s1 v) z (word s1 k)) index ∙ ap (slice_set (array s1 v) j) stored)))

if_within : (fa fb : List Execution) (la lb : List StatementLowering) → Both StatementMeans fa la → Both StatementMeans fb lb → (gs : Named Callee) (is : Named Inlining) → Sights gs is
    → (names : Named Spot) (block : ℕ) (m : Made) (turn : ℕ) (s : SlotState) → Good names m.next → (b : Bool)
    → Within names m.next s (in_order (if b then map effect (inner_made lb is block names (inner_made la is block names m)).body else map effect (inner_made la is block names m).body) turn s)
    (inner_made lb is block names (inner_made la is block names m)).next (block_execution (if b then fb else fa) gs (view names s))
if_within fa fb la lb both_a both_b gs is h names block m turn s good b =
    let a = inner_made la is block names m in
    let wa = inner_within fa la both_a gs is h names block m turn s good in
    let wb = inner_within fb lb both_b gs is h names block a turn s (good_more names m.next a.next good wa.more) in
    let more1 = wa.more in
    let more2 = wb.more in
    elim b as (λ b. Within names m.next s (in_order (if b then map effect (inner_made lb is block names (inner_made la is block names m)).body else map effect (inner_made la is block names m).body) turn s)
    (inner_made lb is block names (inner_made la is block names m)).next (block_execution (if b then fb else fa) gs (view names s))) [
      | true ↦ record { seen = wb.seen; more = omega arith; same = λ k lt nv. wb.same k (omega arith) nv }
      | false ↦ record { seen = wa.seen; more = omega arith; same = wa.same }
    ]

turn_within : (x : Ident) (fs : List Execution) (ls : List StatementLowering) → Both StatementMeans fs ls → (gs : Named Callee) (is : Named Inlining) → Sights gs is → (names : Named Spot) (here : Here) (m : Made) (i : ℕ) (s : SlotState) → Good names m.next
    → Within names m.next s (block_effect (loop_made x ls is here names m).body i s) (loop_made x ls is here names m).next (turn_execution x.name fs gs i (view names s))
turn_within x fs ls both gs is h names here m i s good =
    let n = m.next in
    let m1 : Made = (with_slot (named_slot here x Word None) (Let (slot m.next) Turn) (emptied m)).1 in
    let names1 : Named Spot = names ++ (x.name, Binding n) ∷ [] in
    let s1 : SlotState = put_word n i s in
    let ran1 : ran m1 i s ≡ s1 = ap (λ (f : Effect). f i s) (effect_let n Turn) in
    let below : Same n s s1 = λ k lt. word_other s n k i (λ is. omega arith) in
    let good1 : Good names1 (n + 1) = good_push x.name (Binding n) names n (n + 1) good (omega arith) (omega arith) in
    let p = statements_made ls is here.block (place names1 m1) in
    let d = sequence_means fs ls both gs is h names1 here.block m1 i s good1 in
    let shown : view names1 s1 ≡ with_name x.name (Bound i) (view names s) = rw (held_append s1 names ((x.name, Binding n) ∷ []), item_put 0 s.words n i, held_same names n s s1 good below) refl in
    let after = ran p.made i s in
    let d1 = subst (λ z. Does names1 (n + 1) z after p.names p.made.next (in_sequence fs gs (view names1 z))) ran1 d in
    let d' = subst (λ z. Does names1 (n + 1) s1 after p.names p.made.next (in_sequence fs gs z)) shown d1 in
    let more1 = d'.more in
    record {
      seen = sym (left_view names ((x.name, Binding n) ∷ d'.back) p.names s (ran p.made i s) (d'.grown ∙ append_assoc names ((x.name, Binding n) ∷ []) d'.back)) ∙ ap (left_block (view names s)) d'.seen;
      more = omega arith;
      same = λ k lt nv. d'.same k (omega arith) (apart_push x.name (Binding k) (Binding n) names nv lt) ∙ below k lt;
    }

turns_within : (x : Ident) (fs : List Execution) (ls : List StatementLowering) → Both StatementMeans fs ls → (gs : Named Callee) (is : Named Inlining) → Sights gs is → (names : Named Spot) (here : Here) (m : Made) (i : ℕ) (s : SlotState) → Good names m.next
    → Within names m.next s (turns i (block_effect (loop_made x ls is here names m).body) s) (loop_made x ls is here names m).next (turns i (turn_execution x.name fs gs) (view names s))
turns_within x fs ls both gs is h names here m zero s good =
    let one = turn_within x fs ls both gs is h names here m 0 s good in
    record { seen = refl; more = one.more; same = λ k lt nv. refl }
turns_within x fs ls both gs is h names here m (suc i) s good =
    let rest = turns_within x fs ls both gs is h names here m i s good in
    let one = turn_within x fs ls both gs is h names here m i (turns i (block_effect (loop_made x ls is here names m).body) s) good in
    record {
      seen = one.seen ∙ ap (turn_execution x.name fs gs i) rest.seen;
      more = one.more;
      same = λ k lt nv. one.same k lt nv ∙ rest.same k lt nv;
    }

module _ (hosts : List (List ℕ)) where
  pub let_means : (at : Span) (x : Ident) (label : Option WrittenLabel) (e : Expr) → StatementMeans (statement_execution hosts (Statement-F.Let at x label e)) (statement_lowering hosts (Statement-F.Let at x label e))
  let_means at x label e gs is h names block m turn s0 good =
      let here : Here = record { offset = at.start; block = block } in
      let s = ran m turn s0 in
      let l = lowering hosts e in
      let p = l.run is names here m in
      let q = evaluation hosts e gs (held s names) s.world in
      let c = copied (l.plain names) here p in
      let g = (expr_means hosts e).runs gs is h names here m turn s0 good in
      binding_does x.name names m.next s (ran c.1 turn s0) c.0 c.1.next q good (copy_gives (l.plain names) here m.next s p.0 p.1 turn s0 q g)

  pub var_means : (at : Span) (x : Ident) (kind : Kind) (label : Option WrittenLabel) (e : Expr) → StatementMeans (statement_execution hosts (Statement-F.Var at x kind label e)) (statement_lowering hosts (Statement-F.Var at x kind label e))
  var_means at x kind label e gs is h names block m turn s0 good =
      let here : Here = record { offset = at.start; block = block } in
      let s = ran m turn s0 in
      let p = (lowering hosts e).run is names here m in
      let s1 = ran p.1 turn s0 in
      let g = (expr_means hosts e).runs gs is h names here m turn s0 good in
      let more = g.more in
      let s2 : SlotState = put_word p.1.next (word s1 p.0) s1 in
      let made = with_slot (named_slot here x kind label) (NewVar (slot p.1.next) (slot p.0)) p.1 in
      let ran2 : ran made.1 turn s0 ≡ s2 = pushed p.1.body (NewVar (slot p.1.next) (slot p.0)) (stmt_effect (Stmt-F.NewVar (slot p.1.next) (slot p.0))) (effect_var p.1.next p.0) turn s0 in
      let same : Same m.next s s2 = λ k lt. word_other s1 p.1.next k (word s1 p.0) (λ is. omega arith) ∙ g.same k lt in
      let q = evaluation hosts e gs (held s names) s.world in
      subst (λ z. Does names m.next s z (names ++ (x.name, Variable p.1.next) ∷ []) (p.1.next + 1) (record { env = held s names ++ (x.name, Cell q.0) ∷ []; world = q.1 })) (sym ran2) (record {
        seen = rw (held_append s2 names ((x.name, Variable p.1.next) ∷ []), held_same names m.next s s2 good same, item_put 0 s1.words p.1.next (word s1 p.0), g.value, g.world) refl;
        good = good_push x.name (Variable p.1.next) names m.next (p.1.next + 1) good more (omega arith);
        more = omega arith;
        same = λ k lt nv. same k lt;
        apart = λ k lt nv. apart_push x.name (Binding k) (Variable p.1.next) names nv (omega arith);
        back = (x.name, Variable p.1.next) ∷ [];
        grown = refl;
      })

  pub array_means : (at : Span) (x : Ident) (kind : Kind) (size : ℕ) (label : Option WrittenLabel) → StatementMeans (statement_execution hosts (Statement-F.Array at x kind size label)) (statement_lowering hosts (Statement-F.Array at x kind size label))
  array_means at x kind size label gs is h names block m turn s0 good =
      let here : Here = record { offset = at.start; block = block } in
      let s = ran m turn s0 in
      let s2 : SlotState = put_array m.next (replicate size 0) s in
      let made = with_slot (named_slot here x kind label) (NewArray (slot m.next) size) m in
      let ran2 : ran made.1 turn s0 ≡ s2 = pushed m.body (NewArray (slot m.next) size) (stmt_effect (Stmt-F.NewArray (slot m.next) size)) (effect_array m.next size) turn s0 in
      let same : Same m.next s s2 = λ k lt. array_other s m.next k (replicate size 0) (λ is. omega arith) in
      subst (λ z. Does names m.next s z (names ++ (x.name, Array m.next) ∷ []) (m.next + 1) (record { env = held s names ++ (x.name, Elements (replicate size 0)) ∷ []; world = s.world })) (sym ran2) (record {
        seen = rw (held_append s2 names ((x.name, Array m.next) ∷ []), held_same names m.next s s2 good same, item_put [] s.arrays m.next (replicate size 0)) refl;
        good = good_push x.name (Array m.next) names m.next (m.next + 1) good (omega arith) (omega arith);
        more = omega arith;
        same = λ k lt nv. same k lt;
        apart = λ k lt nv. apart_push x.name (Binding k) (Array m.next) names nv (omega arith);
        back = (x.name, Array m.next) ∷ [];
        grown = refl;
      })

  pub output_means : (at : Span) (e : Expr) (to : Ident) → StatementMeans (statement_execution hosts (Statement-F.Output at e to)) (statement_lowering hosts (Statement-F.Output at e to))
  output_means at e to gs is h names block m turn s0 good =
      let here : Here = record { offset = at.start; block = block } in
      let host = host_id hosts to in
      let s = ran m turn s0 in
      let p = (lowering hosts e).run is names here m in
      let s1 = ran p.1 turn s0 in
      let g = (expr_means hosts e).runs gs is h names here m turn s0 good in
      let s2 : SlotState = in_world (after_output s1.world (place_of hosts to.name) (word s1 p.0)) s1 in
      let ran2 : ran (with_stmt (Output (slot p.0) host at.start) p.1) turn s0 ≡ s2 =
      pushed p.1.body (Output (slot p.0) host at.start) (stmt_effect (Stmt-F.Output (slot p.0) host at.start)) (effect_output p.0 host at.start) turn s0 in
      let q = evaluation hosts e gs (held s names) s.world in
      subst (λ z. Does names m.next s z names p.1.next (record { env = held s names; world = after_output q.1 (place_of hosts to.name) q.0 })) (sym ran2) (record {
        seen = rw (g.value, g.world, held_same names m.next s s1 good g.same) refl;
        good = good_more names m.next p.1.next good g.more;
        more = g.more;
        same = λ k lt nv. g.same k lt;
        apart = λ k lt nv. nv;
        back = [];
        grown = sym (append-nil names);
      })

  pub store_means : (x : Ident) (e : Expr) → StatementMeans (statement_execution hosts (Statement-F.Store x e)) (statement_lowering hosts (Statement-F.Store x e))
  store_means x e gs is h names block m turn s0 good =
      let here : Here = record { offset = x.span.start; block = block } in
      let s = ran m turn s0 in
      let p = (lowering hosts e).run is names here m in
      set_does x.name names m.next ((lowering hosts e).plain names) s p.0 p.1 turn s0 (evaluation hosts e gs (held s names) s.world) good ((expr_means hosts e).runs gs is h names here m turn s0 good) (at_name names x.name) refl

  pub put_means : (x : Ident) (i e : Expr) → StatementMeans (statement_execution hosts (Statement-F.Put x i e)) (statement_lowering hosts (Statement-F.Put x i e))
  put_means x i e gs is h names block m turn s0 good =
      let here : Here = record { offset = x.span.start; block = block } in
      let s = ran m turn s0 in
      let p = (lowering hosts i).run is names here m in
      let s1 = ran p.1 turn s0 in
      let q = (lowering hosts e).run is names here p.1 in
      let s2 = ran q.1 turn s0 in
      let first = (expr_means hosts i).runs gs is h names here m turn s0 good in
      let later = (expr_means hosts e).runs gs is h names here p.1 turn s0 (good_more names m.next p.1.next good first.more) in
      let later' = rw (held_same names m.next s s1 good first.same, first.world) at later in
      let more1 = first.more in
      let more2 = later'.more in
      let a = evaluation hosts i gs (held s names) s.world in
      let b = evaluation hosts e gs (held s names) a.1 in
      put_does x.name names m.next s p.0 a.0 q.0 q.1 turn s0 b.0 b.1 good (omega arith) (λ k lt. later'.same k (omega arith) ∙ first.same k lt)
      (word_same s1 s2 p.0 (later'.same p.0 first.below) ∙ first.value) later'.value later'.world (at_name names x.name) refl

  pub if_means : (at : Span) (c : Expr) (fa fb : List Execution) (la lb : List StatementLowering) → Both StatementMeans fa la → Both StatementMeans fb lb
      → StatementMeans (statement_execution hosts (Statement-F.If at c fa fb)) (statement_lowering hosts (Statement-F.If at c la lb))
  if_means at c fa fb la lb both_a both_b gs is h names block m turn s0 good =
      let here : Here = record { offset = at.start; block = block } in
      let s = ran m turn s0 in
      let p = (lowering hosts c).run is names here m in
      let s1 = ran p.1 turn s0 in
      let q = evaluation hosts c gs (held s names) s.world in
      let g = (expr_means hosts c).runs gs is h names here m turn s0 good in
      let number = p.1.blocks in
      let m1 : Made = record { next = p.1.next; slots = p.1.slots; blocks = p.1.blocks + 1; body = p.1.body } in
      let a = inner_made la is number names m1 in
      let b = inner_made lb is number names a in
      let good1 = good_more names m.next p.1.next good g.more in
      let w = if_within fa fb la lb both_a both_b gs is h names number m1 turn s1 good1 (nat_eq (word s1 p.0) 0) in
      let w' = rw (g.value, g.world, held_same names m.next s s1 good g.same) at w in
      let ran2 : ran (if_made at.start p la lb is names) turn s0 ≡ in_order (if nat_eq q.0 0 then map effect b.body else map effect a.body) turn s1 =
      pushed p.1.body (If (slot p.0) a.body b.body at.start) (stmt_effect (Stmt-F.If (slot p.0) (map effect a.body) (map effect b.body) at.start)) (effect_if p.0 a.body b.body at.start) turn s0
      ∙ ap (λ k. in_order (if nat_eq k 0 then map effect b.body else map effect a.body) turn s1) g.value in
      let more1 = g.more in
      let more2 = w'.more in
      outside names m.next s (ran (if_made at.start p la lb is names) turn s0) b.next (block_execution (if nat_eq q.0 0 then fb else fa) gs (record { env = held s names; world = q.1 })) good
      (subst (λ z. Within names m.next s z b.next (block_execution (if nat_eq q.0 0 then fb else fa) gs (record { env = held s names; world = q.1 }))) (sym ran2)
      (record { seen = w'.seen; more = omega arith; same = λ k lt nv. w'.same k (omega arith) nv ∙ g.same k lt }))

  pub for_means : (at : Span) (x : Ident) (count : ℕ) (fs : List Execution) (ls : List StatementLowering) → Both StatementMeans fs ls
      → StatementMeans (statement_execution hosts (Statement-F.For at x count fs)) (statement_lowering hosts (Statement-F.For at x count ls))
  for_means at x count fs ls both gs is h names block m turn s0 good =
      let here : Here = record { offset = at.start; block = block } in
      let s = ran m turn s0 in
      let body = loop_made x ls is here names m in
      let w = turns_within x fs ls both gs is h names here m count s good in
      let ran2 : ran (for_made count body m) turn s0 ≡ turns count (block_effect body.body) s =
      pushed m.body (For count body.body) (stmt_effect (Stmt-F.For count (map effect body.body))) (effect_for count body.body) turn s0 in
      outside names m.next s (ran (for_made count body m) turn s0) body.next (turns count (turn_execution x.name fs gs) (view names s)) good
      (subst (λ z. Within names m.next s z body.next (turns count (turn_execution x.name fs gs) (view names s))) (sym ran2) w)
