-- What is made of an expression gives what the expression gives.
use Rattle.std.proofs.Common.{◌≡◌, ℕ, ◌+◌, ◌<◌, ◌≤◌, Bool, true, false, true≢false, List, [], ◌∷◌, ◌++◌, map, Option, Some, None, refl, sym, ap, ◌∙◌, subst, arith, rules, slice_index_or, if◌then◌else◌, bytes_eq}
use Rattle.vd_base.specs.declared.ids.Span.{Span}
use Rattle.vd_base.specs.declared.operations.Kind.{Kind}
use Rattle.vd_base.specs.declared.operations.Kind.TheVariants.{Word, Bool as Truth}
use Rattle.vd_base.specs.declared.operations.Op.{Op}
use Rattle.vd_base.specs.declared.operations.Op.TheVariants as op
use Rattle.vd_base.specs.Operations.{result_of}
use Rattle.vd_core.specs.declared.normal.Right.{Right}
use Rattle.vd_core.specs.declared.normal.Right.TheVariants.{Lit, Apply, Load, Input, Get, Declassify, Endorse}
use Rattle.vd_core.specs.declared.normal.Stmt.{Stmt, Let}
use Rattle.vd_core.specs.declared.normal.Stmt.TheFolds.{the_lemmas}
use Rattle.vd_core.specs.declared.normal.Stmt.TheOpen.{Stmt-F}
use Rattle.vd_core.specs.declared.source.Ident.{Ident}
use Rattle.vd_core.specs.declared.source.WrittenForm.{WrittenForm}
use Rattle.vd_core.specs.declared.source.Prefix.{Prefix}
use Rattle.vd_core.specs.declared.source.Sign.{Sign}
use Rattle.vd_core.specs.declared.source.Prefix.TheVariants as prefix'
use Rattle.vd_core.specs.declared.source.Infix.{Infix}
use Rattle.vd_core.specs.declared.source.Infix.TheVariants as infix'
use Rattle.vd_core.specs.declared.source.Direction.{Direction}
use Rattle.vd_core.specs.declared.source.Direction.TheVariants as direction
use Rattle.vd_core.specs.declared.source.Expr.TheOpen.{Expr-F, Segment-F}
use Rattle.vd_semantics.specs.declared.held.Held.{Held}
use Rattle.vd_semantics.specs.World.{World}
use Rattle.vd_base.specs.Names.{Named, at_name}
use Rattle.vd_semantics.specs.ProgramMeaning.{SlotState, Effect, word_at, in_world, right_word, after_right, stmt_effect, effect, block_effect}
use Rattle.vd_semantics.specs.SourceMeaning.{Callee, Evaluation, SegmentEvaluation, held_word, held_element, called, applied, prefix_word, prefixes_word, infix_word, shift_word, chain_evaluation, evaluations, expr_evaluation, segment_evaluation}
use Rattle.vd_elaborate.specs.declared.anf.spot.Spot.{Spot}
use Rattle.vd_elaborate.specs.declared.anf.spot.Spot.TheVariants.{Binding, Variable, Array}
use Rattle.vd_elaborate.specs.declared.anf.here.Here.{Here}
use Rattle.vd_elaborate.specs.Normal.{Made, slot, host_id, form_of, emitted, kind_at, Inlining, Lowering, SegmentLowering, chain_made, all_made, operation_made, infix_right, infix_kind, prefix_op, prefix_kind, prefixes_made, prefixes_plain, shift_op, segment_made, name_made, name_plain, get_made, call_made, chain_plain, truth_right, expr_lowering, segment_lowering}
use Rattle.vd_elaborate.proofs.Slots.{item_put, word, array, put_word, word_other, word_same, Content, Same, slot_of, shown_one, Good, good_more, held, held_same, at_held, at_below, none_is, some_is}

-- the state after the statements that are made
abbrev pub ran : Made → ℕ → SlotState → SlotState
ran m turn s0 = block_effect m.body turn s0

pub block_push : (xs : List Stmt) (x : Stmt) (turn : ℕ) (s : SlotState) → block_effect (xs ++ x ∷ []) turn s ≡ effect x turn (block_effect xs turn s)
block_push [] x turn s = refl
block_push (y ∷ ys) x turn s = block_push ys x turn (effect y turn s)

pub effect_let : (k : ℕ) (r : Right) → effect (Let (slot k) r) ≡ stmt_effect (Stmt-F.Let (slot k) r)
effect_let k r = search (rules, the_lemmas)

-- slot k has the word of q once s has become s', the slots from n to n' were made, and those below n are as they were
pub record Gives (n : ℕ) (plain : Bool) (s s' : SlotState) (k n' : ℕ) (q : ℕ × World) : Type 0 where
  pub value : word s' k ≡ q.0
  pub world : s'.world ≡ q.1
  pub more : n ≤ n'
  pub below : k < n'
  pub same : Same n s s'
  pub fresh : plain ≡ false → n ≤ k

pub emit_gives : (plain : Bool) (here : Here) (kind : Kind) (r : Right) (m : Made) (turn : ℕ) (s0 : SlotState)
    → Gives m.next plain (ran m turn s0) (ran (emitted here kind r m).1 turn s0) m.next (m.next + 1) (right_word r turn (ran m turn s0), after_right r (ran m turn s0).world)
emit_gives plain here kind r m turn s0 =
    let s = ran m turn s0 in
    let w = right_word r turn s in
    let s' = put_word m.next w (in_world (after_right r s.world) s) in
    let is : ran (emitted here kind r m).1 turn s0 ≡ s' =
    block_push m.body (Let (slot m.next) r) turn s0 ∙ ap (λ (f : Effect). f turn s) (effect_let m.next r) in
    subst (λ z. Gives m.next plain s z m.next (m.next + 1) (w, after_right r s.world)) (sym is) (record {
      value = item_put 0 s.words m.next w;
      world = refl;
      more = omega arith;
      below = omega arith;
      same = λ k lt. word_other (in_world (after_right r s.world) s) m.next k w (λ e. omega arith);
      fresh = λ e. omega arith;
    })

pub then_gives : (n : ℕ) (b c : Bool) (s s1 s2 : SlotState) (k1 n1 k2 n2 : ℕ) (q1 q2 : ℕ × World) → Gives n b s s1 k1 n1 q1 → Gives n1 c s1 s2 k2 n2 q2 → Gives n c s s2 k2 n2 q2
then_gives n b c s s1 s2 k1 n1 k2 n2 q1 q2 g h =
    let more1 = g.more in
    let more2 = h.more in
    record {
      value = h.value;
      world = h.world;
      more = omega arith;
      below = h.below;
      same = λ k lt. h.same k (omega arith) ∙ g.same k lt;
      fresh = λ e. let f = h.fresh e in omega arith;
    }

abbrev pub AllBelow : List ℕ → ℕ → Type 0
AllBelow [] n = Unit {0}
AllBelow (k ∷ ks) n = (k < n) × AllBelow ks n

abbrev pub words : SlotState → List ℕ → List ℕ
words s [] = []
words s (k ∷ ks) = word s k ∷ words s ks

-- the statements of a call give what the call gives
abbrev pub CallMeans : Callee → Inlining → Type 0
CallMeans g i =
    (here : Here) (ks : List ℕ) (m : Made) (turn : ℕ) (s0 : SlotState) → AllBelow ks m.next
    → Gives m.next true (ran m turn s0) (ran (i here ks m).1 turn s0) (i here ks m).0 (i here ks m).1.next (g (words (ran m turn s0) ks) (ran m turn s0).world)

abbrev pub Sights : Named Callee → Named Inlining → Type 0
Sights [] [] = Unit {0}
Sights [] (i ∷ is) = ⊥
Sights (g ∷ gs) [] = ⊥
Sights (g ∷ gs) (i ∷ is) = (g.0 ≡ i.0) × CallMeans g.1 i.1 × Sights gs is

pub sights_push : (x : List ℕ) (g : Callee) (i : Inlining) → CallMeans g i → (gs : Named Callee) (is : Named Inlining) → Sights gs is → Sights (gs ++ (x, g) ∷ []) (is ++ (x, i) ∷ [])
sights_push x g i c [] [] h = (refl, c, tt)
sights_push x g i c [] (j ∷ js) h = absurd h
sights_push x g i c (f ∷ fs) [] h = absurd h
sights_push x g i c (f ∷ fs) (j ∷ js) h = (h.0, h.1, sights_push x g i c fs js h.2)

abbrev MaybeCall : Option Callee → Option Inlining → Type 0
MaybeCall None None = Unit {0}
MaybeCall None (Some i) = ⊥
MaybeCall (Some g) None = ⊥
MaybeCall (Some g) (Some i) = CallMeans g i

at_sight : (gs : Named Callee) (is : Named Inlining) (f : List ℕ) → Sights gs is → MaybeCall (at_name gs f) (at_name is f)
at_sight [] [] f h = tt
at_sight [] (i ∷ is) f h = absurd h
at_sight (g ∷ gs) [] f h = absurd h
at_sight (g ∷ gs) (i ∷ is) f h =
    rw h.0 ((elim (bytes_eq i.0 f) as (λ b. MaybeCall (if b then Some g.1 else at_name gs f) (if b then Some i.1 else at_name is f)) [
      | true ↦ h.1
      | false ↦ at_sight gs is f h.2
    ]))

-- what an expression gives, w, and how it is made, l, belong together
abbrev pub Runs : Evaluation → Lowering → Type 0
Runs w l =
    (gs : Named Callee) (is : Named Inlining) → Sights gs is → (names : Named Spot) (here : Here) (m : Made) (turn : ℕ) (s0 : SlotState) → Good names m.next
    → Gives m.next (l.plain names) (ran m turn s0) (ran (l.run is names here m).1 turn s0) (l.run is names here m).0 (l.run is names here m).1.next (w gs (held (ran m turn s0) names) (ran m turn s0).world)

pub record Means (w : Evaluation) (l : Lowering) : Type 0 where
  pub runs : Runs w l
  pub bare : (k : ℕ) → l.bare ≡ Some k → (gs : Named Callee) (env : Named Held) (u : World) → w gs env u ≡ (k, u)

abbrev pub SegmentMeans : SegmentEvaluation → SegmentLowering → Type 0
SegmentMeans w l =
    (gs : Named Callee) (is : Named Inlining) → Sights gs is → (names : Named Spot) (here : Here) (x : ℕ) (m : Made) (turn : ℕ) (s0 : SlotState) → Good names m.next → x < m.next
    → Gives m.next false (ran m turn s0) (ran (l is names here x m).1 turn s0) (l is names here x m).0 (l is names here x m).1.next (w gs (held (ran m turn s0) names) (word (ran m turn s0) x) (ran m turn s0).world)

abbrev pub Both : {A B : Type 0} → (A → B → Type 0) → List A → List B → Type 0
Both R [] [] = Unit {0}
Both R [] (y ∷ ys) = ⊥
Both R (x ∷ xs) [] = ⊥
Both R (x ∷ xs) (y ∷ ys) = R x y × Both R xs ys

not_some : {X : Type 0} (k : ℕ) → None ≡ Some k → X
not_some k e = absurd (none_is k e)

pub number_means : (hosts : List (List ℕ)) (n : ℕ) → Means (expr_evaluation hosts (Expr-F.Number n)) (expr_lowering hosts (Expr-F.Number n))
number_means hosts n = record {
  runs = λ gs is h names here m turn s0 good. emit_gives false here Word (Lit n) m turn s0;
  bare = λ k e gs env u. ap (λ z. (z, u)) (some_is n k e);
}

pub truth_means : (hosts : List (List ℕ)) (b : Bool) → Means (expr_evaluation hosts (Expr-F.Truth b)) (expr_lowering hosts (Expr-F.Truth b))
truth_means hosts b = record {
  runs = λ gs is h names here m turn s0 good. emit_gives false here Truth (truth_right b) m turn s0;
  bare = λ k e gs env u. not_some k e;
}

pub input_means : (hosts : List (List ℕ)) (x : Ident) → Means (expr_evaluation hosts (Expr-F.Input x)) (expr_lowering hosts (Expr-F.Input x))
input_means hosts x = record {
  runs = λ gs is h names here m turn s0 good. emit_gives false here Word (Input (host_id hosts x)) m turn s0;
  bare = λ k e gs env u. not_some k e;
}

name_gives : (o : Option Spot) (here : Here) (m : Made) (turn : ℕ) (s0 : SlotState) → ((p : Spot) → o ≡ Some p → slot_of p < m.next)
    → Gives m.next (name_plain o) (ran m turn s0) (ran (name_made o here m).1 turn s0) (name_made o here m).0 (name_made o here m).1.next (held_word (shown_one (ran m turn s0) o), (ran m turn s0).world)
name_gives None here m turn s0 h = emit_gives false here Word (Lit 0) m turn s0
name_gives (Some (Binding k)) here m turn s0 h = record { value = refl; world = refl; more = omega arith; below = h (Binding k) refl; same = λ k lt. refl; fresh = λ e. absurd (true≢false e) }
name_gives (Some (Variable k)) here m turn s0 h = emit_gives false here (kind_at m k) (Load (slot k)) m turn s0
name_gives (Some (Array k)) here m turn s0 h = emit_gives false here Word (Lit 0) m turn s0

pub value_means : (hosts : List (List ℕ)) (x : Ident) → Means (expr_evaluation hosts (Expr-F.Value x)) (expr_lowering hosts (Expr-F.Value x))
value_means hosts x = record {
  runs = λ gs is h names here m turn s0 good.
      rw (at_held names (ran m turn s0) x.name) (name_gives (at_name names x.name) here m turn s0 (λ p e. at_below names m.next x.name p good e));
  bare = λ k e gs env u. not_some k e;
}

-- where there is no array
no_element : (here : Here) (n : ℕ) (b : Bool) (s : SlotState) (k : ℕ) (m : Made) (turn : ℕ) (s0 : SlotState) (q : ℕ × World) → Gives n b s (ran m turn s0) k m.next q
    → Gives n false s (ran (emitted here Word (Lit 0) m).1 turn s0) m.next (m.next + 1) (0, q.1)
no_element here n b s k m turn s0 q g =
    let emit = emit_gives false here Word (Lit 0) m turn s0 in
    let emit' = rw g.world at emit in
    then_gives n b false s (ran m turn s0) (ran (emitted here Word (Lit 0) m).1 turn s0) k m.next m.next (m.next + 1) q (0, q.1) g emit'

-- an element, once the index is there
get_gives : (o : Option Spot) (here : Here) (n : ℕ) (b : Bool) (s : SlotState) (k : ℕ) (m : Made) (turn : ℕ) (s0 : SlotState) (q : ℕ × World) → ((p : Spot) → o ≡ Some p → slot_of p < n)
    → Gives n b s (ran m turn s0) k m.next q
    → Gives n false s (ran (get_made o here (k, m)).1 turn s0) (get_made o here (k, m)).0 (get_made o here (k, m)).1.next (held_element (shown_one s o) q.0, q.1)
get_gives None here n b s k m turn s0 q h g = no_element here n b s k m turn s0 q g
get_gives (Some (Binding v)) here n b s k m turn s0 q h g = no_element here n b s k m turn s0 q g
get_gives (Some (Variable v)) here n b s k m turn s0 q h g = no_element here n b s k m turn s0 q g
get_gives (Some (Array v)) here n b s k m turn s0 q h g =
    let s1 = ran m turn s0 in
    let kind = kind_at m v in
    let emit = emit_gives false here kind (Get (slot v) (slot k)) m turn s0 in
    let same : array s1 v ≡ array s v = ap (λ (z : Content). z.1) (g.same v (h (Array v) refl)) in
    let emit' = rw (same, g.value, g.world) at emit in
    then_gives n b false s s1 (ran (emitted here kind (Get (slot v) (slot k)) m).1 turn s0) k m.next m.next (m.next + 1) q (slice_index_or (array s v) q.0 0, q.1) g emit'

pub element_means : (hosts : List (List ℕ)) (x : Ident) (w : Evaluation) (l : Lowering) → Means w l → Means (expr_evaluation hosts (Expr-F.Element x w)) (expr_lowering hosts (Expr-F.Element x l))
element_means hosts x w l index = record {
  runs = λ gs is h names here m turn s0 good.
      let s = ran m turn s0 in
      let p = l.run is names here m in
      rw (at_held names s x.name) (get_gives (at_name names x.name) here m.next (l.plain names) s p.0 p.1 turn s0 (w gs (held s names) s.world) (λ p e. at_below names m.next x.name p good e) (index.runs gs is h names here m turn s0 good));
  bare = λ k e gs env u. not_some k e;
}

-- one more statement on the slot of an operand
one_more : (here : Here) (kind : Kind) (r : Right) (n : ℕ) (b : Bool) (s : SlotState) (k : ℕ) (m : Made) (turn : ℕ) (s0 : SlotState) (q t : ℕ × World) → Gives n b s (ran m turn s0) k m.next q
    → ◌≡◌ {A = ℕ × World} (right_word r turn (ran m turn s0), after_right r (ran m turn s0).world) t
    → Gives n false s (ran (emitted here kind r m).1 turn s0) m.next (m.next + 1) t
one_more here kind r n b s k m turn s0 q t g is =
    let emit = emit_gives false here kind r m turn s0 in
    let emit' = subst (λ z. Gives m.next false (ran m turn s0) (ran (emitted here kind r m).1 turn s0) m.next (m.next + 1) z) is emit in
    then_gives n b false s (ran m turn s0) (ran (emitted here kind r m).1 turn s0) k m.next m.next (m.next + 1) q t g emit'

pair_is : (x y : ℕ) (v w : World) → x ≡ y → v ≡ w → ◌≡◌ {A = ℕ × World} (x, v) (y, w)
pair_is x y v w e f = rw (e, f) refl

pub declassify_means : (hosts : List (List ℕ)) (w : Evaluation) (l : Lowering) (to : WrittenForm) → Means w l → Means (expr_evaluation hosts (Expr-F.Declassify w to)) (expr_lowering hosts (Expr-F.Declassify l to))
declassify_means hosts w l to x = record {
  runs = λ gs is h names here m turn s0 good.
      let s = ran m turn s0 in
      let p = l.run is names here m in
      let q = w gs (held s names) s.world in
      let g = x.runs gs is h names here m turn s0 good in
      one_more here (kind_at p.1 p.0) (Declassify (slot p.0) (form_of to)) m.next (l.plain names) s p.0 p.1 turn s0 q q g (pair_is (word (ran p.1 turn s0) p.0) q.0 (ran p.1 turn s0).world q.1 g.value g.world);
  bare = λ k e gs env u. not_some k e;
}

pub endorse_means : (hosts : List (List ℕ)) (w : Evaluation) (l : Lowering) (to : WrittenForm) → Means w l → Means (expr_evaluation hosts (Expr-F.Endorse w to)) (expr_lowering hosts (Expr-F.Endorse l to))
endorse_means hosts w l to x = record {
  runs = λ gs is h names here m turn s0 good.
      let s = ran m turn s0 in
      let p = l.run is names here m in
      let q = w gs (held s names) s.world in
      let g = x.runs gs is h names here m turn s0 good in
      one_more here (kind_at p.1 p.0) (Endorse (slot p.0) (form_of to)) m.next (l.plain names) s p.0 p.1 turn s0 q q g (pair_is (word (ran p.1 turn s0) p.0) q.0 (ran p.1 turn s0).world q.1 g.value g.world);
  bare = λ k e gs env u. not_some k e;
}

prefix_is : (o : Prefix) (x : ℕ) → result_of (prefix_op o) (x ∷ []) ≡ prefix_word o x
prefix_is prefix'.Flip x = refl
prefix_is prefix'.Not x = refl

prefixes_false : (ss : List Sign) → prefixes_plain ss false ≡ false
prefixes_false [] = refl
prefixes_false (s ∷ ss) = refl

prefixes_give : (ss : List Sign) (here : Here) (n : ℕ) (b : Bool) (s : SlotState) (x : ℕ) (m : Made) (turn : ℕ) (s0 : SlotState) (q : ℕ × World)
    → Gives n b s (ran m turn s0) x m.next q
    → Gives n (prefixes_plain ss b) s (ran (prefixes_made ss here x m).1 turn s0) (prefixes_made ss here x m).0 (prefixes_made ss here x m).1.next (prefixes_word ss q.0, q.1)
prefixes_give [] here n b s x m turn s0 q g = g
prefixes_give (o ∷ ss) here n b s x m turn s0 q g =
    let r = Apply (prefix_op o.prefix) (slot x ∷ []) in
    let one = one_more here (prefix_kind o.prefix) r n b s x m turn s0 q (prefix_word o.prefix q.0, q.1) g
    (pair_is (result_of (prefix_op o.prefix) (word (ran m turn s0) x ∷ [])) (prefix_word o.prefix q.0) (ran m turn s0).world q.1
    (prefix_is o.prefix (word (ran m turn s0) x) ∙ ap (prefix_word o.prefix) g.value) g.world) in
    let rest = prefixes_give ss here n false s m.next (emitted here (prefix_kind o.prefix) r m).1 turn s0 (prefix_word o.prefix q.0, q.1) one in
    rw (prefixes_false ss) at rest

pub unary_means : (hosts : List (List ℕ)) (w : Evaluation) (l : Lowering) (signs : List Sign) → Means w l → Means (expr_evaluation hosts (Expr-F.Unary w signs)) (expr_lowering hosts (Expr-F.Unary l signs))
unary_means hosts w l signs x = record {
  runs = λ gs is h names here m turn s0 good.
      let s = ran m turn s0 in
      let p = l.run is names here m in
      prefixes_give signs here m.next (l.plain names) s p.0 p.1 turn s0 (w gs (held s names) s.world) (x.runs gs is h names here m turn s0 good);
  bare = λ k e gs env u. not_some k e;
}

chain_false : (ls : List SegmentLowering) → chain_plain ls false ≡ false
chain_false [] = refl
chain_false (l ∷ ls) = refl

chain_gives : (ws : List SegmentEvaluation) (ls : List SegmentLowering) → Both SegmentMeans ws ls
    → (gs : Named Callee) (is : Named Inlining) → Sights gs is → (names : Named Spot) (here : Here) (n : ℕ) (b : Bool) (s : SlotState) (x : ℕ) (m : Made) (turn : ℕ) (s0 : SlotState) (q : ℕ × World) → Good names n
    → Gives n b s (ran m turn s0) x m.next q
    → Gives n (chain_plain ls b) s (ran (chain_made ls is names here x m).1 turn s0) (chain_made ls is names here x m).0 (chain_made ls is names here x m).1.next (chain_evaluation ws gs (held s names) q.0 q.1)
chain_gives [] [] both gs is h names here n b s x m turn s0 q good g = g
chain_gives [] (l ∷ ls) both gs is h names here n b s x m turn s0 q good g = absurd both
chain_gives (w ∷ ws) [] both gs is h names here n b s x m turn s0 q good g = absurd both
chain_gives (w ∷ ws) (l ∷ ls) both gs is h names here n b s x m turn s0 q good g =
    let s1 = ran m turn s0 in
    let p = l is names here x m in
    let one = both.0 gs is h names here x m turn s0 (good_more names n m.next good g.more) g.below in
    let seen = held_same names n s s1 good g.same in
    let one' = rw (seen, g.value, g.world) at one in
    let two = then_gives n b false s s1 (ran p.1 turn s0) x m.next p.0 p.1.next q (w gs (held s names) q.0 q.1) g one' in
    let rest = chain_gives ws ls both.1 gs is h names here n false s p.0 p.1 turn s0 (w gs (held s names) q.0 q.1) good two in
    rw (chain_false ls) at rest

pub chain_means : (hosts : List (List ℕ)) (w : Evaluation) (l : Lowering) (ws : List SegmentEvaluation) (ls : List SegmentLowering) → Means w l → Both SegmentMeans ws ls
    → Means (expr_evaluation hosts (Expr-F.Chain w ws)) (expr_lowering hosts (Expr-F.Chain l ls))
chain_means hosts w l ws ls first both = record {
  runs = λ gs is h names here m turn s0 good.
      let s = ran m turn s0 in
      let p = l.run is names here m in
      chain_gives ws ls both gs is h names here m.next (l.plain names) s p.0 p.1 turn s0 (w gs (held s names) s.world) good (first.runs gs is h names here m turn s0 good);
  bare = λ k e gs env u. not_some k e;
}

-- the same of all operands
pub record AllGive (n : ℕ) (s s' : SlotState) (ks : List ℕ) (n' : ℕ) (q : List ℕ × World) : Type 0 where
  pub values : words s' ks ≡ q.0
  pub world : s'.world ≡ q.1
  pub more : n ≤ n'
  pub below : AllBelow ks n'
  pub same : Same n s s'

all_give : (ws : List Evaluation) (ls : List Lowering) → Both Means ws ls
    → (gs : Named Callee) (is : Named Inlining) → Sights gs is → (names : Named Spot) (here : Here) (m : Made) (turn : ℕ) (s0 : SlotState) → Good names m.next
    → AllGive m.next (ran m turn s0) (ran (all_made ls is names here m).1 turn s0) (all_made ls is names here m).0 (all_made ls is names here m).1.next (evaluations ws gs (held (ran m turn s0) names) (ran m turn s0).world)
all_give [] [] both gs is h names here m turn s0 good = record { values = refl; world = refl; more = omega arith; below = tt; same = λ k lt. refl }
all_give [] (l ∷ ls) both gs is h names here m turn s0 good = absurd both
all_give (w ∷ ws) [] both gs is h names here m turn s0 good = absurd both
all_give (w ∷ ws) (l ∷ ls) both gs is h names here m turn s0 good =
    let s = ran m turn s0 in
    let p = l.run is names here m in
    let s1 = ran p.1 turn s0 in
    let one = both.0.runs gs is h names here m turn s0 good in
    let rest = all_give ws ls both.1 gs is h names here p.1 turn s0 (good_more names m.next p.1.next good one.more) in
    let rest' = rw (held_same names m.next s s1 good one.same, one.world) at rest in
    let more1 = one.more in
    let more2 = rest'.more in
    let below = one.below in
    let kept = word_same s1 (ran (all_made ls is names here p.1).1 turn s0) p.0 (rest'.same p.0 one.below) in
    record {
      values = rw (kept, one.value, rest'.values) refl;
      world = rest'.world;
      more = omega arith;
      below = (omega arith, rest'.below);
      same = λ k lt. rest'.same k (omega arith) ∙ one.same k lt;
    }

call_gives : (og : Option Callee) (oi : Option Inlining) → MaybeCall og oi
    → (here : Here) (n : ℕ) (s : SlotState) (ks : List ℕ) (m : Made) (turn : ℕ) (s0 : SlotState) (q : List ℕ × World) → AllGive n s (ran m turn s0) ks m.next q
    → Gives n true s (ran (call_made oi here (ks, m)).1 turn s0) (call_made oi here (ks, m)).0 (call_made oi here (ks, m)).1.next (called og q.0 q.1)
call_gives None None h here n s ks m turn s0 q g =
    let more = g.more in
    let emit = emit_gives true here Word (Lit 0) m turn s0 in
    let one = rw g.world at emit in
    record {
      value = one.value;
      world = one.world;
      more = omega arith;
      below = one.below;
      same = λ k lt. one.same k (omega arith) ∙ g.same k lt;
      fresh = λ e. omega arith;
    }
call_gives None (Some i) h here n s ks m turn s0 q g = absurd h
call_gives (Some c) None h here n s ks m turn s0 q g = absurd h
call_gives (Some c) (Some i) h here n s ks m turn s0 q g =
    let more1 = g.more in
    let ran_call = h here ks m turn s0 g.below in
    let one = rw (g.values, g.world) at ran_call in
    let more2 = one.more in
    record {
      value = one.value;
      world = one.world;
      more = omega arith;
      below = one.below;
      same = λ k lt. one.same k (omega arith) ∙ g.same k lt;
      fresh = λ e. absurd (true≢false e);
    }

pub call_means : (hosts : List (List ℕ)) (f : Ident) (ws : List Evaluation) (ls : List Lowering) → Both Means ws ls → Means (expr_evaluation hosts (Expr-F.Call f ws)) (expr_lowering hosts (Expr-F.Call f ls))
call_means hosts f ws ls both = record {
  runs = λ gs is h names here m turn s0 good.
      let s = ran m turn s0 in
      let p = all_made ls is names here m in
      call_gives (at_name gs f.name) (at_name is f.name) (at_sight gs is f.name h) here m.next s p.0 p.1 turn s0 (evaluations ws gs (held s names) s.world) (all_give ws ls both gs is h names here m turn s0 good);
  bare = λ k e gs env u. not_some k e;
}

-- the words at the slots
words_at : (s : SlotState) (ks : List ℕ) → map (word_at s) (map slot ks) ≡ words s ks
words_at s [] = refl
words_at s (k ∷ ks) = ap (λ z. word s k ∷ z) (words_at s ks)

operation_gives : (o : Op) (kind : Kind) (here : Here) (n : ℕ) (s : SlotState) (ks : List ℕ) (m : Made) (turn : ℕ) (s0 : SlotState) (q : List ℕ × World) → AllGive n s (ran m turn s0) ks m.next q
    → Gives n false s (ran (operation_made o kind here (ks, m)).1 turn s0) m.next (m.next + 1) (applied o q)
operation_gives o kind here n s ks m turn s0 q g =
    let more = g.more in
    let emit = emit_gives false here kind (Apply o (map slot ks)) m turn s0 in
    let one = rw (words_at (ran m turn s0) ks, g.values, g.world) at emit in
    record {
      value = one.value;
      world = one.world;
      more = omega arith;
      below = one.below;
      same = λ k lt. one.same k (omega arith) ∙ g.same k lt;
      fresh = λ e. omega arith;
    }

pub min_means : (hosts : List (List ℕ)) (at : Span) (v w : Evaluation) (k l : Lowering) → Means v k → Means w l → Means (expr_evaluation hosts (Expr-F.Min at v w)) (expr_lowering hosts (Expr-F.Min at k l))
min_means hosts at v w k l x y = record {
  runs = λ gs is h names here m turn s0 good.
      let s = ran m turn s0 in
      let p = all_made (k ∷ l ∷ []) is names here m in
      operation_gives op.Min Word here m.next s p.0 p.1 turn s0 (evaluations (v ∷ w ∷ []) gs (held s names) s.world) (all_give (v ∷ w ∷ []) (k ∷ l ∷ []) (x, (y, tt)) gs is h names here m turn s0 good);
  bare = λ k e gs env u. not_some k e;
}

pub max_means : (hosts : List (List ℕ)) (at : Span) (v w : Evaluation) (k l : Lowering) → Means v k → Means w l → Means (expr_evaluation hosts (Expr-F.Max at v w)) (expr_lowering hosts (Expr-F.Max at k l))
max_means hosts at v w k l x y = record {
  runs = λ gs is h names here m turn s0 good.
      let s = ran m turn s0 in
      let p = all_made (k ∷ l ∷ []) is names here m in
      operation_gives op.Max Word here m.next s p.0 p.1 turn s0 (evaluations (v ∷ w ∷ []) gs (held s names) s.world) (all_give (v ∷ w ∷ []) (k ∷ l ∷ []) (x, (y, tt)) gs is h names here m turn s0 good);
  bare = λ k e gs env u. not_some k e;
}

pub mux_means : (hosts : List (List ℕ)) (at : Span) (u v w : Evaluation) (j k l : Lowering) → Means u j → Means v k → Means w l → Means (expr_evaluation hosts (Expr-F.Mux at u v w)) (expr_lowering hosts (Expr-F.Mux at j k l))
mux_means hosts at u v w j k l x y z = record {
  runs = λ gs is h names here m turn s0 good.
      let s = ran m turn s0 in
      let p = all_made (j ∷ k ∷ l ∷ []) is names here m in
      operation_gives op.Mux (kind_at p.1 (slice_index_or p.0 1 0)) here m.next s p.0 p.1 turn s0 (evaluations (u ∷ v ∷ w ∷ []) gs (held s names) s.world)
      (all_give (u ∷ v ∷ w ∷ []) (j ∷ k ∷ l ∷ []) (x, (y, (z, tt))) gs is h names here m turn s0 good);
  bare = λ k e gs env u. not_some k e;
}

pub brackets_means : (hosts : List (List ℕ)) (w : Evaluation) (l : Lowering) → Means w l → Means (expr_evaluation hosts (Expr-F.Brackets w)) (expr_lowering hosts (Expr-F.Brackets l))
brackets_means hosts w l x = record { runs = x.runs; bare = λ k e gs env u. not_some k e }

infix_value : (o : Infix) (x y turn : ℕ) (s : SlotState) → ◌≡◌ {A = ℕ × World} (right_word (infix_right o x y) turn s, after_right (infix_right o x y) s.world) (infix_word o (word s x) (word s y), s.world)
infix_value infix'.Equal x y turn s = refl
infix_value infix'.NotEqual x y turn s = refl
infix_value infix'.Less x y turn s = refl
infix_value infix'.LessEqual x y turn s = refl
infix_value infix'.Greater x y turn s = refl
infix_value infix'.GreaterEqual x y turn s = refl
infix_value infix'.Or x y turn s = refl
infix_value infix'.Xor x y turn s = refl
infix_value infix'.And x y turn s = refl
infix_value infix'.Add x y turn s = refl
infix_value infix'.Sub x y turn s = refl
infix_value infix'.Mul x y turn s = refl
infix_value infix'.Div x y turn s = refl
infix_value infix'.Rem x y turn s = refl

two_means : (o : Infix) (at : Span) (w : Evaluation) (l : Lowering) → Means w l → SegmentMeans (segment_evaluation (Segment-F.Infix o at w)) (segment_made None o l)
two_means o at w l right gs is h names here x m turn s0 good lt =
    let s = ran m turn s0 in
    let p = l.run is names here m in
    let s1 = ran p.1 turn s0 in
    let q = w gs (held s names) s.world in
    let kind = infix_kind o (kind_at p.1 x) in
    let one = right.runs gs is h names here m turn s0 good in
    let emit = emit_gives false here kind (infix_right o x p.0) p.1 turn s0 in
    let two = rw (infix_value o x p.0 turn s1, one.value, one.world, word_same s s1 x (one.same x lt)) at emit in
    then_gives m.next (l.plain names) false s s1 (ran (emitted here kind (infix_right o x p.0) p.1).1 turn s0) p.0 p.1.next p.1.next (p.1.next + 1) q (infix_word o (word s x) q.0, q.1) one two

scale_means : (k : ℕ) (at : Span) (w : Evaluation) (l : Lowering) → Means w l → l.bare ≡ Some k → SegmentMeans (segment_evaluation (Segment-F.Infix infix'.Mul at w)) (segment_made (Some k) infix'.Mul l)
scale_means k at w l right e gs is h names here x m turn s0 good lt =
    let s = ran m turn s0 in
    rw (right.bare k e gs (held s names) s.world) (emit_gives false here Word (Apply (op.Scale k) (slot x ∷ [])) m turn s0)

mul_means : (at : Span) (w : Evaluation) (l : Lowering) (b : Option ℕ) → Means w l → l.bare ≡ b → SegmentMeans (segment_evaluation (Segment-F.Infix infix'.Mul at w)) (segment_made b infix'.Mul l)
mul_means at w l None right e = two_means infix'.Mul at w l right
mul_means at w l (Some k) right e = scale_means k at w l right e

pub infix_means : (o : Infix) (at : Span) (w : Evaluation) (l : Lowering) → Means w l → SegmentMeans (segment_evaluation (Segment-F.Infix o at w)) (segment_lowering (Segment-F.Infix o at l))
infix_means infix'.Equal at w l right = two_means infix'.Equal at w l right
infix_means infix'.NotEqual at w l right = two_means infix'.NotEqual at w l right
infix_means infix'.Less at w l right = two_means infix'.Less at w l right
infix_means infix'.LessEqual at w l right = two_means infix'.LessEqual at w l right
infix_means infix'.Greater at w l right = two_means infix'.Greater at w l right
infix_means infix'.GreaterEqual at w l right = two_means infix'.GreaterEqual at w l right
infix_means infix'.Or at w l right = two_means infix'.Or at w l right
infix_means infix'.Xor at w l right = two_means infix'.Xor at w l right
infix_means infix'.And at w l right = two_means infix'.And at w l right
infix_means infix'.Add at w l right = two_means infix'.Add at w l right
infix_means infix'.Sub at w l right = two_means infix'.Sub at w l right
infix_means infix'.Mul at w l right = mul_means at w l l.bare right refl
infix_means infix'.Div at w l right = two_means infix'.Div at w l right
infix_means infix'.Rem at w l right = two_means infix'.Rem at w l right

shift_value : (towards : Direction) (bits x turn : ℕ) (s : SlotState) → ◌≡◌ {A = ℕ × World} (right_word (Apply (shift_op towards bits) (slot x ∷ [])) turn s, s.world) (shift_word towards bits (word s x), s.world)
shift_value direction.Left bits x turn s = refl
shift_value direction.Right bits x turn s = refl

pub shift_means : (towards : Direction) (at : Span) (bits : ℕ) → SegmentMeans (segment_evaluation (Segment-F.Shift towards at bits)) (segment_lowering (Segment-F.Shift towards at bits))
shift_means towards at bits gs is h names here x m turn s0 good lt =
    let s = ran m turn s0 in
    let emit = emit_gives false here Word (Apply (shift_op towards bits) (slot x ∷ [])) m turn s0 in
    subst (λ z. Gives m.next false s (ran (emitted here Word (Apply (shift_op towards bits) (slot x ∷ [])) m).1 turn s0) m.next (m.next + 1) z) (shift_value towards bits x turn s) emit
