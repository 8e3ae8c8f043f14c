-- What is kept at each thing that is made is kept by each expression.
use Rattle.std.proofs.Common.{◌≡◌, ℕ, Bool, true, false, ◌&&◌, nat_eq, List, [], ◌∷◌, length, map, Option, Some, None, refl, sym, ap, subst, subst₂, true≢false, if◌then◌else◌, bytes_eq}
use Rattle.vd_base.specs.declared.operations.Op.{Op}
use Rattle.vd_base.specs.declared.operations.Op.TheVariants as op
use Rattle.vd_base.specs.declared.operations.Kind.{Kind}
use Rattle.vd_base.specs.declared.operations.Kind.TheVariants.{Word, Bool as Truth}
use Rattle.vd_base.specs.Arity.{arity}
use Rattle.vd_base.specs.Names.{Named, at_name}
use Rattle.vd_core.specs.declared.normal.Right.{Right}
use Rattle.vd_core.specs.declared.normal.Right.TheVariants.{Lit, Apply, Input, Declassify, Endorse, Load, Get}
use Rattle.vd_core.specs.declared.source.Prefix.{Prefix}
use Rattle.vd_core.specs.declared.source.Prefix.TheVariants as prefix'
use Rattle.vd_core.specs.declared.source.Infix.{Infix}
use Rattle.vd_core.specs.declared.source.Infix.TheVariants as infix'
use Rattle.vd_core.specs.declared.source.Direction.{Direction}
use Rattle.vd_core.specs.declared.source.Direction.TheVariants as direction
use Rattle.vd_core.specs.declared.source.Sign.{Sign}
use Rattle.vd_core.specs.declared.source.Segment.{Segment}
use Rattle.vd_core.specs.declared.source.Expr.{Expr, roll-Expr}
use Rattle.vd_core.specs.declared.source.Expr.TheOpen.{Expr-F, Segment-F}
use Rattle.vd_core.specs.declared.source.Expr.TheFolds.{map-Expr, map-Segment, ind-Expr, ind-Segment, fold-roll-Expr, fold-roll-Segment}
use Rattle.vd_core.specs.declared.source.Expr.TheViews.{roll-Segment}
use Rattle.vd_elaborate.specs.declared.anf.here.Here.{Here}
use Rattle.vd_elaborate.specs.declared.anf.spot.Spot.{Spot}
use Rattle.vd_elaborate.specs.declared.anf.spot.Spot.TheVariants.{Binding, Variable, Array}
use Rattle.vd_elaborate.specs.Normal.{Made, slot, nameless, emitted, kind_at, Inlining, Lowering, SegmentLowering, chain_made, all_made, operation_made, infix_right, infix_kind, scale_of, shift_op, prefix_op, prefix_kind, prefixes_made, segment_made, name_made, get_made, call_made, truth_right, form_of, expr_lowering, segment_lowering, lowering, lowering_of_segment}
use Rattle.vd_elaborate.proofs.Tests.{Tests, all_true, expr_passes, segment_passes, passes, passes_segment}
use Rattle.vd_elaborate.proofs.Laws.{op_passes, AllHere, IsFine, Laws}

pub left : (a b : Bool) → (a && b) ≡ true → a ≡ true
left true b e = refl
left false b e = e

pub right : (a b : Bool) → (a && b) ≡ true → b ≡ true
right true b e = e
right false b e = absurd (true≢false (sym e))

none_is : {A : Type 0} (a : A) → None ≡ Some a → ⊥
none_is a e = cc

abbrev from_some : {A : Type 0} → A → Option A → A
from_some d None = d
from_some d (Some a) = a

some_is : {A : Type 0} (a b : A) → Some a ≡ Some b → a ≡ b
some_is a b e = ap (from_some b) e

module _ (hosts : List (List ℕ)) (tests : Tests) (W : Type 0) (Keeps : W → Made → Made → Type 0) (At : W → Made → Spot → Type 0) (inside : W → Made → W) (laws : Laws tests W Keeps At inside) where
  -- a slot is made, and known
  abbrev pub Makes : W → Made → ℕ × Made → Type 0
  Makes w m p = Keeps w m p.1 × At w p.1 (Binding p.0)

  abbrev pub Bindings : W → Made → List ℕ → Type 0
  Bindings w m [] = Unit {0}
  Bindings w m (k ∷ ks) = At w m (Binding k) × Bindings w m ks

  -- the names in sight stand for known slots
  abbrev pub Shown : W → Made → Named Spot → Type 0
  Shown w m [] = Unit {0}
  Shown w m (e ∷ es) = At w m e.1 × Shown w m es

  pub shown_stay : (w : W) (m m' : Made) (names : Named Spot) → Keeps w m m' → Shown w m names → Shown w m' names
  shown_stay w m m' [] k h = tt
  shown_stay w m m' (e ∷ es) k h = (laws.stays w m m' e.1 k h.0, shown_stay w m m' es k h.1)

  pub at_shown : (w : W) (m : Made) (names : Named Spot) (x : List ℕ) (p : Spot) → Shown w m names → at_name names x ≡ Some p → At w m p
  at_shown w m [] x p h e = absurd (none_is p e)
  at_shown w m (q ∷ qs) x p h e =
      (elim (bytes_eq q.0 x) as (λ b. (if b then Some q.1 else at_name qs x) ≡ Some p → At w m p) [
        | true ↦ λ e. subst (At w m) (some_is q.1 p e) h.0
        | false ↦ λ e. at_shown w m qs x p h.1 e
      ]) e

  pub then_makes : (w : W) (m m1 : Made) (q : ℕ × Made) → Keeps w m m1 → Makes w m1 q → Makes w m q
  then_makes w m m1 q a b = (laws.after w m m1 q.1 a b.0, b.1)

  pub emit_makes : (w : W) (m : Made) (here : Here) (kind : Kind) (r : Right) → IsFine tests (At w m) r → Makes w m (emitted here kind r m)
  emit_makes w m here kind r fine = (laws.right w m (nameless here kind) r refl fine, laws.right_here w m (nameless here kind) r fine)

  abbrev pub CallKeeps : Inlining → Type 0
  CallKeeps c = (w : W) (here : Here) (ks : List ℕ) (m : Made) → Bindings w m ks → Makes w m (c here ks m)

  abbrev pub Calls : Named Inlining → Type 0
  Calls [] = Unit {0}
  Calls (c ∷ cs) = CallKeeps c.1 × Calls cs

  abbrev pub ExprKeeps : Lowering → Type 0
  ExprKeeps l = (is : Named Inlining) → Calls is → (names : Named Spot) (here : Here) (w : W) (m : Made) → Shown w m names → Makes w m (l.run is names here m)

  abbrev pub SegmentKeeps : SegmentLowering → Type 0
  SegmentKeeps l = (is : Named Inlining) → Calls is → (names : Named Spot) (here : Here) (w : W) (x : ℕ) (m : Made) → Shown w m names → At w m (Binding x) → Makes w m (l is names here x m)

  name_makes : (o : Option Spot) (here : Here) (w : W) (m : Made) → ((p : Spot) → o ≡ Some p → At w m p) → Makes w m (name_made o here m)
  name_makes None here w m h = emit_makes w m here Word (Lit 0) tt
  name_makes (Some (Binding k)) here w m h = (laws.none w m, h (Binding k) refl)
  name_makes (Some (Variable k)) here w m h = emit_makes w m here (kind_at m k) (Load (slot k)) (h (Variable k) refl)
  name_makes (Some (Array k)) here w m h = emit_makes w m here Word (Lit 0) tt

  get_makes : (o : Option Spot) (here : Here) (w : W) (p : ℕ × Made) → At w p.1 (Binding p.0) → ((v : Spot) → o ≡ Some v → At w p.1 v) → Makes w p.1 (get_made o here p)
  get_makes None here w p at h = emit_makes w p.1 here Word (Lit 0) tt
  get_makes (Some (Binding k)) here w p at h = emit_makes w p.1 here Word (Lit 0) tt
  get_makes (Some (Variable k)) here w p at h = emit_makes w p.1 here Word (Lit 0) tt
  get_makes (Some (Array k)) here w p at h = emit_makes w p.1 here (kind_at p.1 k) (Get (slot k) (slot p.0)) (h (Array k) refl, at)

  abbrev pub MaybeCall : Option Inlining → Type 0
  MaybeCall None = Unit {0}
  MaybeCall (Some c) = CallKeeps c

  pub at_calls : (is : Named Inlining) (f : List ℕ) → Calls is → MaybeCall (at_name is f)
  at_calls [] f h = tt
  at_calls (c ∷ cs) f h =
      elim (bytes_eq c.0 f) as (λ b. MaybeCall (if b then Some c.1 else at_name cs f)) [
        | true ↦ h.0
        | false ↦ at_calls cs f h.1
      ]

  pub call_makes : (o : Option Inlining) → MaybeCall o → (here : Here) (w : W) (p : List ℕ × Made) → Bindings w p.1 p.0 → Makes w p.1 (call_made o here p)
  call_makes None c here w p h = emit_makes w p.1 here Word (Lit 0) tt
  call_makes (Some i) c here w p h = c w here p.0 p.1 h

  prefix_fine : (w : W) (m : Made) (o : Prefix) (x : ℕ) → At w m (Binding x) → IsFine tests (At w m) (Apply (prefix_op o) (slot x ∷ []))
  prefix_fine w m prefix'.Flip x h = (refl, refl, (h, tt))
  prefix_fine w m prefix'.Not x h = (refl, refl, (h, tt))

  prefixes_make : (ss : List Sign) (here : Here) (w : W) (x : ℕ) (m : Made) → At w m (Binding x) → Makes w m (prefixes_made ss here x m)
  prefixes_make [] here w x m h = (laws.none w m, h)
  prefixes_make (s ∷ ss) here w x m h =
      let p = emitted here (prefix_kind s.prefix) (Apply (prefix_op s.prefix) (slot x ∷ [])) m in
      let one = emit_makes w m here (prefix_kind s.prefix) (Apply (prefix_op s.prefix) (slot x ∷ [])) (prefix_fine w m s.prefix x h) in
      then_makes w m p.1 (prefixes_made ss here p.0 p.1) one.0 (prefixes_make ss here w p.0 p.1 one.1)

  infix_fine : (w : W) (m : Made) (o : Infix) (x y : ℕ) → At w m (Binding x) → At w m (Binding y) → IsFine tests (At w m) (infix_right o x y)
  infix_fine w m infix'.Equal x y a b = (refl, refl, (a, (b, tt)))
  infix_fine w m infix'.NotEqual x y a b = (refl, refl, (a, (b, tt)))
  infix_fine w m infix'.Less x y a b = (refl, refl, (a, (b, tt)))
  infix_fine w m infix'.LessEqual x y a b = (refl, refl, (a, (b, tt)))
  infix_fine w m infix'.Greater x y a b = (refl, refl, (b, (a, tt)))
  infix_fine w m infix'.GreaterEqual x y a b = (refl, refl, (b, (a, tt)))
  infix_fine w m infix'.Or x y a b = (refl, refl, (a, (b, tt)))
  infix_fine w m infix'.Xor x y a b = (refl, refl, (a, (b, tt)))
  infix_fine w m infix'.And x y a b = (refl, refl, (a, (b, tt)))
  infix_fine w m infix'.Add x y a b = (refl, refl, (a, (b, tt)))
  infix_fine w m infix'.Sub x y a b = (refl, refl, (a, (b, tt)))
  infix_fine w m infix'.Mul x y a b = (refl, refl, (a, (b, tt)))
  infix_fine w m infix'.Div x y a b = (refl, refl, (a, (b, tt)))
  infix_fine w m infix'.Rem x y a b = (refl, refl, (a, (b, tt)))

  infix_makes : (s : Option ℕ) (o : Infix) (l : Lowering) → ExprKeeps l → SegmentKeeps (segment_made s o l)
  infix_makes (Some k) o l e is h names here w x m shown at = emit_makes w m here Word (Apply (op.Scale k) (slot x ∷ [])) (refl, refl, (at, tt))
  infix_makes None o l e is h names here w x m shown at =
      let p = l.run is names here m in
      let one = e is h names here w m shown in
      then_makes w m p.1 (emitted here (infix_kind o (kind_at p.1 x)) (infix_right o x p.0) p.1) one.0
      (emit_makes w p.1 here (infix_kind o (kind_at p.1 x)) (infix_right o x p.0) (infix_fine w p.1 o x p.0 (laws.stays w m p.1 (Binding x) one.0 at) one.1))

  shift_fine : (w : W) (m : Made) (towards : Direction) (bits x : ℕ) → tests.shift bits ≡ true → At w m (Binding x) → IsFine tests (At w m) (Apply (shift_op towards bits) (slot x ∷ []))
  shift_fine w m direction.Left bits x ok h = (refl, ok, (h, tt))
  shift_fine w m direction.Right bits x ok h = (refl, ok, (h, tt))

  abbrev E : Type 0
  E = (e : Expr) × (passes hosts tests e ≡ true → ExprKeeps (lowering hosts e))

  abbrev L : Type 0
  L = (l : Segment) × (passes_segment hosts tests l ≡ true → SegmentKeeps (lowering_of_segment hosts l))

  abbrev lowered : List E → List Lowering
  lowered es = map (lowering hosts) (map (λ (e : E). e.0) es)

  abbrev appended : List L → List SegmentLowering
  appended ls = map (lowering_of_segment hosts) (map (λ (l : L). l.0) ls)

  chain_makes : (ls : List L) → all_true (map (passes_segment hosts tests) (map (λ (l : L). l.0) ls)) ≡ true → SegmentKeeps (chain_made (appended ls))
  chain_makes [] ok is h names here w x m shown at = (laws.none w m, at)
  chain_makes (l ∷ ls) ok is h names here w x m shown at =
      let p = lowering_of_segment hosts l.0 is names here x m in
      let rest = all_true (map (passes_segment hosts tests) (map (λ (l : L). l.0) ls)) in
      let one = l.1 (left (passes_segment hosts tests l.0) rest ok) is h names here w x m shown at in
      then_makes w m p.1 (chain_made (appended ls) is names here p.0 p.1) one.0
      (chain_makes ls (right (passes_segment hosts tests l.0) rest ok) is h names here w p.0 p.1 (shown_stay w m p.1 names one.0 shown) one.1)

  -- operands
  abbrev AllMake : W → Made → List ℕ × Made → Type 0
  AllMake w m p = Keeps w m p.1 × Bindings w p.1 p.0

  all_make : (es : List E) → all_true (map (passes hosts tests) (map (λ (e : E). e.0) es)) ≡ true → (is : Named Inlining) → Calls is → (names : Named Spot) (here : Here) (w : W) (m : Made) → Shown w m names → AllMake w m (all_made (lowered es) is names here m)
  all_make [] ok is h names here w m shown = (laws.none w m, tt)
  all_make (e ∷ es) ok is h names here w m shown =
      let p = (lowering hosts e.0).run is names here m in
      let q = all_made (lowered es) is names here p.1 in
      let others = all_true (map (passes hosts tests) (map (λ (e : E). e.0) es)) in
      let one = e.1 (left (passes hosts tests e.0) others ok) is h names here w m shown in
      let rest = all_make es (right (passes hosts tests e.0) others ok) is h names here w p.1 (shown_stay w m p.1 names one.0 shown) in
      (laws.after w m p.1 q.1 one.0 rest.0, (laws.stays w p.1 q.1 (Binding p.0) rest.0 one.1, rest.1))

  all_slots : (w : W) (m : Made) (ks : List ℕ) → Bindings w m ks → AllHere (At w m) (map slot ks)
  all_slots w m [] h = tt
  all_slots w m (k ∷ ks) h = (h.0, all_slots w m ks h.1)

  operation_makes : (o : Op) (kind : Kind) (here : Here) (w : W) (m : Made) (p : List ℕ × Made) → nat_eq (length (map slot p.0)) (arity o) ≡ true → op_passes tests o ≡ true → AllMake w m p → Makes w m (operation_made o kind here p)
  operation_makes o kind here w m p fits ok a = then_makes w m p.1 (operation_made o kind here p) a.0 (emit_makes w p.1 here kind (Apply o (map slot p.0)) (fits, ok, all_slots w p.1 p.0 a.1))

  abbrev expr_layer : Expr-F E L → Expr-F Expr Segment
  expr_layer = map-Expr E L Expr Segment (λ e. e.0) (λ l. l.0)

  abbrev segment_layer : Segment-F E L → Segment-F Expr Segment
  segment_layer = map-Segment E L Expr Segment (λ e. e.0) (λ l. l.0)

  truth_fine : (w : W) (m : Made) (b : Bool) → IsFine tests (At w m) (truth_right b)
  truth_fine w m true = tt
  truth_fine w m false = tt

  step : (y : Expr-F E L) → expr_passes hosts tests (map-Expr Expr Segment Bool Bool (passes hosts tests) (passes_segment hosts tests) (expr_layer y)) ≡ true
      → ExprKeeps (expr_lowering hosts (map-Expr Expr Segment Lowering SegmentLowering (lowering hosts) (lowering_of_segment hosts) (expr_layer y)))
  step (Expr-F.Number n) ok is h names here w m shown = emit_makes w m here Word (Lit n) tt
  step (Expr-F.Truth b) ok is h names here w m shown = emit_makes w m here Truth (truth_right b) (truth_fine w m b)
  step (Expr-F.Value x) ok is h names here w m shown = name_makes (at_name names x.name) here w m (λ p e. at_shown w m names x.name p shown e)
  step (Expr-F.Element x e) ok is h names here w m shown =
      let p = (lowering hosts e.0).run is names here m in
      let one = e.1 ok is h names here w m shown in
      then_makes w m p.1 (get_made (at_name names x.name) here p) one.0
      (get_makes (at_name names x.name) here w p one.1 (λ v eq. at_shown w p.1 names x.name v (shown_stay w m p.1 names one.0 shown) eq))
  step (Expr-F.Input host) ok is h names here w m shown = emit_makes w m here Word (Input (record { 0 = _ })) ok
  step (Expr-F.Call f es) ok is h names here w m shown =
      let p = all_made (lowered es) is names here m in
      let a = all_make es ok is h names here w m shown in
      then_makes w m p.1 (call_made (at_name is f.name) here p) a.0 (call_makes (at_name is f.name) (at_calls is f.name h) here w p a.1)
  step (Expr-F.Min at x y) ok is h names here w m shown =
      operation_makes op.Min Word here w m (all_made (lowered (x ∷ y ∷ [])) is names here m) refl refl (all_make (x ∷ y ∷ []) (two_pass (passes hosts tests x.0) (passes hosts tests y.0) ok) is h names here w m shown)
    where
      two_pass : (a b : Bool) → (a && b) ≡ true → (a && (b && true)) ≡ true
      two_pass a b e = rw (left a b e, right a b e) refl
  step (Expr-F.Max at x y) ok is h names here w m shown =
      operation_makes op.Max Word here w m (all_made (lowered (x ∷ y ∷ [])) is names here m) refl refl (all_make (x ∷ y ∷ []) (two_pass (passes hosts tests x.0) (passes hosts tests y.0) ok) is h names here w m shown)
    where
      two_pass : (a b : Bool) → (a && b) ≡ true → (a && (b && true)) ≡ true
      two_pass a b e = rw (left a b e, right a b e) refl
  step (Expr-F.Mux at x y z) ok is h names here w m shown =
      let p = all_made (lowered (x ∷ y ∷ z ∷ [])) is names here m in
      operation_makes op.Mux _ here w m p refl refl (all_make (x ∷ y ∷ z ∷ []) (three_pass (passes hosts tests x.0) (passes hosts tests y.0) (passes hosts tests z.0) ok) is h names here w m shown)
    where
      three_pass : (a b c : Bool) → (a && (b && c)) ≡ true → (a && (b && (c && true))) ≡ true
      three_pass a b c e = let bc = right a (b && c) e in rw (left a (b && c) e, left b c bc, right b c bc) refl
  step (Expr-F.Declassify x to) ok is h names here w m shown =
      let p = (lowering hosts x.0).run is names here m in
      let one = x.1 (left (passes hosts tests x.0) (tests.form (form_of to)) ok) is h names here w m shown in
      then_makes w m p.1 (emitted here (kind_at p.1 p.0) (Declassify (slot p.0) (form_of to)) p.1) one.0
      (emit_makes w p.1 here (kind_at p.1 p.0) (Declassify (slot p.0) (form_of to)) (one.1, right (passes hosts tests x.0) (tests.form (form_of to)) ok))
  step (Expr-F.Endorse x to) ok is h names here w m shown =
      let p = (lowering hosts x.0).run is names here m in
      let one = x.1 (left (passes hosts tests x.0) (tests.form (form_of to)) ok) is h names here w m shown in
      then_makes w m p.1 (emitted here (kind_at p.1 p.0) (Endorse (slot p.0) (form_of to)) p.1) one.0
      (emit_makes w p.1 here (kind_at p.1 p.0) (Endorse (slot p.0) (form_of to)) (one.1, right (passes hosts tests x.0) (tests.form (form_of to)) ok))
  step (Expr-F.Unary x signs) ok is h names here w m shown =
      let p = (lowering hosts x.0).run is names here m in
      let one = x.1 ok is h names here w m shown in
      then_makes w m p.1 (prefixes_made signs here p.0 p.1) one.0 (prefixes_make signs here w p.0 p.1 one.1)
  step (Expr-F.Chain x ls) ok is h names here w m shown =
      let p = (lowering hosts x.0).run is names here m in
      let rest = all_true (map (passes_segment hosts tests) (map (λ (l : L). l.0) ls)) in
      let one = x.1 (left (passes hosts tests x.0) rest ok) is h names here w m shown in
      then_makes w m p.1 (chain_made (appended ls) is names here p.0 p.1) one.0
      (chain_makes ls (right (passes hosts tests x.0) rest ok) is h names here w p.0 p.1 (shown_stay w m p.1 names one.0 shown) one.1)
  step (Expr-F.Brackets x) ok is h names here w m shown = x.1 ok is h names here w m shown

  segment_step : (y : Segment-F E L) → segment_passes tests (map-Segment Expr Segment Bool Bool (passes hosts tests) (passes_segment hosts tests) (segment_layer y)) ≡ true
      → SegmentKeeps (segment_lowering (map-Segment Expr Segment Lowering SegmentLowering (lowering hosts) (lowering_of_segment hosts) (segment_layer y)))
  segment_step (Segment-F.Infix o at r) ok is h names here w x m shown known = infix_makes (scale_of o (lowering hosts r.0).bare) o (lowering hosts r.0) (r.1 ok) is h names here w x m shown known
  segment_step (Segment-F.Shift towards at bits) ok is h names here w x m shown known = emit_makes w m here Word (Apply (shift_op towards bits) (slot x ∷ [])) (shift_fine w m towards bits x ok known)

  at_roll : (y : Expr-F E L) → passes hosts tests (roll-Expr (expr_layer y)) ≡ true → ExprKeeps (lowering hosts (roll-Expr (expr_layer y)))
  at_roll y = subst₂ (λ (b : Bool) (l : Lowering). b ≡ true → ExprKeeps l)
      (sym (fold-roll-Expr Bool Bool (expr_passes hosts tests) (segment_passes tests) (expr_layer y)))
      (sym (fold-roll-Expr Lowering SegmentLowering (expr_lowering hosts) segment_lowering (expr_layer y))) (step y)

  at_segment_roll : (y : Segment-F E L) → passes_segment hosts tests (roll-Segment (segment_layer y)) ≡ true → SegmentKeeps (lowering_of_segment hosts (roll-Segment (segment_layer y)))
  at_segment_roll y = subst₂ (λ (b : Bool) (l : SegmentLowering). b ≡ true → SegmentKeeps l)
      (sym (fold-roll-Segment Bool Bool (expr_passes hosts tests) (segment_passes tests) (segment_layer y)))
      (sym (fold-roll-Segment Lowering SegmentLowering (expr_lowering hosts) segment_lowering (segment_layer y))) (segment_step y)

  pub expr_keeps : (e : Expr) → passes hosts tests e ≡ true → ExprKeeps (lowering hosts e)
  expr_keeps = ind-Expr (λ e. passes hosts tests e ≡ true → ExprKeeps (lowering hosts e)) (λ l. passes_segment hosts tests l ≡ true → SegmentKeeps (lowering_of_segment hosts l))
      (λ x y is. subst (λ z. passes hosts tests (roll-Expr z) ≡ true → ExprKeeps (lowering hosts (roll-Expr z))) is (at_roll y))
      (λ x y is. subst (λ z. passes_segment hosts tests (roll-Segment z) ≡ true → SegmentKeeps (lowering_of_segment hosts (roll-Segment z))) is (at_segment_roll y))

  pub segment_keeps : (l : Segment) → passes_segment hosts tests l ≡ true → SegmentKeeps (lowering_of_segment hosts l)
  segment_keeps = ind-Segment (λ e. passes hosts tests e ≡ true → ExprKeeps (lowering hosts e)) (λ l. passes_segment hosts tests l ≡ true → SegmentKeeps (lowering_of_segment hosts l))
      (λ x y is. subst (λ z. passes hosts tests (roll-Expr z) ≡ true → ExprKeeps (lowering hosts (roll-Expr z))) is (at_roll y))
      (λ x y is. subst (λ z. passes_segment hosts tests (roll-Segment z) ≡ true → SegmentKeeps (lowering_of_segment hosts (roll-Segment z))) is (at_segment_roll y))
