-- An expression makes a slot of its kind.
use Rattle.std.proofs.Common.{◌≡◌, ℕ, Bool, true, false, true≢false, ◌&&◌, nat_eq, nat_le, if◌then◌else◌, List, [], ◌∷◌, ◌++◌, length, map, slice_index, Option, Some, None, Ok, Err, refl, sym, ap, ◌∙◌, subst, subst₂}
use Rattle.vd_base.specs.declared.operations.Op.{Op}
use Rattle.vd_base.specs.declared.operations.Op.TheVariants as op
use Rattle.vd_base.specs.declared.operations.Kind.{Kind}
use Rattle.vd_base.specs.declared.operations.Kind.TheVariants.{Word, Bool as Truth}
use Rattle.vd_base.specs.declared.ids.Span.{Span}
use Rattle.vd_base.specs.Names.{Named, at_name, is_among}
use Rattle.vd_core.specs.declared.normal.Right.{Right}
use Rattle.vd_core.specs.declared.normal.Right.TheVariants.{Lit, Apply, Input, Declassify, Endorse, Load, Get}
use Rattle.vd_core.specs.declared.source.Prefix.{Prefix}
use Rattle.vd_core.specs.declared.source.Prefix.TheVariants as prefix'
use Rattle.vd_core.specs.declared.source.Infix.{Infix}
use Rattle.vd_core.specs.declared.source.Infix.TheVariants as infix'
use Rattle.vd_core.specs.declared.source.Sign.{Sign}
use Rattle.vd_core.specs.declared.source.Segment.{Segment}
use Rattle.vd_core.specs.declared.source.Expr.{Expr, roll-Expr}
use Rattle.vd_core.specs.declared.source.Expr.TheOpen.{Expr-F, Segment-F}
use Rattle.vd_core.specs.declared.source.Expr.TheFolds.{map-Expr, map-Segment, ind-Expr, fold-roll-Expr, fold-roll-Segment}
use Rattle.vd_core.specs.declared.source.Expr.TheViews.{roll-Segment}
use Rattle.vd_elaborate.specs.declared.anf.here.Here.{Here}
use Rattle.vd_elaborate.specs.declared.anf.spot.Spot.{Spot}
use Rattle.vd_elaborate.specs.declared.anf.spot.Spot.TheVariants as spot
use Rattle.vd_elaborate.specs.Normal.{Made, slot, emitted, kind_at, Inlining, Lowering, SegmentLowering, chain_made, all_made, operation_made, two, infix_right, infix_kind as made_kind, scale_of, shift_op, prefix_op, prefix_kind as made_prefix, prefixes_made, segment_made, name_made, get_made, call_made, truth_right, form_of, expr_lowering, segment_lowering, lowering, lowering_of_segment}
use Rattle.vd_resolve.specs.Faults as fault
use Rattle.vd_resolve.specs.declared.symbol.Symbol.{Symbol}
use Rattle.vd_resolve.specs.declared.symbol.Symbol.TheVariants as symbol
use Rattle.vd_resolve.specs.declared.symbol.Signature.{Signature}
use Rattle.vd_resolve.specs.Rules.{Scope, and_then, kind_eq, kinds_eq, kind_or, of_words, of_one_kind, mux_kind, shift_kind, infix_kind, prefix_kind, value_kind, element_kind, call_kind, known, form_check, Typing, SegmentTyping, typings, chain_typing, signs_typing, expr_typing, segment_typing, typing, typing_of_segment}
use Rattle.vd_mux.specs.BooleanGuards.{is_truth_kind, right_is_truth}
use Rattle.vd_elaborate.proofs.Front.{passed, err_is, ok_is, accepted}
use Rattle.vd_cmd_rewrite.proofs.SlotKinds.{truth_by, Agrees, Has, Sound, Grows, Makes, grows_none, grows_after, has_stays, kind_is, then_makes, emit, emit_word}
use Rattle.vd_cmd_rewrite.proofs.Beside.{Beside, look_up, stay_beside}

-- a value that is declared stands for a slot of its kind
abbrev pub FitsSpot : Made → Symbol → Spot → Type 0
FitsSpot m (symbol.Constant kind) (spot.Binding k) = Has m k kind
FitsSpot m (symbol.Constant kind) (spot.Variable k) = ⊥
FitsSpot m (symbol.Constant kind) (spot.Array k) = ⊥
FitsSpot m (symbol.Variable kind) (spot.Binding k) = ⊥
FitsSpot m (symbol.Variable kind) (spot.Variable k) = Has m k kind
FitsSpot m (symbol.Variable kind) (spot.Array k) = ⊥
FitsSpot m (symbol.Array kind) (spot.Binding k) = ⊥
FitsSpot m (symbol.Array kind) (spot.Variable k) = ⊥
FitsSpot m (symbol.Array kind) (spot.Array k) = Has m k kind

abbrev pub Shows : Made → Named Symbol → Named Spot → Type 0
Shows m env names = Beside (FitsSpot m) env names

spot_stays : (m m' : Made) → Grows m m' → (s : Symbol) (p : Spot) → FitsSpot m s p → FitsSpot m' s p
spot_stays m m' g (symbol.Constant kind) (spot.Binding k) h = has_stays m m' k kind g h
spot_stays m m' g (symbol.Constant kind) (spot.Variable k) h = h
spot_stays m m' g (symbol.Constant kind) (spot.Array k) h = h
spot_stays m m' g (symbol.Variable kind) (spot.Binding k) h = h
spot_stays m m' g (symbol.Variable kind) (spot.Variable k) h = has_stays m m' k kind g h
spot_stays m m' g (symbol.Variable kind) (spot.Array k) h = h
spot_stays m m' g (symbol.Array kind) (spot.Binding k) h = h
spot_stays m m' g (symbol.Array kind) (spot.Variable k) h = h
spot_stays m m' g (symbol.Array kind) (spot.Array k) h = has_stays m m' k kind g h

pub shows_stay : (m m' : Made) → Grows m m' → (env : Named Symbol) (names : Named Spot) → Shows m env names → Shows m' env names
shows_stay m m' g env names h = stay_beside (FitsSpot m) (FitsSpot m') (spot_stays m m' g) env names h

-- slots of these kinds
abbrev pub Bindings : Made → List ℕ → List Kind → Type 0
Bindings m [] [] = Unit {0}
Bindings m [] (d ∷ ds) = ⊥
Bindings m (k ∷ ks) [] = ⊥
Bindings m (k ∷ ks) (d ∷ ds) = Has m k d × Bindings m ks ds

-- a call of a function with this signature
abbrev pub FitsCall : Signature → Inlining → Type 0
FitsCall signature c = (here : Here) (ks : List ℕ) (m : Made) → Sound m → Bindings m ks signature.parameters → Makes m (c here ks m) signature.result

abbrev pub Calls : Named Signature → Named Inlining → Type 0
Calls functions is = Beside FitsCall functions is

-- ---- kinds that a rule gives

same_kind : (a b : Kind) → kind_eq a b ≡ true → a ≡ b
same_kind Word Word e = refl
same_kind Truth Truth e = refl
same_kind Word Truth e = absurd (true≢false (sym e))
same_kind Truth Word e = absurd (true≢false (sym e))

pub kinds_same : (a b : Kind) → kind_eq a b ≡ true → a ≡ b
kinds_same = same_kind

all_same : (js ks : List Kind) → kinds_eq js ks ≡ true → js ≡ ks
all_same [] [] e = refl
all_same [] (b ∷ ks) e = absurd (true≢false (sym e))
all_same (a ∷ js) [] e = absurd (true≢false (sym e))
all_same (a ∷ js) (b ∷ ks) e = by (kind_eq a b) (kinds_eq js ks) refl refl e (all_same js ks)
  where
    by : (c d : Bool) → kind_eq a b ≡ c → kinds_eq js ks ≡ d → (c && d) ≡ true → (kinds_eq js ks ≡ true → js ≡ ks) → (a ∷ js) ≡ (b ∷ ks)
    by true true ec ed h rest = ap (λ (z : Kind). z ∷ js) (same_kind a b ec) ∙ ap (λ (z : List Kind). b ∷ z) (rest ed)
    by true false ec ed h rest = absurd (true≢false (sym h))
    by false d ec ed h rest = absurd (true≢false (sym h))

words_are : (at : Span) (result left right kind : Kind) → kind_or at (of_words result left right) ≡ Ok kind → result ≡ kind
words_are at result Word Word kind e = ok_is result kind e
words_are at result Word Truth kind e = absurd (err_is (fault.Kind at) kind e)
words_are at result Truth right kind e = absurd (err_is (fault.Kind at) kind e)

-- both operands have the kind of the result
one_kind : (at : Span) (left right kind : Kind) → kind_or at (of_one_kind left right) ≡ Ok kind → (left ≡ kind) × (right ≡ kind)
one_kind at Word Word kind e = (ok_is Word kind e, ok_is Word kind e)
one_kind at Truth Truth kind e = (ok_is Truth kind e, ok_is Truth kind e)
one_kind at Word Truth kind e = absurd (err_is (fault.Kind at) kind e)
one_kind at Truth Word kind e = absurd (err_is (fault.Kind at) kind e)

muxed : (at : Span) (test left right kind : Kind) → kind_or at (mux_kind test left right) ≡ Ok kind → (left ≡ kind) × (right ≡ kind)
muxed at Truth left right kind e = one_kind at left right kind e
muxed at Word left right kind e = absurd (err_is (fault.Kind at) kind e)

shifted : (at : Span) (left : Kind) (bits : ℕ) (kind : Kind) → kind_or at (shift_kind left bits) ≡ Ok kind → Word ≡ kind
shifted at Word bits kind e =
    (elim (nat_le bits 31) as (λ b. kind_or at (if b then Some Word else None) ≡ Ok kind → Word ≡ kind) [
      | true ↦ λ e. ok_is Word kind e
      | false ↦ λ e. absurd (err_is (fault.Kind at) kind e)
    ]) e
shifted at Truth bits kind e = absurd (err_is (fault.Kind at) kind e)

-- ---- right sides

-- a slot of the kind that a new slot has is 0 or 1 where that is to be
truth_of : (m : Made) (kinds : ℕ → Kind) (k : ℕ) (kind : Kind) → Agrees kinds m → Has m k kind → is_truth_kind kind ≡ true → truth_by kinds (slot k) ≡ true
truth_of m kinds k kind a h is = ap is_truth_kind (kind_is m kinds k kind a h) ∙ is

one_true : (a : Bool) → a ≡ true → (a && true) ≡ true
one_true a e = rw e refl

two_true : (a b : Bool) → a ≡ true → b ≡ true → (a && (b && true)) ≡ true
two_true a b e f = rw (e, f) refl

-- a new slot, whose kind is computed, has the kind that the rule gives
as_kind : (m : Made) (p : ℕ × Made) (computed kind : Kind) → computed ≡ kind → Makes m p computed → Makes m p kind
as_kind m p computed kind e h = subst (λ (k : Kind). Makes m p k) e h

-- the same kind as that of a slot
like : (m : Made) (k : ℕ) (kind : Kind) → Has m k kind → is_truth_kind (kind_at m k) ≡ true → is_truth_kind kind ≡ true
like m k kind h is = subst (λ (z : Kind). is_truth_kind z ≡ true) h.is is

compared : (here : Here) (r : Right) (m : Made) (kind : Kind) → Sound m → ((kinds : ℕ → Kind) → right_is_truth (truth_by kinds) r ≡ true) → Truth ≡ kind → Makes m (emitted here Truth r m) kind
compared here r m kind sound fits e = as_kind m (emitted here Truth r m) Truth kind e (emit here Truth r m sound (λ kinds a is. fits kinds))

as_word : (here : Here) (r : Right) (m : Made) (kind : Kind) → Sound m → Word ≡ kind → Makes m (emitted here Word r m) kind
as_word here r m kind sound e = as_kind m (emitted here Word r m) Word kind e (emit_word here r m sound)

on_bits : (here : Here) (o : Op) (m : Made) (x y : ℕ) (left given kind : Kind) → ((kinds : ℕ → Kind) → truth_by kinds (slot x) ≡ true → truth_by kinds (slot y) ≡ true → right_is_truth (truth_by kinds) (two o x y) ≡ true)
    → (left ≡ kind) × (given ≡ kind) → Sound m → Has m x left → Has m y given → Makes m (emitted here (kind_at m x) (two o x y) m) kind
on_bits here o m x y left given kind fits e sound hx hy =
    as_kind m (emitted here (kind_at m x) (two o x y) m) (kind_at m x) kind (hx.is ∙ e.0)
    (emit here (kind_at m x) (two o x y) m sound (λ kinds a is.
    let truth = like m x left hx is in
    fits kinds (truth_of m kinds x left a hx truth) (truth_of m kinds y given a hy (subst (λ (z : Kind). is_truth_kind z ≡ true) (e.0 ∙ sym e.1) truth))))

infix_makes : (at : Span) (o : Infix) (here : Here) (m : Made) (x y : ℕ) (left given kind : Kind) → kind_or at (infix_kind o left given) ≡ Ok kind → Sound m → Has m x left → Has m y given
    → Makes m (emitted here (made_kind o (kind_at m x)) (infix_right o x y) m) kind
infix_makes at infix'.Equal here m x y left given kind e sound hx hy = compared here (two op.Eq x y) m kind sound (λ kinds. refl) (words_are at Truth left given kind e)
infix_makes at infix'.NotEqual here m x y left given kind e sound hx hy = compared here (two op.Ne x y) m kind sound (λ kinds. refl) (words_are at Truth left given kind e)
infix_makes at infix'.Less here m x y left given kind e sound hx hy = compared here (two op.Lt x y) m kind sound (λ kinds. refl) (words_are at Truth left given kind e)
infix_makes at infix'.LessEqual here m x y left given kind e sound hx hy = compared here (two op.Le x y) m kind sound (λ kinds. refl) (words_are at Truth left given kind e)
infix_makes at infix'.Greater here m x y left given kind e sound hx hy = compared here (two op.Lt y x) m kind sound (λ kinds. refl) (words_are at Truth left given kind e)
infix_makes at infix'.GreaterEqual here m x y left given kind e sound hx hy = compared here (two op.Le y x) m kind sound (λ kinds. refl) (words_are at Truth left given kind e)
infix_makes at infix'.Or here m x y left given kind e sound hx hy = on_bits here op.Or m x y left given kind (λ kinds a b. two_true _ _ a b) (one_kind at left given kind e) sound hx hy
infix_makes at infix'.Xor here m x y left given kind e sound hx hy = on_bits here op.Xor m x y left given kind (λ kinds a b. two_true _ _ a b) (one_kind at left given kind e) sound hx hy
infix_makes at infix'.And here m x y left given kind e sound hx hy = on_bits here op.And m x y left given kind (λ kinds a b. two_true _ _ a b) (one_kind at left given kind e) sound hx hy
infix_makes at infix'.Add here m x y left given kind e sound hx hy = as_word here (two op.Add x y) m kind sound (words_are at Word left given kind e)
infix_makes at infix'.Sub here m x y left given kind e sound hx hy = as_word here (two op.Sub x y) m kind sound (words_are at Word left given kind e)
infix_makes at infix'.Mul here m x y left given kind e sound hx hy = as_word here (two op.Mul x y) m kind sound (words_are at Word left given kind e)
infix_makes at infix'.Div here m x y left given kind e sound hx hy = as_word here (two op.Div x y) m kind sound (words_are at Word left given kind e)
infix_makes at infix'.Rem here m x y left given kind e sound hx hy = as_word here (two op.Rem x y) m kind sound (words_are at Word left given kind e)

-- where a number stands bare, the operator is a product
scaled : (at : Span) (o : Infix) (bare : Option ℕ) (k : ℕ) (left given kind : Kind) → scale_of o bare ≡ Some k → kind_or at (infix_kind o left given) ≡ Ok kind → Word ≡ kind
scaled at infix'.Equal bare k left given kind s e = absurd (cc s)
scaled at infix'.NotEqual bare k left given kind s e = absurd (cc s)
scaled at infix'.Less bare k left given kind s e = absurd (cc s)
scaled at infix'.LessEqual bare k left given kind s e = absurd (cc s)
scaled at infix'.Greater bare k left given kind s e = absurd (cc s)
scaled at infix'.GreaterEqual bare k left given kind s e = absurd (cc s)
scaled at infix'.Or bare k left given kind s e = absurd (cc s)
scaled at infix'.Xor bare k left given kind s e = absurd (cc s)
scaled at infix'.And bare k left given kind s e = absurd (cc s)
scaled at infix'.Add bare k left given kind s e = absurd (cc s)
scaled at infix'.Sub bare k left given kind s e = absurd (cc s)
scaled at infix'.Mul bare k left given kind s e = words_are at Word left given kind e
scaled at infix'.Div bare k left given kind s e = absurd (cc s)
scaled at infix'.Rem bare k left given kind s e = absurd (cc s)

prefix_makes : (at : Span) (o : Prefix) (here : Here) (m : Made) (x : ℕ) (left kind : Kind) → kind_or at (prefix_kind o left) ≡ Ok kind → Sound m → Has m x left → Makes m (emitted here (made_prefix o) (Apply (prefix_op o) (slot x ∷ [])) m) kind
prefix_makes at prefix'.Flip here m x Truth kind e sound h =
    as_kind m (emitted here Truth (Apply op.Flip (slot x ∷ [])) m) Truth kind (ok_is Truth kind e)
    (emit here Truth (Apply op.Flip (slot x ∷ [])) m sound (λ kinds a is. one_true _ (truth_of m kinds x Truth a h is)))
prefix_makes at prefix'.Flip here m x Word kind e sound h = absurd (err_is (fault.Kind at) kind e)
prefix_makes at prefix'.Not here m x Word kind e sound h = as_word here (Apply op.Not (slot x ∷ [])) m kind sound (ok_is Word kind e)
prefix_makes at prefix'.Not here m x Truth kind e sound h = absurd (err_is (fault.Kind at) kind e)

prefixes_make : (ss : List Sign) (here : Here) (m : Made) (x : ℕ) (left kind : Kind) → signs_typing ss left ≡ Ok kind → Sound m → Has m x left → Makes m (prefixes_made ss here x m) kind
prefixes_make [] here m x left kind e sound h = record { sound = sound; grows = grows_none m; has = subst (λ (k : Kind). Has m x k) (ok_is left kind e) h }
prefixes_make (s ∷ ss) here m x left kind e sound h =
    let t = passed (kind_or s.span (prefix_kind s.prefix left)) (λ next. signs_typing ss next) kind e in
    let p = emitted here (made_prefix s.prefix) (Apply (prefix_op s.prefix) (slot x ∷ [])) m in
    let one = prefix_makes s.span s.prefix here m x left t.0 t.1 sound h in
    then_makes m p.1 (prefixes_made ss here p.0 p.1) kind one.grows (prefixes_make ss here p.1 p.0 t.0 kind t.2 one.sound one.has)

-- ---- names

-- a slot that is there
stays_there : (m : Made) (k : ℕ) (given kind : Kind) → given ≡ kind → Sound m → Has m k given → Makes m (k, m) kind
stays_there m k given kind e sound h = record { sound = sound; grows = grows_none m; has = subst (λ (z : Kind). Has m k z) e h }

binding_makes : (here : Here) (m : Made) (given kind : Kind) → given ≡ kind → Sound m → (p : Spot) → FitsSpot m (symbol.Constant given) p → Makes m (name_made (Some p) here m) kind
binding_makes here m given kind e sound (spot.Binding k) h = stays_there m k given kind e sound h
binding_makes here m given kind e sound (spot.Variable k) h = absurd h
binding_makes here m given kind e sound (spot.Array k) h = absurd h

variable_makes : (here : Here) (m : Made) (given kind : Kind) → given ≡ kind → Sound m → (p : Spot) → FitsSpot m (symbol.Variable given) p → Makes m (name_made (Some p) here m) kind
variable_makes here m given kind e sound (spot.Variable k) h =
    as_kind m (emitted here (kind_at m k) (Load (slot k)) m) (kind_at m k) kind (h.is ∙ e) (emit here (kind_at m k) (Load (slot k)) m sound (λ kinds a is. truth_of m kinds k given a h (like m k given h is)))
variable_makes here m given kind e sound (spot.Binding k) h = absurd h
variable_makes here m given kind e sound (spot.Array k) h = absurd h

element_makes : (here : Here) (p : ℕ × Made) (given kind : Kind) → given ≡ kind → Sound p.1 → (v : Spot) → FitsSpot p.1 (symbol.Array given) v → Makes p.1 (get_made (Some v) here p) kind
element_makes here p given kind e sound (spot.Array k) h =
    as_kind p.1 (emitted here (kind_at p.1 k) (Get (slot k) (slot p.0)) p.1) (kind_at p.1 k) kind (h.is ∙ e)
    (emit here (kind_at p.1 k) (Get (slot k) (slot p.0)) p.1 sound (λ kinds a is. truth_of p.1 kinds k given a h (like p.1 k given h is)))
element_makes here p given kind e sound (spot.Binding k) h = absurd h
element_makes here p given kind e sound (spot.Variable k) h = absurd h

name_makes : (at : Span) (x : List ℕ) (here : Here) (env : Named Symbol) (names : Named Spot) (m : Made) (kind : Kind) (o : Option Symbol) → at_name env x ≡ o → value_kind at o ≡ Ok kind → Sound m → Shows m env names → Makes m (name_made (at_name names x) here m) kind
name_makes at x here env names m kind None is e sound shows = absurd (err_is (fault.Unknown at) kind e)
name_makes at x here env names m kind (Some (symbol.Constant given)) is e sound shows =
    let f = look_up (FitsSpot m) env names x (symbol.Constant given) shows is in
    subst (λ (o : Option Spot). Makes m (name_made o here m) kind) (sym f.1) (binding_makes here m given kind (ok_is given kind e) sound f.0 f.2)
name_makes at x here env names m kind (Some (symbol.Variable given)) is e sound shows =
    let f = look_up (FitsSpot m) env names x (symbol.Variable given) shows is in
    subst (λ (o : Option Spot). Makes m (name_made o here m) kind) (sym f.1) (variable_makes here m given kind (ok_is given kind e) sound f.0 f.2)
name_makes at x here env names m kind (Some (symbol.Array given)) is e sound shows = absurd (err_is (fault.Kind at) kind e)

-- the kind of an element, whose index is a word
element_is : (at : Span) (index : Kind) (o : Option Symbol) (kind : Kind) → element_kind at index o ≡ Ok kind → (o ≡ Some (symbol.Array kind))
element_is at index None kind e = absurd (err_is (fault.Unknown at) kind e)
element_is at index (Some (symbol.Constant given)) kind e = absurd (err_is (fault.Kind at) kind e)
element_is at index (Some (symbol.Variable given)) kind e = absurd (err_is (fault.Kind at) kind e)
element_is at Word (Some (symbol.Array given)) kind e = ap (λ (z : Kind). Some (symbol.Array z)) (ok_is given kind e)
element_is at Truth (Some (symbol.Array given)) kind e = absurd (err_is (fault.Kind at) kind e)

pub array_shown : (at : Span) (x : List ℕ) (index : Kind) (env : Named Symbol) (names : Named Spot) (m : Made) (kind : Kind) → element_kind at index (at_name env x) ≡ Ok kind → Shows m env names
    → (p : Spot) × (at_name names x ≡ Some p) × FitsSpot m (symbol.Array kind) p
array_shown at x index env names m kind e shows = look_up (FitsSpot m) env names x (symbol.Array kind) shows (element_is at index (at_name env x) kind e)

-- ---- calls

call_is : (at : Span) (kinds : List Kind) (later : Bool) (o : Option Signature) (kind : Kind) → call_kind at kinds later o ≡ Ok kind → (s : Signature) × (o ≡ Some s) × (kinds ≡ s.parameters) × (s.result ≡ kind)
call_is at kinds later (Some s) kind e =
    let first = accepted (nat_eq (length kinds) (length s.parameters)) (fault.Arity at) (if kinds_eq kinds s.parameters then Ok s.result else Err (fault.Kind at)) kind e in
    let second = accepted (kinds_eq kinds s.parameters) (fault.Kind at) (Ok s.result) kind first.1 in
    (s, refl, all_same kinds s.parameters second.0, ok_is s.result kind second.1)
call_is at kinds true None kind e = absurd (err_is (fault.Recursive at) kind e)
call_is at kinds false None kind e = absurd (err_is (fault.Unknown at) kind e)

-- ---- expressions

abbrev pub ExprTyped : Typing → Lowering → Type 0
ExprTyped t l = (scope : Scope) (env : Named Symbol) (kind : Kind) → t scope env ≡ Ok kind → (is : Named Inlining) → Calls scope.functions is → (names : Named Spot) (here : Here) (m : Made) → Sound m → Shows m env names → Makes m (l.run is names here m) kind

abbrev SegmentTyped : SegmentTyping → SegmentLowering → Type 0
SegmentTyped t l = (scope : Scope) (env : Named Symbol) (left kind : Kind) → t scope env left ≡ Ok kind → (is : Named Inlining) → Calls scope.functions is → (names : Named Spot) (here : Here) (x : ℕ) (m : Made) → Sound m → Shows m env names → Has m x left → Makes m (l is names here x m) kind

infix_typed : (o : Infix) (at : Span) (t : Typing) (l : Lowering) → ExprTyped t l → (s : Option ℕ) → ((k : ℕ) → s ≡ Some k → (left given kind : Kind) → kind_or at (infix_kind o left given) ≡ Ok kind → Word ≡ kind) → SegmentTyped (segment_typing (Segment-F.Infix o at t)) (segment_made s o l)
infix_typed o at t l e (Some k) scaled_is scope env left kind p is calls names here x m sound shows h =
    let s = passed (t scope env) (λ given. kind_or at (infix_kind o left given)) kind p in
    as_word here (Apply (op.Scale k) (slot x ∷ [])) m kind sound (scaled_is k refl left s.0 kind s.2)
infix_typed o at t l e None scaled_is scope env left kind p is calls names here x m sound shows h =
    let s = passed (t scope env) (λ given. kind_or at (infix_kind o left given)) kind p in
    let q = l.run is names here m in
    let one = e scope env s.0 s.1 is calls names here m sound shows in
    then_makes m q.1 (emitted here (made_kind o (kind_at q.1 x)) (infix_right o x q.0) q.1) kind one.grows
    (infix_makes at o here q.1 x q.0 left s.0 kind s.2 one.sound (has_stays m q.1 x left one.grows h) one.has)

module _ (hosts : List (List ℕ)) where
  abbrev E : Type 0
  E = (e : Expr) × ExprTyped (typing e) (lowering hosts e)

  abbrev L : Type 0
  L = (l : Segment) × SegmentTyped (typing_of_segment l) (lowering_of_segment hosts l)

  abbrev typed : List E → List Typing
  typed es = map typing (map (λ (e : E). e.0) es)

  abbrev lowered : List E → List Lowering
  lowered es = map (lowering hosts) (map (λ (e : E). e.0) es)

  abbrev segments_typed : List L → List SegmentTyping
  segments_typed ls = map typing_of_segment (map (λ (l : L). l.0) ls)

  abbrev segments_lowered : List L → List SegmentLowering
  segments_lowered ls = map (lowering_of_segment hosts) (map (λ (l : L). l.0) ls)

  chain_typed : (ls : List L) → SegmentTyped (chain_typing (segments_typed ls)) (chain_made (segments_lowered ls))
  chain_typed [] scope env left kind p is calls names here x m sound shows h = stays_there m x left kind (ok_is left kind p) sound h
  chain_typed (l ∷ ls) scope env left kind p is calls names here x m sound shows h =
      let s = passed (typing_of_segment l.0 scope env left) (λ next. chain_typing (segments_typed ls) scope env next) kind p in
      let q = lowering_of_segment hosts l.0 is names here x m in
      let one = l.1 scope env left s.0 s.1 is calls names here x m sound shows h in
      then_makes m q.1 (chain_made (segments_lowered ls) is names here q.0 q.1) kind one.grows
      (chain_typed ls scope env s.0 kind s.2 is calls names here q.0 q.1 one.sound (shows_stay m q.1 one.grows env names shows) one.has)

  -- operands: what they make, and their kinds behind those before them
  record AllMake (m : Made) (p : List ℕ × Made) (before kinds : List Kind) : Type 0 where
    own : List Kind
    are : kinds ≡ before ++ own
    sound : Sound p.1
    grows : Grows m p.1
    fit : Bindings p.1 p.0 own

  behind : (xs : List Kind) → xs ++ [] ≡ xs
  behind [] = refl
  behind (x ∷ xs) = ap (λ (z : List Kind). x ∷ z) (behind xs)

  one_behind : (xs : List Kind) (y : Kind) (ys : List Kind) → (xs ++ y ∷ []) ++ ys ≡ xs ++ y ∷ ys
  one_behind [] y ys = refl
  one_behind (x ∷ xs) y ys = ap (λ (z : List Kind). x ∷ z) (one_behind xs y ys)

  all_typed : (es : List E) (scope : Scope) (env : Named Symbol) (before kinds : List Kind) → typings before (typed es) scope env ≡ Ok kinds → (is : Named Inlining) → Calls scope.functions is → (names : Named Spot) (here : Here) (m : Made) → Sound m → Shows m env names
      → AllMake m (all_made (lowered es) is names here m) before kinds
  all_typed [] scope env before kinds p is calls names here m sound shows =
      record { own = []; are = sym (ok_is before kinds p) ∙ sym (behind before); sound = sound; grows = grows_none m; fit = tt }
  all_typed (e ∷ es) scope env before kinds p is calls names here m sound shows =
      let s = passed (typing e.0 scope env) (λ kind. typings (before ++ kind ∷ []) (typed es) scope env) kinds p in
      let q = (lowering hosts e.0).run is names here m in
      let r = all_made (lowered es) is names here q.1 in
      let one = e.1 scope env s.0 s.1 is calls names here m sound shows in
      let rest = all_typed es scope env (before ++ s.0 ∷ []) kinds s.2 is calls names here q.1 one.sound (shows_stay m q.1 one.grows env names shows) in
      record {
        own = s.0 ∷ rest.own;
        are = rest.are ∙ one_behind before s.0 rest.own;
        sound = rest.sound;
        grows = grows_after m q.1 r.1 one.grows rest.grows;
        fit = (has_stays q.1 r.1 q.0 s.0 rest.grows one.has, rest.fit);
      }

  abbrev expr_layer : Expr-F E L → Expr-F Expr Segment
  expr_layer = map-Expr E L Expr Segment (λ e. e.0) (λ l. l.0)

  abbrev segment_layer : Segment-F E L → Segment-F Expr Segment
  segment_layer = map-Segment E L Expr Segment (λ e. e.0) (λ l. l.0)

  truth_fits : (b : Bool) (kinds : ℕ → Kind) → right_is_truth (truth_by kinds) (truth_right b) ≡ true
  truth_fits true kinds = refl
  truth_fits false kinds = refl

  -- two operands, the second after the first
  record Pair (m : Made) (p : List ℕ × Made) (left right : Kind) : Type 0 where
    sound : Sound p.1
    grows : Grows m p.1
    first : Has p.1 (slice_index p.0 0) left
    second : Has p.1 (slice_index p.0 1) right

  pair_made : (x y : E) (scope : Scope) (env : Named Symbol) (left right : Kind) → typing x.0 scope env ≡ Ok left → typing y.0 scope env ≡ Ok right → (is : Named Inlining) → Calls scope.functions is → (names : Named Spot) (here : Here) (m : Made) → Sound m → Shows m env names
      → Pair m (all_made (lowered (x ∷ y ∷ [])) is names here m) left right
  pair_made x y scope env left right p q is calls names here m sound shows =
      let a = (lowering hosts x.0).run is names here m in
      let b = (lowering hosts y.0).run is names here a.1 in
      let one = x.1 scope env left p is calls names here m sound shows in
      let two' = y.1 scope env right q is calls names here a.1 one.sound (shows_stay m a.1 one.grows env names shows) in
      record { sound = two'.sound; grows = grows_after m a.1 b.1 one.grows two'.grows; first = has_stays a.1 b.1 a.0 left two'.grows one.has; second = two'.has }

  step : (y : Expr-F E L) → ExprTyped (expr_typing (map-Expr Expr Segment Typing SegmentTyping typing typing_of_segment (expr_layer y)))
      (expr_lowering hosts (map-Expr Expr Segment Lowering SegmentLowering (lowering hosts) (lowering_of_segment hosts) (expr_layer y)))
  step (Expr-F.Number n) scope env kind p is calls names here m sound shows = as_word here (Lit n) m kind sound (ok_is Word kind p)
  step (Expr-F.Truth b) scope env kind p is calls names here m sound shows = compared here (truth_right b) m kind sound (truth_fits b) (ok_is Truth kind p)
  step (Expr-F.Value x) scope env kind p is calls names here m sound shows = name_makes x.span x.name here env names m kind (at_name env x.name) refl p sound shows
  step (Expr-F.Element x index) scope env kind p is calls names here m sound shows =
      let s = passed (typing index.0 scope env) (λ given. element_kind x.span given (at_name env x.name)) kind p in
      let q = (lowering hosts index.0).run is names here m in
      let one = index.1 scope env s.0 s.1 is calls names here m sound shows in
      let f = array_shown x.span x.name s.0 env names q.1 kind s.2 (shows_stay m q.1 one.grows env names shows) in
      then_makes m q.1 (get_made (at_name names x.name) here q) kind one.grows
      (subst (λ (o : Option Spot). Makes q.1 (get_made o here q) kind) (sym f.1) (element_makes here q kind kind refl one.sound f.0 f.2))
  step (Expr-F.Input host) scope env kind p is calls names here m sound shows =
      let s = passed {B = Kind} (known scope.hosts host) (λ done. Ok Word) kind p in
      as_word here (Input (record { 0 = _ })) m kind sound (ok_is Word kind s.2)
  step (Expr-F.Call f es) scope env kind p is calls names here m sound shows =
      let s = passed (typings [] (typed es) scope env) (λ kinds. call_kind f.span kinds (is_among scope.later f.name) (at_name scope.functions f.name)) kind p in
      let q = all_made (lowered es) is names here m in
      let a = all_typed es scope env [] s.0 s.1 is calls names here m sound shows in
      let c = call_is f.span s.0 (is_among scope.later f.name) (at_name scope.functions f.name) kind s.2 in
      let g = look_up FitsCall scope.functions is f.name c.0 calls c.1 in
      then_makes m q.1 (call_made (at_name is f.name) here q) kind a.grows
      (subst (λ (o : Option Inlining). Makes q.1 (call_made o here q) kind) (sym g.1)
      (as_kind q.1 (g.0 here q.0 q.1) c.0.result kind c.3 (g.2 here q.0 q.1 a.sound (subst (λ (ds : List Kind). Bindings q.1 q.0 ds) (sym a.are ∙ c.2) a.fit))))
  step (Expr-F.Min at x y) scope env kind p is calls names here m sound shows =
      let s = passed (typing x.0 scope env) (λ left. and_then (typing y.0 scope env) (λ right. kind_or at (of_words Word left right))) kind p in
      let t = passed (typing y.0 scope env) (λ right. kind_or at (of_words Word s.0 right)) kind s.2 in
      let q = all_made (lowered (x ∷ y ∷ [])) is names here m in
      let a = pair_made x y scope env s.0 t.0 s.1 t.1 is calls names here m sound shows in
      then_makes m q.1 (operation_made op.Min Word here q) kind a.grows (as_word here (Apply op.Min (map slot q.0)) q.1 kind a.sound (words_are at Word s.0 t.0 kind t.2))
  step (Expr-F.Max at x y) scope env kind p is calls names here m sound shows =
      let s = passed (typing x.0 scope env) (λ left. and_then (typing y.0 scope env) (λ right. kind_or at (of_words Word left right))) kind p in
      let t = passed (typing y.0 scope env) (λ right. kind_or at (of_words Word s.0 right)) kind s.2 in
      let q = all_made (lowered (x ∷ y ∷ [])) is names here m in
      let a = pair_made x y scope env s.0 t.0 s.1 t.1 is calls names here m sound shows in
      then_makes m q.1 (operation_made op.Max Word here q) kind a.grows (as_word here (Apply op.Max (map slot q.0)) q.1 kind a.sound (words_are at Word s.0 t.0 kind t.2))
  step (Expr-F.Mux at c x y) scope env kind p is calls names here m sound shows =
      let r = passed (typing c.0 scope env) (λ test. and_then (typing x.0 scope env) (λ left. and_then (typing y.0 scope env) (λ right. kind_or at (mux_kind test left right)))) kind p in
      let s = passed (typing x.0 scope env) (λ left. and_then (typing y.0 scope env) (λ right. kind_or at (mux_kind r.0 left right))) kind r.2 in
      let t = passed (typing y.0 scope env) (λ right. kind_or at (mux_kind r.0 s.0 right)) kind s.2 in
      let g = (lowering hosts c.0).run is names here m in
      let one = c.1 scope env r.0 r.1 is calls names here m sound shows in
      let q = all_made (lowered (x ∷ y ∷ [])) is names here g.1 in
      let a = pair_made x y scope env s.0 t.0 s.1 t.1 is calls names here g.1 one.sound (shows_stay m g.1 one.grows env names shows) in
      let i = slice_index q.0 0 in
      let j = slice_index q.0 1 in
      let e = muxed at r.0 s.0 t.0 kind t.2 in
      let all = Apply op.Mux (slot g.0 ∷ slot i ∷ slot j ∷ []) in
      then_makes m q.1 (emitted here (kind_at q.1 i) all q.1) kind (grows_after m g.1 q.1 one.grows a.grows)
      (as_kind q.1 (emitted here (kind_at q.1 i) all q.1) (kind_at q.1 i) kind (a.first.is ∙ e.0)
      (emit here (kind_at q.1 i) all q.1 a.sound (λ kinds agrees truth_is.
      let truth = like q.1 i s.0 a.first truth_is in
      two_true _ _ (truth_of q.1 kinds i s.0 agrees a.first truth) (truth_of q.1 kinds j t.0 agrees a.second (subst (λ (z : Kind). is_truth_kind z ≡ true) (e.0 ∙ sym e.1) truth)))))
  step (Expr-F.Declassify x to) scope env kind p is calls names here m sound shows =
      let s = passed (typing x.0 scope env) (λ given. and_then (form_check to scope.principals) (λ done. Ok given)) kind p in
      let t = passed {B = Kind} (form_check to scope.principals) (λ done. Ok s.0) kind s.2 in
      let q = (lowering hosts x.0).run is names here m in
      let one = x.1 scope env s.0 s.1 is calls names here m sound shows in
      then_makes m q.1 (emitted here (kind_at q.1 q.0) (Declassify (slot q.0) (form_of to)) q.1) kind one.grows
      (as_kind q.1 (emitted here (kind_at q.1 q.0) (Declassify (slot q.0) (form_of to)) q.1) (kind_at q.1 q.0) kind (one.has.is ∙ ok_is s.0 kind t.2)
      (emit here (kind_at q.1 q.0) (Declassify (slot q.0) (form_of to)) q.1 one.sound (λ kinds a truth_is. truth_of q.1 kinds q.0 s.0 a one.has (like q.1 q.0 s.0 one.has truth_is))))
  step (Expr-F.Endorse x to) scope env kind p is calls names here m sound shows =
      let s = passed (typing x.0 scope env) (λ given. and_then (form_check to scope.principals) (λ done. Ok given)) kind p in
      let t = passed {B = Kind} (form_check to scope.principals) (λ done. Ok s.0) kind s.2 in
      let q = (lowering hosts x.0).run is names here m in
      let one = x.1 scope env s.0 s.1 is calls names here m sound shows in
      then_makes m q.1 (emitted here (kind_at q.1 q.0) (Endorse (slot q.0) (form_of to)) q.1) kind one.grows
      (as_kind q.1 (emitted here (kind_at q.1 q.0) (Endorse (slot q.0) (form_of to)) q.1) (kind_at q.1 q.0) kind (one.has.is ∙ ok_is s.0 kind t.2)
      (emit here (kind_at q.1 q.0) (Endorse (slot q.0) (form_of to)) q.1 one.sound (λ kinds a truth_is. truth_of q.1 kinds q.0 s.0 a one.has (like q.1 q.0 s.0 one.has truth_is))))
  step (Expr-F.Unary x signs) scope env kind p is calls names here m sound shows =
      let s = passed (typing x.0 scope env) (λ given. signs_typing signs given) kind p in
      let q = (lowering hosts x.0).run is names here m in
      let one = x.1 scope env s.0 s.1 is calls names here m sound shows in
      then_makes m q.1 (prefixes_made signs here q.0 q.1) kind one.grows (prefixes_make signs here q.1 q.0 s.0 kind s.2 one.sound one.has)
  step (Expr-F.Chain x ls) scope env kind p is calls names here m sound shows =
      let s = passed (typing x.0 scope env) (λ given. chain_typing (segments_typed ls) scope env given) kind p in
      let q = (lowering hosts x.0).run is names here m in
      let one = x.1 scope env s.0 s.1 is calls names here m sound shows in
      then_makes m q.1 (chain_made (segments_lowered ls) is names here q.0 q.1) kind one.grows
      (chain_typed ls scope env s.0 kind s.2 is calls names here q.0 q.1 one.sound (shows_stay m q.1 one.grows env names shows) one.has)
  step (Expr-F.Brackets x) scope env kind p is calls names here m sound shows = x.1 scope env kind p is calls names here m sound shows

  segment_step : (y : Segment-F E L) → SegmentTyped (segment_typing (map-Segment Expr Segment Typing SegmentTyping typing typing_of_segment (segment_layer y)))
      (segment_lowering (map-Segment Expr Segment Lowering SegmentLowering (lowering hosts) (lowering_of_segment hosts) (segment_layer y)))
  segment_step (Segment-F.Infix o at r) scope env left kind p is calls names here x m sound shows h =
      infix_typed o at (typing r.0) (lowering hosts r.0) r.1 (scale_of o (lowering hosts r.0).bare) (λ k e first given result q. scaled at o (lowering hosts r.0).bare k first given result e q)
      scope env left kind p is calls names here x m sound shows h
  segment_step (Segment-F.Shift towards at bits) scope env left kind p is calls names here x m sound shows h =
      as_word here (Apply (shift_op towards bits) (slot x ∷ [])) m kind sound (shifted at left bits kind p)

  at_roll : (y : Expr-F E L) → ExprTyped (typing (roll-Expr (expr_layer y))) (lowering hosts (roll-Expr (expr_layer y)))
  at_roll y = subst₂ ExprTyped (sym (fold-roll-Expr Typing SegmentTyping expr_typing segment_typing (expr_layer y))) (sym (fold-roll-Expr Lowering SegmentLowering (expr_lowering hosts) segment_lowering (expr_layer y))) (step y)

  at_segment_roll : (y : Segment-F E L) → SegmentTyped (typing_of_segment (roll-Segment (segment_layer y))) (lowering_of_segment hosts (roll-Segment (segment_layer y)))
  at_segment_roll y = subst₂ SegmentTyped (sym (fold-roll-Segment Typing SegmentTyping expr_typing segment_typing (segment_layer y))) (sym (fold-roll-Segment Lowering SegmentLowering (expr_lowering hosts) segment_lowering (segment_layer y))) (segment_step y)

  pub expr_typed : (e : Expr) → ExprTyped (typing e) (lowering hosts e)
  expr_typed = ind-Expr (λ e. ExprTyped (typing e) (lowering hosts e)) (λ l. SegmentTyped (typing_of_segment l) (lowering_of_segment hosts l))
      (λ x y is. subst (λ z. ExprTyped (typing (roll-Expr z)) (lowering hosts (roll-Expr z))) is (at_roll y))
      (λ x y is. subst (λ z. SegmentTyped (typing_of_segment (roll-Segment z)) (lowering_of_segment hosts (roll-Segment z))) is (at_segment_roll y))
