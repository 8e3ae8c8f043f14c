-- What an expression makes is of its size.
use Rattle.std.proofs.Common.{◌≡◌, ℕ, suc, ◌+◌, Bool, true, false, not, true≢false, nat_eq, List, [], ◌∷◌, ◌++◌, length, map, Option, Some, None, is_some, Ok, Err, refl, sym, ap, ◌∙◌, subst, subst₂, if◌then◌else◌, arith, slice_index}
use Rattle.vd_base.specs.declared.operations.Kind.{Kind}
use Rattle.vd_base.specs.declared.operations.Kind.TheVariants.{Word, Bool as Truth}
use Rattle.vd_base.specs.declared.operations.Op.TheVariants as op
use Rattle.vd_base.specs.declared.ids.Span.{Span}
use Rattle.vd_base.specs.Names.{Named, at_name, is_among}
use Rattle.vd_core.specs.declared.normal.Right.{Right}
use Rattle.vd_core.specs.declared.normal.Right.TheVariants as right'
use Rattle.vd_core.specs.declared.normal.Stmt.{Stmt, Let}
use Rattle.vd_core.specs.declared.source.Infix.{Infix}
use Rattle.vd_core.specs.declared.source.Infix.TheVariants as infix'
use Rattle.vd_core.specs.declared.source.Sign.{Sign}
use Rattle.vd_core.specs.declared.source.Segment.{Segment}
use Rattle.vd_core.specs.declared.source.Expr.{Expr, roll-Expr}
use Rattle.vd_core.specs.declared.source.Expr.TheOpen.{Expr-F, Segment-F}
use Rattle.vd_core.specs.declared.source.Expr.TheFolds.{map-Expr, map-Segment, ind-Expr, fold-roll-Expr, fold-roll-Segment}
use Rattle.vd_core.specs.declared.source.Expr.TheViews.{roll-Segment}
use Rattle.vd_elaborate.specs.declared.anf.here.Here.{Here}
use Rattle.vd_elaborate.specs.declared.anf.spot.Spot.{Spot}
use Rattle.vd_elaborate.specs.declared.anf.spot.Spot.TheVariants as spot
use Rattle.vd_elaborate.specs.Normal.{Made, slot, emitted, kind_at, Inlining, Lowering, SegmentLowering, chain_made, all_made, infix_right, infix_kind as made_kind, scale_of, shift_op, prefix_op, prefix_kind, prefixes_made, prefixes_plain, segment_made, name_made, name_plain, get_made, call_made, chain_plain, truth_right, form_of, host_id, expr_lowering, segment_lowering, lowering, lowering_of_segment}
use Rattle.vd_resolve.specs.Faults as fault
use Rattle.vd_resolve.specs.declared.symbol.Symbol.{Symbol}
use Rattle.vd_resolve.specs.declared.symbol.Symbol.TheVariants as symbol
use Rattle.vd_resolve.specs.declared.symbol.Signature.{Signature}
use Rattle.vd_resolve.specs.declared.size.Size.{Size}
use Rattle.vd_resolve.specs.Rules.{Scope, and_then, kind_or, of_words, mux_kind, infix_kind, kinds_eq, value_kind, element_kind, call_kind, form_check, Typing, SegmentTyping, typings, chain_typing, signs_typing, expr_typing, segment_typing, typing, typing_of_segment}
use Rattle.vd_resolve.specs.Sizes.{nothing, one, also, Variables, is_true, Sizing, SegmentSizing, plain_alone, sizes_after, segments_after, signs_after, call_size, expr_sizing, is_scale, segment_sizing, sizing, sizing_of_segment}
use Rattle.vd_elaborate.specs.Calls.{Calls, total, with_call, expr_calls, segment_calls, calls, calls_of_segment}
use Rattle.vd_elaborate.proofs.AnfWellformedSteps.{passed, accepted, err_is, ok_is}
use Rattle.vd_elaborate.proofs.Counts.{let_one}
use Rattle.vd_elaborate.proofs.Fits.{Fits, fits_none, fits_same, fits_then, fits_next, fits_inlined, fits_one}
use Rattle.vd_elaborate.proofs.Alike.{Alike, MaybeAlike, alike_at, Callees, MaybeCallee, callee_at}

emit_fits : (here : Here) (kind : Kind) (r : Right) (m : Made) → Fits m.body (emitted here kind r m).1.body one 0
emit_fits here kind r m = fits_one m.body (Let (slot m.next) r) (let_one (slot m.next) r)

-- one more binding, after what has a size
pub then_emit : (here : Here) (kind : Kind) (r : Right) (xs : List Stmt) (m : Made) (s : Size) (c : ℕ) → Fits xs m.body s c → Fits xs (emitted here kind r m).1.body (also s one) c
then_emit here kind r xs m s c f = fits_next xs m.body (emitted here kind r m).1.body s one c f (emit_fits here kind r m)

-- by how a part is typed, sized and made
abbrev pub PartFits : Typing → (Named Size → Variables → Size) → (Named Inlining → Named Spot → Here → Made → ℕ × Made) → Calls → Type 0
PartFits t z run c = (scope : Scope) (env : Named Symbol) (kind : Kind) → t scope env ≡ Ok kind → (is : Named Inlining) (sizes : Named Size) (inside : Named ℕ) → Callees scope.functions is sizes inside
    → (names : Named Spot) (vars : Variables) → Alike env names vars → (here : Here) (m : Made) → Fits m.body (run is names here m).1.body (z sizes vars) (c inside)

pub record ExprFits (t : Typing) (z : Sizing) (l : Lowering) (c : Calls) : Type 0 where
  pub bare : is_some l.bare ≡ z.bare
  pub none : (inside : Named ℕ) → z.bare ≡ true → c inside ≡ 0
  pub plain : (scope : Scope) (env : Named Symbol) (kind : Kind) → t scope env ≡ Ok kind → (names : Named Spot) (vars : Variables) → Alike env names vars → l.plain names ≡ z.plain vars
  pub fits : PartFits t z.size l.run c

abbrev SegmentFits : SegmentTyping → SegmentSizing → SegmentLowering → Calls → Type 0
SegmentFits t z l c = (scope : Scope) (env : Named Symbol) (left kind : Kind) → t scope env left ≡ Ok kind → (is : Named Inlining) (sizes : Named Size) (inside : Named ℕ) → Callees scope.functions is sizes inside
    → (names : Named Spot) (vars : Variables) → Alike env names vars → (here : Here) (x : ℕ) (m : Made) → Fits m.body (l is names here x m).1.body (z sizes vars) (c inside)

never : false ≡ true → ⊥
never e = true≢false (sym e)

name_fits : (at : Span) (s : Option Symbol) (p : Option Spot) (b : Option Bool) (kind : Kind) → MaybeAlike s p b → value_kind at s ≡ Ok kind → (here : Here) (m : Made)
    → Fits m.body (name_made p here m).1.body (if is_true b then one else nothing) 0
name_fits at None None None kind h e here m = absurd (err_is (fault.Unknown at) kind e)
name_fits at (Some (symbol.Constant k)) (Some (spot.Binding j)) (Some b) kind h e here m = rw h (fits_none m.body)
name_fits at (Some (symbol.Variable k)) (Some (spot.Variable j)) (Some b) kind h e here m = rw h (emit_fits here (kind_at m j) (right'.Load (slot j)) m)
name_fits at (Some (symbol.Array k)) (Some (spot.Array j)) (Some b) kind h e here m = absurd (err_is (fault.Kind at) kind e)
name_fits at (Some s) (Some p) None kind h e here m = absurd h
name_fits at s p b kind h e here m = absurd h

name_is_plain : (at : Span) (s : Option Symbol) (p : Option Spot) (b : Option Bool) (kind : Kind) → MaybeAlike s p b → value_kind at s ≡ Ok kind → name_plain p ≡ not (is_true b)
name_is_plain at None None None kind h e = absurd (err_is (fault.Unknown at) kind e)
name_is_plain at (Some (symbol.Constant k)) (Some (spot.Binding j)) (Some b) kind h e = rw h refl
name_is_plain at (Some (symbol.Variable k)) (Some (spot.Variable j)) (Some b) kind h e = rw h refl
name_is_plain at (Some (symbol.Array k)) (Some (spot.Array j)) (Some b) kind h e = absurd (err_is (fault.Kind at) kind e)
name_is_plain at (Some s) (Some p) None kind h e = absurd h
name_is_plain at s p b kind h e = absurd h

get_fits : (o : Option Spot) (here : Here) (xs : List Stmt) (p : ℕ × Made) (s : Size) (c : ℕ) → Fits xs p.1.body s c → Fits xs (get_made o here p).1.body (also s one) c
get_fits None here xs p s c f = then_emit here Word (right'.Lit 0) xs p.1 s c f
get_fits (Some (spot.Binding k)) here xs p s c f = then_emit here Word (right'.Lit 0) xs p.1 s c f
get_fits (Some (spot.Variable k)) here xs p s c f = then_emit here Word (right'.Lit 0) xs p.1 s c f
get_fits (Some (spot.Array k)) here xs p s c f = then_emit here (kind_at p.1 k) (right'.Get (slot k) (slot p.0)) xs p.1 s c f

call_fits : (at : Span) (kinds : List Kind) (later : Bool) (f : Option Signature) (i : Option Inlining) (s : Option Size) (c : Option ℕ) (kind : Kind) → MaybeCallee f i s c → call_kind at kinds later f ≡ Ok kind
    → (here : Here) (p : List ℕ × Made) → length p.0 ≡ length kinds → Fits p.1.body (call_made i here p).1.body (call_size s) (with_call c)
call_fits at kinds later None None None None kind h e here p n =
    (elim later as (λ b. (if b then Err (fault.Recursive at) else Err (fault.Unknown at)) ≡ Ok kind → Fits p.1.body (emitted here Word (right'.Lit 0) p.1).1.body nothing 0) [
      | true ↦ λ e. absurd (err_is (fault.Recursive at) kind e)
      | false ↦ λ e. absurd (err_is (fault.Unknown at) kind e)
    ]) e
call_fits at kinds later (Some f) (Some i) (Some s) (Some c) kind h e here p n =
    let a = accepted (nat_eq (length kinds) (length f.parameters)) (fault.Arity at) (if kinds_eq kinds f.parameters then Ok f.result else Err (fault.Kind at)) kind e in
    let same : length kinds ≡ length f.parameters = grind (arith, a.0) in
    fits_inlined p.1.body (i here p.0 p.1).1.body s c (h here p.0 p.1 (n ∙ same))
call_fits at kinds later f i s c kind h e here p n = absurd h

prefixes_fit : (ss : List Sign) (here : Here) (xs : List Stmt) (x : ℕ) (m : Made) (s : Size) (c : ℕ) → Fits xs m.body s c → Fits xs (prefixes_made ss here x m).1.body (signs_after s ss) c
prefixes_fit [] here xs x m s c f = f
prefixes_fit (q ∷ qs) here xs x m s c f =
    let p = emitted here (prefix_kind q.prefix) (right'.Apply (prefix_op q.prefix) (slot x ∷ [])) m in
    prefixes_fit qs here xs p.0 p.1 (also s one) c (then_emit here (prefix_kind q.prefix) (right'.Apply (prefix_op q.prefix) (slot x ∷ [])) xs m s c f)

prefixes_are_plain : (ss : List Sign) (a b : Bool) → a ≡ b → prefixes_plain ss a ≡ plain_alone ss b
prefixes_are_plain [] a b h = h
prefixes_are_plain (q ∷ qs) a b h = refl

scale_same : (o : Infix) (b : Option ℕ) (c : Bool) → is_some b ≡ c → is_some (scale_of o b) ≡ is_scale o c
scale_same infix'.Equal b c h = refl
scale_same infix'.NotEqual b c h = refl
scale_same infix'.Less b c h = refl
scale_same infix'.LessEqual b c h = refl
scale_same infix'.Greater b c h = refl
scale_same infix'.GreaterEqual b c h = refl
scale_same infix'.Or b c h = refl
scale_same infix'.Xor b c h = refl
scale_same infix'.And b c h = refl
scale_same infix'.Add b c h = refl
scale_same infix'.Sub b c h = refl
scale_same infix'.Mul b c h = h
scale_same infix'.Div b c h = refl
scale_same infix'.Rem b c h = refl

-- a bare number has no calls
scale_none : (o : Infix) (b : Bool) (c : ℕ) → (b ≡ true → c ≡ 0) → is_scale o b ≡ true → c ≡ 0
scale_none infix'.Equal b c h e = absurd (never e)
scale_none infix'.NotEqual b c h e = absurd (never e)
scale_none infix'.Less b c h e = absurd (never e)
scale_none infix'.LessEqual b c h e = absurd (never e)
scale_none infix'.Greater b c h e = absurd (never e)
scale_none infix'.GreaterEqual b c h e = absurd (never e)
scale_none infix'.Or b c h e = absurd (never e)
scale_none infix'.Xor b c h e = absurd (never e)
scale_none infix'.And b c h e = absurd (never e)
scale_none infix'.Add b c h e = absurd (never e)
scale_none infix'.Sub b c h e = absurd (never e)
scale_none infix'.Mul b c h e = h e
scale_none infix'.Div b c h e = absurd (never e)
scale_none infix'.Rem b c h e = absurd (never e)

infix_fits : (s : Option ℕ) (b : Bool) → is_some s ≡ b → (o : Infix) (l : Lowering) (z : Size) (c : ℕ) → (b ≡ true → c ≡ 0) → (is : Named Inlining) (names : Named Spot) (here : Here) (x : ℕ) (m : Made)
    → Fits m.body (l.run is names here m).1.body z c → Fits m.body (segment_made s o l is names here x m).1.body (if b then one else also z one) c
infix_fits (Some k) b e o l z c none is names here x m f =
    let r = right'.Apply (op.Scale k) (slot x ∷ []) in
    rw (← e) (fits_same m.body (emitted here Word r m).1.body one 0 c (sym (none (sym e))) (emit_fits here Word r m))
infix_fits None b e o l z c none is names here x m f =
    let p = l.run is names here m in
    rw (← e) (then_emit here (made_kind o (kind_at p.1 x)) (infix_right o x p.0) m.body p.1 z c f)

module _ (hosts : List (List ℕ)) where
  abbrev IsFit : Expr → Type 0
  IsFit e = ExprFits (typing e) (sizing e) (lowering hosts e) (calls e)

  abbrev IsSegmentFit : Segment → Type 0
  IsSegmentFit l = SegmentFits (typing_of_segment l) (sizing_of_segment l) (lowering_of_segment hosts l) (calls_of_segment l)

  abbrev E : Type 0
  E = (e : Expr) × IsFit e

  abbrev L : Type 0
  L = (l : Segment) × IsSegmentFit l

  abbrev exprs_of : List E → List Expr
  exprs_of es = map (λ (e : E). e.0) es

  abbrev segments_of : List L → List Segment
  segments_of ls = map (λ (l : L). l.0) ls

  -- operands, after what has a size
  all_fit : (es : List E) (scope : Scope) (env : Named Symbol) (before kinds : List Kind) → typings before (map typing (exprs_of es)) scope env ≡ Ok kinds
      → (is : Named Inlining) (sizes : Named Size) (inside : Named ℕ) → Callees scope.functions is sizes inside → (names : Named Spot) (vars : Variables) → Alike env names vars
      → (here : Here) (xs : List Stmt) (m : Made) (s : Size) (c : ℕ) → Fits xs m.body s c
      → Fits xs (all_made (map (lowering hosts) (exprs_of es)) is names here m).1.body (sizes_after s (map sizing (exprs_of es)) sizes vars) (c + total (map calls (exprs_of es)) inside)
  all_fit [] scope env before kinds p is sizes inside h names vars alike here xs m s c f = fits_same xs m.body s c (c + 0) (omega arith) f
  all_fit (e ∷ es) scope env before kinds p is sizes inside h names vars alike here xs m s c f =
      let t = passed (typing e.0 scope env) (λ kind. typings (before ++ kind ∷ []) (map typing (exprs_of es)) scope env) kinds p in
      let q = (lowering hosts e.0).run is names here m in
      let first = calls e.0 inside in
      let rest = total (map calls (exprs_of es)) inside in
      fits_same xs (all_made (map (lowering hosts) (exprs_of es)) is names here q.1).1.body (sizes_after (also s ((sizing e.0).size sizes vars)) (map sizing (exprs_of es)) sizes vars) (c + first + rest) (c + (first + rest)) (omega arith)
      (all_fit es scope env (before ++ t.0 ∷ []) kinds t.2 is sizes inside h names vars alike here xs q.1 (also s ((sizing e.0).size sizes vars)) (c + first)
      (fits_then xs m.body q.1.body s ((sizing e.0).size sizes vars) c first f (e.1.fits scope env t.0 t.1 is sizes inside h names vars alike here m)))

  -- operands, from none
  operands_fit : (es : List E) (scope : Scope) (env : Named Symbol) (kinds : List Kind) → typings [] (map typing (exprs_of es)) scope env ≡ Ok kinds
      → (is : Named Inlining) (sizes : Named Size) (inside : Named ℕ) → Callees scope.functions is sizes inside → (names : Named Spot) (vars : Variables) → Alike env names vars
      → (here : Here) (m : Made) → Fits m.body (all_made (map (lowering hosts) (exprs_of es)) is names here m).1.body (sizes_after nothing (map sizing (exprs_of es)) sizes vars) (total (map calls (exprs_of es)) inside)
  operands_fit es scope env kinds p is sizes inside h names vars alike here m =
      let many = total (map calls (exprs_of es)) inside in
      fits_same m.body (all_made (map (lowering hosts) (exprs_of es)) is names here m).1.body (sizes_after nothing (map sizing (exprs_of es)) sizes vars) (0 + many) many (omega arith)
      (all_fit es scope env [] kinds p is sizes inside h names vars alike here m.body m nothing 0 (fits_none m.body))

  as_many_slots : (es : List Expr) (is : Named Inlining) (names : Named Spot) (here : Here) (m : Made) → length (all_made (map (lowering hosts) es) is names here m).0 ≡ length es
  as_many_slots [] is names here m = refl
  as_many_slots (e ∷ es) is names here m = ap suc (as_many_slots es is names here ((lowering hosts e).run is names here m).1)

  length_push : (ks : List Kind) (k : Kind) → length (ks ++ k ∷ []) ≡ suc (length ks)
  length_push [] k = refl
  length_push (j ∷ js) k = ap suc (length_push js k)

  as_many_kinds : (es : List Expr) (scope : Scope) (env : Named Symbol) (before kinds : List Kind) → typings before (map typing es) scope env ≡ Ok kinds → length kinds ≡ length before + length es
  as_many_kinds [] scope env before kinds p = let same = ap length (ok_is before kinds p) in omega arith
  as_many_kinds (e ∷ es) scope env before kinds p =
      let t = passed (typing e scope env) (λ kind. typings (before ++ kind ∷ []) (map typing es) scope env) kinds p in
      let rest = as_many_kinds es scope env (before ++ t.0 ∷ []) kinds t.2 in
      let pushed = length_push before t.0 in
      omega arith

  chain_fits : (ls : List L) (scope : Scope) (env : Named Symbol) (left kind : Kind) → chain_typing (map typing_of_segment (segments_of ls)) scope env left ≡ Ok kind
      → (is : Named Inlining) (sizes : Named Size) (inside : Named ℕ) → Callees scope.functions is sizes inside → (names : Named Spot) (vars : Variables) → Alike env names vars
      → (here : Here) (x : ℕ) (xs : List Stmt) (m : Made) (s : Size) (c : ℕ) → Fits xs m.body s c
      → Fits xs (chain_made (map (lowering_of_segment hosts) (segments_of ls)) is names here x m).1.body (segments_after s (map sizing_of_segment (segments_of ls)) sizes vars) (c + total (map calls_of_segment (segments_of ls)) inside)
  chain_fits [] scope env left kind p is sizes inside h names vars alike here x xs m s c f = fits_same xs m.body s c (c + 0) (omega arith) f
  chain_fits (l ∷ ls) scope env left kind p is sizes inside h names vars alike here x xs m s c f =
      let t = passed (typing_of_segment l.0 scope env left) (λ next. chain_typing (map typing_of_segment (segments_of ls)) scope env next) kind p in
      let q = lowering_of_segment hosts l.0 is names here x m in
      let first = calls_of_segment l.0 inside in
      let rest = total (map calls_of_segment (segments_of ls)) inside in
      fits_same xs (chain_made (map (lowering_of_segment hosts) (segments_of ls)) is names here q.0 q.1).1.body (segments_after (also s (sizing_of_segment l.0 sizes vars)) (map sizing_of_segment (segments_of ls)) sizes vars) (c + first + rest) (c + (first + rest)) (omega arith)
      (chain_fits ls scope env t.0 kind t.2 is sizes inside h names vars alike here q.0 xs q.1 (also s (sizing_of_segment l.0 sizes vars)) (c + first)
      (fits_then xs m.body q.1.body s (sizing_of_segment l.0 sizes vars) c first f (l.1 scope env left t.0 t.1 is sizes inside h names vars alike here x m)))

  -- steps, from none
  segments_fit : (ls : List L) (scope : Scope) (env : Named Symbol) (left kind : Kind) → chain_typing (map typing_of_segment (segments_of ls)) scope env left ≡ Ok kind
      → (is : Named Inlining) (sizes : Named Size) (inside : Named ℕ) → Callees scope.functions is sizes inside → (names : Named Spot) (vars : Variables) → Alike env names vars
      → (here : Here) (x : ℕ) (m : Made) → Fits m.body (chain_made (map (lowering_of_segment hosts) (segments_of ls)) is names here x m).1.body (segments_after nothing (map sizing_of_segment (segments_of ls)) sizes vars) (total (map calls_of_segment (segments_of ls)) inside)
  segments_fit ls scope env left kind p is sizes inside h names vars alike here x m =
      let many = total (map calls_of_segment (segments_of ls)) inside in
      fits_same m.body (chain_made (map (lowering_of_segment hosts) (segments_of ls)) is names here x m).1.body (segments_after nothing (map sizing_of_segment (segments_of ls)) sizes vars) (0 + many) many (omega arith)
      (chain_fits ls scope env left kind p is sizes inside h names vars alike here x m.body m nothing 0 (fits_none m.body))

  chain_is_plain : (ls : List L) (a b : Bool) → a ≡ b → chain_plain (map (lowering_of_segment hosts) (segments_of ls)) a ≡ plain_alone (map sizing_of_segment (segments_of ls)) b
  chain_is_plain [] a b h = h
  chain_is_plain (l ∷ ls) a b h = refl

  abbrev expr_layer : Expr-F E L → Expr-F Expr Segment
  expr_layer = map-Expr E L Expr Segment (λ e. e.0) (λ l. l.0)

  abbrev segment_layer : Segment-F E L → Segment-F Expr Segment
  segment_layer = map-Segment E L Expr Segment (λ e. e.0) (λ l. l.0)

  abbrev typed_step : Expr-F E L → Typing
  typed_step y = expr_typing (map-Expr Expr Segment Typing SegmentTyping typing typing_of_segment (expr_layer y))

  abbrev sized_step : Expr-F E L → Sizing
  sized_step y = expr_sizing (map-Expr Expr Segment Sizing SegmentSizing sizing sizing_of_segment (expr_layer y))

  abbrev made_step : Expr-F E L → Lowering
  made_step y = expr_lowering hosts (map-Expr Expr Segment Lowering SegmentLowering (lowering hosts) (lowering_of_segment hosts) (expr_layer y))

  abbrev called_step : Expr-F E L → Calls
  called_step y = expr_calls (map-Expr Expr Segment Calls Calls calls calls_of_segment (expr_layer y))

  step_bare : (y : Expr-F E L) → is_some (made_step y).bare ≡ (sized_step y).bare
  step_bare (Expr-F.Number n) = refl
  step_bare (Expr-F.Truth b) = refl
  step_bare (Expr-F.Value x) = refl
  step_bare (Expr-F.Element x e) = refl
  step_bare (Expr-F.Input host) = refl
  step_bare (Expr-F.Call f es) = refl
  step_bare (Expr-F.Min at x y) = refl
  step_bare (Expr-F.Max at x y) = refl
  step_bare (Expr-F.Mux at c x y) = refl
  step_bare (Expr-F.Declassify x to) = refl
  step_bare (Expr-F.Endorse x to) = refl
  step_bare (Expr-F.Unary x signs) = refl
  step_bare (Expr-F.Chain x ls) = refl
  step_bare (Expr-F.Brackets x) = refl

  step_none : (y : Expr-F E L) (inside : Named ℕ) → (sized_step y).bare ≡ true → called_step y inside ≡ 0
  step_none (Expr-F.Number n) inside e = refl
  step_none (Expr-F.Truth b) inside e = absurd (never e)
  step_none (Expr-F.Value x) inside e = absurd (never e)
  step_none (Expr-F.Element x i) inside e = absurd (never e)
  step_none (Expr-F.Input host) inside e = absurd (never e)
  step_none (Expr-F.Call f es) inside e = absurd (never e)
  step_none (Expr-F.Min at x y) inside e = absurd (never e)
  step_none (Expr-F.Max at x y) inside e = absurd (never e)
  step_none (Expr-F.Mux at c x y) inside e = absurd (never e)
  step_none (Expr-F.Declassify x to) inside e = absurd (never e)
  step_none (Expr-F.Endorse x to) inside e = absurd (never e)
  step_none (Expr-F.Unary x signs) inside e = absurd (never e)
  step_none (Expr-F.Chain x ls) inside e = absurd (never e)
  step_none (Expr-F.Brackets x) inside e = absurd (never e)

  step_plain : (y : Expr-F E L) (scope : Scope) (env : Named Symbol) (kind : Kind) → typed_step y scope env ≡ Ok kind → (names : Named Spot) (vars : Variables) → Alike env names vars
      → (made_step y).plain names ≡ (sized_step y).plain vars
  step_plain (Expr-F.Number n) scope env kind p names vars alike = refl
  step_plain (Expr-F.Truth b) scope env kind p names vars alike = refl
  step_plain (Expr-F.Value x) scope env kind p names vars alike = name_is_plain x.span (at_name env x.name) (at_name names x.name) (at_name vars x.name) kind (alike_at env names vars x.name alike) p
  step_plain (Expr-F.Element x i) scope env kind p names vars alike = refl
  step_plain (Expr-F.Input host) scope env kind p names vars alike = refl
  step_plain (Expr-F.Call f es) scope env kind p names vars alike = refl
  step_plain (Expr-F.Min at x y) scope env kind p names vars alike = refl
  step_plain (Expr-F.Max at x y) scope env kind p names vars alike = refl
  step_plain (Expr-F.Mux at c x y) scope env kind p names vars alike = refl
  step_plain (Expr-F.Declassify x to) scope env kind p names vars alike = refl
  step_plain (Expr-F.Endorse x to) scope env kind p names vars alike = refl
  step_plain (Expr-F.Unary x signs) scope env kind p names vars alike =
      let s = passed (typing x.0 scope env) (λ given. signs_typing signs given) kind p in
      prefixes_are_plain signs ((lowering hosts x.0).plain names) ((sizing x.0).plain vars) (x.1.plain scope env s.0 s.1 names vars alike)
  step_plain (Expr-F.Chain x ls) scope env kind p names vars alike =
      let s = passed (typing x.0 scope env) (λ given. chain_typing (map typing_of_segment (segments_of ls)) scope env given) kind p in
      chain_is_plain ls ((lowering hosts x.0).plain names) ((sizing x.0).plain vars) (x.1.plain scope env s.0 s.1 names vars alike)
  step_plain (Expr-F.Brackets x) scope env kind p names vars alike = x.1.plain scope env kind p names vars alike

  step_fits : (y : Expr-F E L) → PartFits (typed_step y) (sized_step y).size (made_step y).run (called_step y)
  step_fits (Expr-F.Number n) scope env kind p is sizes inside h names vars alike here m = emit_fits here Word (right'.Lit n) m
  step_fits (Expr-F.Truth b) scope env kind p is sizes inside h names vars alike here m = emit_fits here Truth (truth_right b) m
  step_fits (Expr-F.Value x) scope env kind p is sizes inside h names vars alike here m =
      name_fits x.span (at_name env x.name) (at_name names x.name) (at_name vars x.name) kind (alike_at env names vars x.name alike) p here m
  step_fits (Expr-F.Element x i) scope env kind p is sizes inside h names vars alike here m =
      let s = passed (typing i.0 scope env) (λ given. element_kind x.span given (at_name env x.name)) kind p in
      get_fits (at_name names x.name) here m.body ((lowering hosts i.0).run is names here m) ((sizing i.0).size sizes vars) (calls i.0 inside) (i.1.fits scope env s.0 s.1 is sizes inside h names vars alike here m)
  step_fits (Expr-F.Input host) scope env kind p is sizes inside h names vars alike here m = emit_fits here Word (right'.Input (host_id hosts host)) m
  step_fits (Expr-F.Call f es) scope env kind p is sizes inside h names vars alike here m =
      let s = passed (typings [] (map typing (exprs_of es)) scope env) (λ kinds. call_kind f.span kinds (is_among scope.later f.name) (at_name scope.functions f.name)) kind p in
      let q = all_made (map (lowering hosts) (exprs_of es)) is names here m in
      let many = as_many_kinds (exprs_of es) scope env [] s.0 s.1 in
      let slots = as_many_slots (exprs_of es) is names here m in
      fits_then m.body q.1.body (call_made (at_name is f.name) here q).1.body (sizes_after nothing (map sizing (exprs_of es)) sizes vars) (call_size (at_name sizes f.name))
      (total (map calls (exprs_of es)) inside) (with_call (at_name inside f.name))
      (operands_fit es scope env s.0 s.1 is sizes inside h names vars alike here m)
      (call_fits f.span s.0 (is_among scope.later f.name) (at_name scope.functions f.name) (at_name is f.name) (at_name sizes f.name) (at_name inside f.name) kind (callee_at scope.functions is sizes inside f.name h) s.2 here q (omega arith))
  step_fits (Expr-F.Min at x y) scope env kind p is sizes inside h names vars alike here m =
      let s = passed (typing x.0 scope env) (λ left. and_then (typing y.0 scope env) (λ right. kind_or at (of_words Word left right))) kind p in
      let t = passed (typing y.0 scope env) (λ right. kind_or at (of_words Word s.0 right)) kind s.2 in
      let q = (lowering hosts x.0).run is names here m in
      let r = (lowering hosts y.0).run is names here q.1 in
      then_emit here Word (right'.Apply op.Min (slot q.0 ∷ slot r.0 ∷ [])) m.body r.1 (also ((sizing x.0).size sizes vars) ((sizing y.0).size sizes vars)) (calls x.0 inside + calls y.0 inside)
      (fits_then m.body q.1.body r.1.body ((sizing x.0).size sizes vars) ((sizing y.0).size sizes vars) (calls x.0 inside) (calls y.0 inside) (x.1.fits scope env s.0 s.1 is sizes inside h names vars alike here m) (y.1.fits scope env t.0 t.1 is sizes inside h names vars alike here q.1))
  step_fits (Expr-F.Max at x y) scope env kind p is sizes inside h names vars alike here m =
      let s = passed (typing x.0 scope env) (λ left. and_then (typing y.0 scope env) (λ right. kind_or at (of_words Word left right))) kind p in
      let t = passed (typing y.0 scope env) (λ right. kind_or at (of_words Word s.0 right)) kind s.2 in
      let q = (lowering hosts x.0).run is names here m in
      let r = (lowering hosts y.0).run is names here q.1 in
      then_emit here Word (right'.Apply op.Max (slot q.0 ∷ slot r.0 ∷ [])) m.body r.1 (also ((sizing x.0).size sizes vars) ((sizing y.0).size sizes vars)) (calls x.0 inside + calls y.0 inside)
      (fits_then m.body q.1.body r.1.body ((sizing x.0).size sizes vars) ((sizing y.0).size sizes vars) (calls x.0 inside) (calls y.0 inside) (x.1.fits scope env s.0 s.1 is sizes inside h names vars alike here m) (y.1.fits scope env t.0 t.1 is sizes inside h names vars alike here q.1))
  step_fits (Expr-F.Mux at c x y) scope env kind p is sizes inside h names vars alike here m =
      let r = passed (typing c.0 scope env) (λ test. and_then (typing x.0 scope env) (λ left. and_then (typing y.0 scope env) (λ right. kind_or at (mux_kind test left right)))) kind p in
      let s = passed (typing x.0 scope env) (λ left. and_then (typing y.0 scope env) (λ right. kind_or at (mux_kind r.0 left right))) kind r.2 in
      let t = passed (typing y.0 scope env) (λ right. kind_or at (mux_kind r.0 s.0 right)) kind s.2 in
      let u = (lowering hosts c.0).run is names here m in
      let v = (lowering hosts x.0).run is names here u.1 in
      let w = (lowering hosts y.0).run is names here v.1 in
      let cs = (sizing c.0).size sizes vars in
      let xs = (sizing x.0).size sizes vars in
      let ys = (sizing y.0).size sizes vars in
      let cc = calls c.0 inside in
      let xc = calls x.0 inside in
      let yc = calls y.0 inside in
      then_emit here (kind_at w.1 (slice_index (u.0 ∷ v.0 ∷ w.0 ∷ []) 1)) (right'.Apply op.Mux (slot u.0 ∷ slot v.0 ∷ slot w.0 ∷ [])) m.body w.1 (also (also cs xs) ys) (cc + xc + yc)
      (fits_then m.body v.1.body w.1.body (also cs xs) ys (cc + xc) yc
      (fits_then m.body u.1.body v.1.body cs xs cc xc (c.1.fits scope env r.0 r.1 is sizes inside h names vars alike here m) (x.1.fits scope env s.0 s.1 is sizes inside h names vars alike here u.1))
      (y.1.fits scope env t.0 t.1 is sizes inside h names vars alike here v.1))
  step_fits (Expr-F.Declassify x to) scope env kind p is sizes inside h names vars alike here m =
      let s = passed (typing x.0 scope env) (λ given. and_then (form_check to scope.principals) (λ done. Ok given)) kind p in
      let q = (lowering hosts x.0).run is names here m in
      then_emit here (kind_at q.1 q.0) (right'.Declassify (slot q.0) (form_of to)) m.body q.1 ((sizing x.0).size sizes vars) (calls x.0 inside) (x.1.fits scope env s.0 s.1 is sizes inside h names vars alike here m)
  step_fits (Expr-F.Endorse x to) scope env kind p is sizes inside h names vars alike here m =
      let s = passed (typing x.0 scope env) (λ given. and_then (form_check to scope.principals) (λ done. Ok given)) kind p in
      let q = (lowering hosts x.0).run is names here m in
      then_emit here (kind_at q.1 q.0) (right'.Endorse (slot q.0) (form_of to)) m.body q.1 ((sizing x.0).size sizes vars) (calls x.0 inside) (x.1.fits scope env s.0 s.1 is sizes inside h names vars alike here m)
  step_fits (Expr-F.Unary x signs) scope env kind p is sizes inside h names vars alike here m =
      let s = passed (typing x.0 scope env) (λ given. signs_typing signs given) kind p in
      let q = (lowering hosts x.0).run is names here m in
      prefixes_fit signs here m.body q.0 q.1 ((sizing x.0).size sizes vars) (calls x.0 inside) (x.1.fits scope env s.0 s.1 is sizes inside h names vars alike here m)
  step_fits (Expr-F.Chain x ls) scope env kind p is sizes inside h names vars alike here m =
      let s = passed (typing x.0 scope env) (λ given. chain_typing (map typing_of_segment (segments_of ls)) scope env given) kind p in
      let q = (lowering hosts x.0).run is names here m in
      fits_then m.body q.1.body (chain_made (map (lowering_of_segment hosts) (segments_of ls)) is names here q.0 q.1).1.body ((sizing x.0).size sizes vars) (segments_after nothing (map sizing_of_segment (segments_of ls)) sizes vars) (calls x.0 inside) (total (map calls_of_segment (segments_of ls)) inside)
      (x.1.fits scope env s.0 s.1 is sizes inside h names vars alike here m)
      (segments_fit ls scope env s.0 kind s.2 is sizes inside h names vars alike here q.0 q.1)
  step_fits (Expr-F.Brackets x) scope env kind p is sizes inside h names vars alike here m = x.1.fits scope env kind p is sizes inside h names vars alike here m

  step : (y : Expr-F E L) → ExprFits (typed_step y) (sized_step y) (made_step y) (called_step y)
  step y = record { bare = step_bare y; none = step_none y; plain = step_plain y; fits = step_fits y }

  segment_step : (y : Segment-F E L) → SegmentFits (segment_typing (map-Segment Expr Segment Typing SegmentTyping typing typing_of_segment (segment_layer y)))
      (segment_sizing (map-Segment Expr Segment Sizing SegmentSizing sizing sizing_of_segment (segment_layer y)))
      (segment_lowering (map-Segment Expr Segment Lowering SegmentLowering (lowering hosts) (lowering_of_segment hosts) (segment_layer y)))
      (segment_calls (map-Segment Expr Segment Calls Calls calls calls_of_segment (segment_layer y)))
  segment_step (Segment-F.Infix o at r) scope env left kind p is sizes inside h names vars alike here x m =
      let s = passed (typing r.0 scope env) (λ given. kind_or at (infix_kind o left given)) kind p in
      infix_fits (scale_of o (lowering hosts r.0).bare) (is_scale o (sizing r.0).bare) (scale_same o (lowering hosts r.0).bare (sizing r.0).bare r.1.bare) o (lowering hosts r.0) ((sizing r.0).size sizes vars)
      (calls r.0 inside) (scale_none o (sizing r.0).bare (calls r.0 inside) (r.1.none inside)) is names here x m
      (r.1.fits scope env s.0 s.1 is sizes inside h names vars alike here m)
  segment_step (Segment-F.Shift towards at bits) scope env left kind p is sizes inside h names vars alike here x m = emit_fits here Word (right'.Apply (shift_op towards bits) (slot x ∷ [])) m

  at_roll : (y : Expr-F E L) → IsFit (roll-Expr (expr_layer y))
  at_roll y = subst (λ t. ExprFits t (sizing (roll-Expr (expr_layer y))) (lowering hosts (roll-Expr (expr_layer y))) (calls (roll-Expr (expr_layer y)))) (sym (fold-roll-Expr Typing SegmentTyping expr_typing segment_typing (expr_layer y)))
      (subst (λ c. ExprFits (typed_step y) (sizing (roll-Expr (expr_layer y))) (lowering hosts (roll-Expr (expr_layer y))) c) (sym (fold-roll-Expr Calls Calls expr_calls segment_calls (expr_layer y)))
      (subst₂ (λ z l. ExprFits (typed_step y) z l (called_step y)) (sym (fold-roll-Expr Sizing SegmentSizing expr_sizing segment_sizing (expr_layer y)))
      (sym (fold-roll-Expr Lowering SegmentLowering (expr_lowering hosts) segment_lowering (expr_layer y))) (step y)))

  at_segment_roll : (y : Segment-F E L) → IsSegmentFit (roll-Segment (segment_layer y))
  at_segment_roll y = subst (λ t. SegmentFits t (sizing_of_segment (roll-Segment (segment_layer y))) (lowering_of_segment hosts (roll-Segment (segment_layer y))) (calls_of_segment (roll-Segment (segment_layer y)))) (sym (fold-roll-Segment Typing SegmentTyping expr_typing segment_typing (segment_layer y)))
      (subst (λ c. SegmentFits (segment_typing (map-Segment Expr Segment Typing SegmentTyping typing typing_of_segment (segment_layer y))) (sizing_of_segment (roll-Segment (segment_layer y))) (lowering_of_segment hosts (roll-Segment (segment_layer y))) c) (sym (fold-roll-Segment Calls Calls expr_calls segment_calls (segment_layer y)))
      (subst₂ (λ z l. SegmentFits (segment_typing (map-Segment Expr Segment Typing SegmentTyping typing typing_of_segment (segment_layer y))) z l (segment_calls (map-Segment Expr Segment Calls Calls calls calls_of_segment (segment_layer y)))) (sym (fold-roll-Segment Sizing SegmentSizing expr_sizing segment_sizing (segment_layer y)))
      (sym (fold-roll-Segment Lowering SegmentLowering (expr_lowering hosts) segment_lowering (segment_layer y))) (segment_step y)))

  pub expr_fits : (e : Expr) → ExprFits (typing e) (sizing e) (lowering hosts e) (calls e)
  expr_fits = ind-Expr IsFit IsSegmentFit (λ x y is. subst (λ z. IsFit (roll-Expr z)) is (at_roll y)) (λ x y is. subst (λ z. IsSegmentFit (roll-Segment z)) is (at_segment_roll y))
