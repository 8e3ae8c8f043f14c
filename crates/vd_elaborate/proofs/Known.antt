-- What a source names is declared where its walk ends without a fault, and its shifts are by at most 31 bits.
use Rattle.std.proofs.Common.{◌≡◌, ℕ, ◌<◌, Bool, true, false, ◌&&◌, nat_lt, nat_le, List, [], ◌∷◌, ◌++◌, length, map, Option, Some, None, is_some, Ok, refl, sym, subst, subst₂, if◌then◌else◌, arith}
use Rattle.vd_base.specs.declared.operations.Kind.{Kind}
use Rattle.vd_base.specs.declared.operations.Kind.TheVariants.{Word, Bool as Truth}
use Rattle.vd_base.specs.declared.ids.Span.{Span}
use Rattle.vd_base.specs.Names.{Named, at_name, place_of, is_among}
use Rattle.vd_core.specs.declared.source.Ident.{Ident}
use Rattle.vd_core.specs.declared.source.WrittenLabel.{WrittenLabel}
use Rattle.vd_core.specs.declared.source.WrittenForm.{WrittenForm}
use Rattle.vd_core.specs.declared.source.Segment.{Segment}
use Rattle.vd_core.specs.declared.source.Expr.{Expr, roll-Expr}
use Rattle.vd_core.specs.declared.source.Expr.TheOpen.{Expr-F, Segment-F}
use Rattle.vd_core.specs.declared.source.Expr.TheFolds.{map-Expr, map-Segment, ind-Expr, fold-roll-Expr, fold-roll-Segment}
use Rattle.vd_core.specs.declared.source.Expr.TheViews.{roll-Segment}
use Rattle.vd_core.specs.declared.source.Statement.{Statement, roll-Statement, map-Statement, ind-Statement}
use Rattle.vd_core.specs.declared.source.Statement.TheOpen.{Statement-F}
use Rattle.vd_core.specs.declared.source.Statement.TheFolds.{fold-roll-Statement}
use Rattle.vd_core.specs.declared.source.Function.{Function}
use Rattle.vd_core.specs.Facts.{form_is_declared}
use Rattle.vd_elaborate.specs.Normal.{form_of}
use Rattle.vd_resolve.specs.Faults as fault
use Rattle.vd_resolve.specs.declared.symbol.Symbol.{Symbol}
use Rattle.vd_resolve.specs.declared.symbol.Symbol.TheVariants.{Constant, Variable, Array}
use Rattle.vd_resolve.specs.declared.symbol.Signature.{Signature}
use Rattle.vd_resolve.specs.Rules.{Names, Scope, and_then, kind_or, of_words, mux_kind, shift_kind, infix_kind, element_kind, call_kind, declared, is_new, known, form_check, label_check, written_label_check, Typing, SegmentTyping, typings, chain_typing, signs_typing, expr_typing, segment_typing, typing, typing_of_segment, Checking, is_stored, is_put, in_sequence, block_check, is_kind, statement_check, checking, parameters_check, signature_of, function_names, function_check, functions_check, bodies_check}
use Rattle.vd_elaborate.proofs.Tests.{Tests, all_true, label_passes, expr_passes, segment_passes, passes, passes_segment, statement_passes, passes_statement, passes_function, functions_pass}
use Rattle.vd_elaborate.proofs.AnfWellformedSteps.{passed, known_is, err_is}
use Rattle.vd_elaborate.proofs.Distinct.{tagged, place_below}
use Rattle.vd_elaborate.proofs.AnfWellformedForms.{form_declared, label_declared}

-- hosts among so many, principals among these, shifts by at most 31 bits
abbrev pub declared_alone : List (List ℕ) → List (List ℕ) → Tests
declared_alone principals hosts = record { host = λ h. nat_lt h (length hosts); form = form_is_declared principals; shift = λ bits. nat_le bits 31 }

below_is : (a b : ℕ) → a < b → nat_lt a b ≡ true
below_is a b h = grind arith

shift_is : (at : Span) (left : Kind) (bits : ℕ) (kind : Kind) → kind_or at (shift_kind left bits) ≡ Ok kind → nat_le bits 31 ≡ true
shift_is at Word bits kind p =
    (elim (nat_le bits 31) as (λ b. kind_or at (if b then Some Word else None) ≡ Ok kind → b ≡ true) [
      | true ↦ λ p. refl
      | false ↦ λ p. absurd (err_is (fault.Kind at) kind p)
    ]) p
shift_is at Truth bits kind p = absurd (err_is (fault.Kind at) kind p)

module _ (principals hosts : List (List ℕ)) where
  abbrev tests : Tests
  tests = declared_alone principals hosts

  -- a scope with these principals and hosts
  abbrev IsIn : Scope → Type 0
  IsIn scope = (scope.principals ≡ tagged principals) × (scope.hosts ≡ tagged hosts)

  host_known : (scope : Scope) → IsIn scope → (host : Ident) (u : Unit {0}) → known scope.hosts host ≡ Ok u → nat_lt (place_of hosts host.name) (length hosts) ≡ true
  host_known scope i host u p =
      below_is (place_of hosts host.name) (length hosts) (place_below hosts host.name (subst (λ (ns : Names). is_some (at_name ns host.name) ≡ true) i.1 (known_is scope.hosts host u p)))

  form_known_in : (scope : Scope) → IsIn scope → (f : WrittenForm) (u : Unit {0}) → form_check f scope.principals ≡ Ok u → form_is_declared principals (form_of f) ≡ true
  form_known_in scope i f u p = form_declared principals f (subst (λ (ns : Names). form_check f ns ≡ Ok tt) i.0 p)

  label_known_in : (scope : Scope) → IsIn scope → (l : Option WrittenLabel) (u : Unit {0}) → written_label_check l scope.principals ≡ Ok u → label_passes tests l ≡ true
  label_known_in scope i None u p = refl
  label_known_in scope i (Some l) u p = label_declared principals l (subst (λ (ns : Names). label_check l ns ≡ Ok tt) i.0 p)

  -- where the typing has no fault, the expression passes
  abbrev IsKnown : Typing → Bool → Type 0
  IsKnown t b = (scope : Scope) → IsIn scope → (env : Named Symbol) (kind : Kind) → t scope env ≡ Ok kind → b ≡ true

  abbrev IsSegmentKnown : SegmentTyping → Bool → Type 0
  IsSegmentKnown t b = (scope : Scope) → IsIn scope → (env : Named Symbol) (left kind : Kind) → t scope env left ≡ Ok kind → b ≡ true

  abbrev E : Type 0
  E = (e : Expr) × IsKnown (typing e) (passes hosts tests e)

  abbrev L : Type 0
  L = (l : Segment) × IsSegmentKnown (typing_of_segment l) (passes_segment hosts tests l)

  abbrev typed : List E → List Typing
  typed es = map typing (map (λ (e : E). e.0) es)

  all_typed : (es : List E) (scope : Scope) → IsIn scope → (env : Named Symbol) (before kinds : List Kind) → typings before (typed es) scope env ≡ Ok kinds
      → all_true (map (passes hosts tests) (map (λ (e : E). e.0) es)) ≡ true
  all_typed [] scope i env before kinds p = refl
  all_typed (e ∷ es) scope i env before kinds p =
      let s = passed (typing e.0 scope env) (λ kind. typings (before ++ kind ∷ []) (typed es) scope env) kinds p in
      rw (e.1 scope i env s.0 s.1, all_typed es scope i env (before ++ s.0 ∷ []) kinds s.2) refl

  all_segments : (ls : List L) (scope : Scope) → IsIn scope → (env : Named Symbol) (left kind : Kind) → chain_typing (map typing_of_segment (map (λ (l : L). l.0) ls)) scope env left ≡ Ok kind
      → all_true (map (passes_segment hosts tests) (map (λ (l : L). l.0) ls)) ≡ true
  all_segments [] scope i env left kind p = refl
  all_segments (l ∷ ls) scope i env left kind p =
      let s = passed (typing_of_segment l.0 scope env left) (λ next. chain_typing (map typing_of_segment (map (λ (l : L). l.0) ls)) scope env next) kind p in
      rw (l.1 scope i env left s.0 s.1, all_segments ls scope i env s.0 kind s.2) refl

  abbrev expr_layer : Expr-F E L → Expr-F Expr Segment
  expr_layer = map-Expr E L Expr Segment (λ e. e.0) (λ l. l.0)

  abbrev segment_layer : Segment-F E L → Segment-F Expr Segment
  segment_layer = map-Segment E L Expr Segment (λ e. e.0) (λ l. l.0)

  step : (y : Expr-F E L) → IsKnown (expr_typing (map-Expr Expr Segment Typing SegmentTyping typing typing_of_segment (expr_layer y)))
      (expr_passes hosts tests (map-Expr Expr Segment Bool Bool (passes hosts tests) (passes_segment hosts tests) (expr_layer y)))
  step (Expr-F.Number n) scope i env kind p = refl
  step (Expr-F.Truth b) scope i env kind p = refl
  step (Expr-F.Value x) scope i env kind p = refl
  step (Expr-F.Element x index) scope i env kind p =
      let s = passed (typing index.0 scope env) (λ given. element_kind x.span given (at_name env x.name)) kind p in
      index.1 scope i env s.0 s.1
  step (Expr-F.Input host) scope i env kind p =
      let s = passed {B = Kind} (known scope.hosts host) (λ done. Ok Word) kind p in
      host_known scope i host s.0 s.1
  step (Expr-F.Call f arguments) scope i env kind p =
      let s = passed (typings [] (typed arguments) scope env) (λ kinds. call_kind f.span kinds (is_among scope.later f.name) (at_name scope.functions f.name)) kind p in
      all_typed arguments scope i env [] s.0 s.1
  step (Expr-F.Min at x y) scope i env kind p =
      let s = passed (typing x.0 scope env) (λ left. and_then (typing y.0 scope env) (λ right. kind_or at (of_words Word left right))) kind p in
      let t = passed (typing y.0 scope env) (λ right. kind_or at (of_words Word s.0 right)) kind s.2 in
      rw (x.1 scope i env s.0 s.1, y.1 scope i env t.0 t.1) refl
  step (Expr-F.Max at x y) scope i env kind p =
      let s = passed (typing x.0 scope env) (λ left. and_then (typing y.0 scope env) (λ right. kind_or at (of_words Word left right))) kind p in
      let t = passed (typing y.0 scope env) (λ right. kind_or at (of_words Word s.0 right)) kind s.2 in
      rw (x.1 scope i env s.0 s.1, y.1 scope i env t.0 t.1) refl
  step (Expr-F.Mux at c x y) scope i env kind p =
      let r = passed (typing c.0 scope env) (λ test. and_then (typing x.0 scope env) (λ left. and_then (typing y.0 scope env) (λ right. kind_or at (mux_kind test left right)))) kind p in
      let s = passed (typing x.0 scope env) (λ left. and_then (typing y.0 scope env) (λ right. kind_or at (mux_kind r.0 left right))) kind r.2 in
      let t = passed (typing y.0 scope env) (λ right. kind_or at (mux_kind r.0 s.0 right)) kind s.2 in
      rw (c.1 scope i env r.0 r.1, x.1 scope i env s.0 s.1, y.1 scope i env t.0 t.1) refl
  step (Expr-F.Declassify x to) scope i env kind p =
      let s = passed (typing x.0 scope env) (λ given. and_then (form_check to scope.principals) (λ done. Ok given)) kind p in
      let t = passed {B = Kind} (form_check to scope.principals) (λ done. Ok s.0) kind s.2 in
      rw (x.1 scope i env s.0 s.1, form_known_in scope i to t.0 t.1) refl
  step (Expr-F.Endorse x to) scope i env kind p =
      let s = passed (typing x.0 scope env) (λ given. and_then (form_check to scope.principals) (λ done. Ok given)) kind p in
      let t = passed {B = Kind} (form_check to scope.principals) (λ done. Ok s.0) kind s.2 in
      rw (x.1 scope i env s.0 s.1, form_known_in scope i to t.0 t.1) refl
  step (Expr-F.Unary x signs) scope i env kind p =
      let s = passed (typing x.0 scope env) (λ given. signs_typing signs given) kind p in
      x.1 scope i env s.0 s.1
  step (Expr-F.Chain x ls) scope i env kind p =
      let s = passed (typing x.0 scope env) (λ given. chain_typing (map typing_of_segment (map (λ (l : L). l.0) ls)) scope env given) kind p in
      rw (x.1 scope i env s.0 s.1, all_segments ls scope i env s.0 kind s.2) refl
  step (Expr-F.Brackets x) scope i env kind p = x.1 scope i env kind p

  segment_step : (y : Segment-F E L) → IsSegmentKnown (segment_typing (map-Segment Expr Segment Typing SegmentTyping typing typing_of_segment (segment_layer y)))
      (segment_passes tests (map-Segment Expr Segment Bool Bool (passes hosts tests) (passes_segment hosts tests) (segment_layer y)))
  segment_step (Segment-F.Infix o at r) scope i env left kind p =
      let s = passed (typing r.0 scope env) (λ given. kind_or at (infix_kind o left given)) kind p in
      r.1 scope i env s.0 s.1
  segment_step (Segment-F.Shift towards at bits) scope i env left kind p = shift_is at left bits kind p

  at_roll : (y : Expr-F E L) → IsKnown (typing (roll-Expr (expr_layer y))) (passes hosts tests (roll-Expr (expr_layer y)))
  at_roll y = subst₂ IsKnown (sym (fold-roll-Expr Typing SegmentTyping expr_typing segment_typing (expr_layer y))) (sym (fold-roll-Expr Bool Bool (expr_passes hosts tests) (segment_passes tests) (expr_layer y))) (step y)

  at_segment_roll : (y : Segment-F E L) → IsSegmentKnown (typing_of_segment (roll-Segment (segment_layer y))) (passes_segment hosts tests (roll-Segment (segment_layer y)))
  at_segment_roll y = subst₂ IsSegmentKnown (sym (fold-roll-Segment Typing SegmentTyping expr_typing segment_typing (segment_layer y))) (sym (fold-roll-Segment Bool Bool (expr_passes hosts tests) (segment_passes tests) (segment_layer y))) (segment_step y)

  expr_known : (e : Expr) → IsKnown (typing e) (passes hosts tests e)
  expr_known = ind-Expr (λ e. IsKnown (typing e) (passes hosts tests e)) (λ l. IsSegmentKnown (typing_of_segment l) (passes_segment hosts tests l))
      (λ x y is. subst (λ z. IsKnown (typing (roll-Expr z)) (passes hosts tests (roll-Expr z))) is (at_roll y))
      (λ x y is. subst (λ z. IsSegmentKnown (typing_of_segment (roll-Segment z)) (passes_segment hosts tests (roll-Segment z))) is (at_segment_roll y))

  abbrev IsChecked : Checking → Bool → Type 0
  IsChecked c b = (scope : Scope) → IsIn scope → (env after : Named Symbol) → c scope env ≡ Ok after → b ≡ true

  abbrev M : Type 0
  M = (s : Statement) × IsChecked (checking s) (passes_statement hosts tests s)

  abbrev checked : List M → List Checking
  checked ms = map checking (map (λ (m : M). m.0) ms)

  all_checked : (ms : List M) → IsChecked (in_sequence (checked ms)) (all_true (map (passes_statement hosts tests) (map (λ (m : M). m.0) ms)))
  all_checked [] scope i env after p = refl
  all_checked (m ∷ ms) scope i env after p =
      let s = passed (checking m.0 scope env) (λ next. in_sequence (checked ms) scope next) after p in
      rw (m.1 scope i env s.0 s.1, all_checked ms scope i s.0 after s.2) refl

  block_checked : (ms : List M) → IsChecked (block_check (checked ms)) (all_true (map (passes_statement hosts tests) (map (λ (m : M). m.0) ms)))
  block_checked ms scope i env after p =
      let s = passed {B = Named Symbol} (in_sequence (checked ms) scope env) (λ inner. Ok env) after p in
      all_checked ms scope i env s.0 s.1

  abbrev layer : Statement-F M → Statement-F Statement
  layer = map-Statement M Statement (λ m. m.0)

  statement_step : (y : Statement-F M) → IsChecked (statement_check (map-Statement Statement Checking checking (layer y))) (statement_passes hosts tests (map-Statement Statement Bool (passes_statement hosts tests) (layer y)))
  statement_step (Statement-F.Let at x label e) scope i env after p =
      let s = passed (typing e scope env) (λ kind. and_then (declared x (Constant kind) env) (λ next. and_then (written_label_check label scope.principals) (λ done. Ok next))) after p in
      let t = passed (declared x (Constant s.0) env) (λ next. and_then (written_label_check label scope.principals) (λ done. Ok next)) after s.2 in
      let u = passed {B = Named Symbol} (written_label_check label scope.principals) (λ done. Ok t.0) after t.2 in
      rw (expr_known e scope i env s.0 s.1, label_known_in scope i label u.0 u.1) refl
  statement_step (Statement-F.Var at x kind label e) scope i env after p =
      let s = passed (typing e scope env) (λ given. and_then (declared x (Variable kind) env) (λ next. and_then (is_kind x.span kind given) (λ fits. and_then (written_label_check label scope.principals) (λ done. Ok next)))) after p in
      let t = passed (declared x (Variable kind) env) (λ next. and_then (is_kind x.span kind s.0) (λ fits. and_then (written_label_check label scope.principals) (λ done. Ok next))) after s.2 in
      let v = passed (is_kind x.span kind s.0) (λ fits. and_then (written_label_check label scope.principals) (λ done. Ok t.0)) after t.2 in
      let u = passed {B = Named Symbol} (written_label_check label scope.principals) (λ done. Ok t.0) after v.2 in
      rw (expr_known e scope i env s.0 s.1, label_known_in scope i label u.0 u.1) refl
  statement_step (Statement-F.Array at x kind size label) scope i env after p =
      let t = passed (declared x (Array kind) env) (λ next. and_then (written_label_check label scope.principals) (λ done. Ok next)) after p in
      let u = passed {B = Named Symbol} (written_label_check label scope.principals) (λ done. Ok t.0) after t.2 in
      label_known_in scope i label u.0 u.1
  statement_step (Statement-F.Store x e) scope i env after p =
      let s = passed (typing e scope env) (λ kind. and_then (is_stored x.span kind (at_name env x.name)) (λ done. Ok env)) after p in
      expr_known e scope i env s.0 s.1
  statement_step (Statement-F.Put x index e) scope i env after p =
      let s = passed (typing index scope env) (λ at. and_then (typing e scope env) (λ kind. and_then (is_put x.span at kind (at_name env x.name)) (λ done. Ok env))) after p in
      let t = passed (typing e scope env) (λ kind. and_then (is_put x.span s.0 kind (at_name env x.name)) (λ done. Ok env)) after s.2 in
      rw (expr_known index scope i env s.0 s.1, expr_known e scope i env t.0 t.1) refl
  statement_step (Statement-F.Output at e host) scope i env after p =
      let s = passed (typing e scope env) (λ kind. and_then (known scope.hosts host) (λ done. Ok env)) after p in
      let t = passed {B = Named Symbol} (known scope.hosts host) (λ done. Ok env) after s.2 in
      rw (expr_known e scope i env s.0 s.1, host_known scope i host t.0 t.1) refl
  statement_step (Statement-F.If at guard a b) scope i env after p =
      let s = passed (typing guard scope env) (λ kind. and_then (is_kind at Truth kind) (λ fits. and_then (block_check (checked a) scope env) (λ next. block_check (checked b) scope next))) after p in
      let t = passed (is_kind at Truth s.0) (λ fits. and_then (block_check (checked a) scope env) (λ next. block_check (checked b) scope next)) after s.2 in
      let u = passed (block_check (checked a) scope env) (λ next. block_check (checked b) scope next) after t.2 in
      rw (expr_known guard scope i env s.0 s.1, block_checked a scope i env u.0 u.1, block_checked b scope i u.0 after u.2) refl
  statement_step (Statement-F.For at x count body) scope i env after p =
      let s = passed (declared x (Constant Word) env) (λ inner. and_then (block_check (checked body) scope inner) (λ left. Ok env)) after p in
      let t = passed {B = Named Symbol} (block_check (checked body) scope s.0) (λ left. Ok env) after s.2 in
      block_checked body scope i s.0 t.0 t.1

  statement_known : (s : Statement) → IsChecked (checking s) (passes_statement hosts tests s)
  statement_known = ind-Statement (λ s. IsChecked (checking s) (passes_statement hosts tests s))
      (λ x y is. subst (λ z. IsChecked (checking (roll-Statement z)) (passes_statement hosts tests (roll-Statement z))) is
      (subst₂ IsChecked (sym (fold-roll-Statement Checking statement_check (layer y))) (sym (fold-roll-Statement Bool (statement_passes hosts tests) (layer y))) (statement_step y)))

  body_known : (ss : List Statement) → IsChecked (in_sequence (map checking ss)) (all_true (map (passes_statement hosts tests) ss))
  body_known [] scope i env after p = refl
  body_known (s ∷ ss) scope i env after p =
      let t = passed (checking s scope env) (λ next. in_sequence (map checking ss) scope next) after p in
      rw (statement_known s scope i env t.0 t.1, body_known ss scope i t.0 after t.2) refl

  function_known : (f : Function) (scope : Scope) → IsIn scope → (u : Unit {0}) → function_check scope f ≡ Ok u → passes_function hosts tests f ≡ true
  function_known f scope i u p =
      let r = passed (parameters_check [] f.parameters) (λ env. and_then (in_sequence (map checking f.body) scope env) (λ inner. and_then (typing f.gives scope inner) (λ kind. is_kind f.at_return f.kind kind))) u p in
      let s = passed (in_sequence (map checking f.body) scope r.0) (λ inner. and_then (typing f.gives scope inner) (λ kind. is_kind f.at_return f.kind kind)) u r.2 in
      let t = passed (typing f.gives scope s.0) (λ kind. is_kind f.at_return f.kind kind) u s.2 in
      rw (body_known f.body scope i r.0 s.0 s.1, expr_known f.gives scope i s.0 t.0 t.1) refl

  functions_known : (fs : List Function) (ps hs : Names) → ps ≡ tagged principals → hs ≡ tagged hosts → (before after : Named Signature) → functions_check ps hs before fs ≡ Ok after → functions_pass hosts tests fs ≡ true
  functions_known [] ps hs ep eh before after p = refl
  functions_known (f ∷ fs) ps hs ep eh before after p =
      let scope : Scope = record { principals = ps; hosts = hs; functions = before; later = function_names (f ∷ fs) } in
      let r = passed (is_new f.name before) (λ fresh. and_then (function_check scope f) (λ done. functions_check ps hs (before ++ (f.name.name, signature_of f) ∷ []) fs)) after p in
      let s = passed (function_check scope f) (λ done. functions_check ps hs (before ++ (f.name.name, signature_of f) ∷ []) fs) after r.2 in
      rw (function_known f scope (ep, eh) s.0 s.1, functions_known fs ps hs ep eh (before ++ (f.name.name, signature_of f) ∷ []) after s.2) refl

  pub bodies_known : (fs : List Function) (main : List Statement) (ps hs : Names) → ps ≡ tagged principals → hs ≡ tagged hosts → (u : Unit {0}) → bodies_check ps hs fs main ≡ Ok u
      → (functions_pass hosts tests fs && all_true (map (passes_statement hosts tests) main)) ≡ true
  bodies_known fs main ps hs ep eh u p =
      let r = passed (functions_check ps hs [] fs) (λ functions. and_then (block_check (map checking main) (record { principals = ps; hosts = hs; functions = functions; later = [] }) []) (λ left. Ok tt)) u p in
      let scope : Scope = record { principals = ps; hosts = hs; functions = r.0; later = [] } in
      let s = passed {B = Unit {0}} (block_check (map checking main) scope []) (λ left. Ok tt) u r.2 in
      let t = passed {B = Named Symbol} (in_sequence (map checking main) scope []) (λ inner. Ok []) s.0 s.1 in
      rw (functions_known fs ps hs ep eh [] r.0 r.1, body_known main scope (ep, eh) [] t.0 t.1) refl
