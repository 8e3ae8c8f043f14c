-- The same names in sight: with their kinds, with their slots, and with whether they are variables.
use Rattle.std.proofs.Common.{◌≡◌, ℕ, suc, Bool, true, false, List, [], ◌∷◌, ◌++◌, length, map, append_assoc, append-nil, Option, Some, None, Ok, refl, sym, subst, if◌then◌else◌, bytes_eq, arith}
use Rattle.vd_base.specs.declared.operations.Kind.{Kind}
use Rattle.vd_base.specs.Names.{Named, at_name, bound}
use Rattle.vd_core.specs.declared.source.Parameter.{Parameter}
use Rattle.vd_semantics.specs.SourceMeaning.{parameter_names}
use Rattle.vd_elaborate.specs.declared.anf.here.Here.{Here}
use Rattle.vd_elaborate.specs.declared.anf.spot.Spot.{Spot}
use Rattle.vd_elaborate.specs.declared.anf.spot.Spot.TheVariants as spot
use Rattle.vd_elaborate.specs.Normal.{Made, Inlining}
use Rattle.vd_resolve.specs.declared.symbol.Symbol.{Symbol}
use Rattle.vd_resolve.specs.declared.symbol.Symbol.TheVariants as symbol
use Rattle.vd_resolve.specs.declared.symbol.Signature.{Signature}
use Rattle.vd_resolve.specs.declared.size.Size.{Size}
use Rattle.vd_resolve.specs.Rules.{declared, parameters_check}
use Rattle.vd_resolve.specs.Sizes.{Variables, parameter_variables}
use Rattle.vd_elaborate.proofs.AnfWellformedSteps.{passed, declared_is, ok_is}
use Rattle.vd_elaborate.proofs.Fits.{Fits}

abbrev pub AlikeOne : Symbol → Spot → Bool → Type 0
AlikeOne (symbol.Constant kind) (spot.Binding k) variable = variable ≡ false
AlikeOne (symbol.Variable kind) (spot.Variable k) variable = variable ≡ true
AlikeOne (symbol.Array kind) (spot.Array k) variable = variable ≡ false
AlikeOne s p variable = ⊥

abbrev pub Alike : Named Symbol → Named Spot → Variables → Type 0
Alike [] [] [] = Unit {0}
Alike (e ∷ es) (p ∷ ps) (v ∷ vs) = (p.0 ≡ e.0) × (v.0 ≡ e.0) × AlikeOne e.1 p.1 v.1 × Alike es ps vs
Alike es ps vs = ⊥

abbrev pub MaybeAlike : Option Symbol → Option Spot → Option Bool → Type 0
MaybeAlike None None None = Unit {0}
MaybeAlike (Some s) (Some p) (Some variable) = AlikeOne s p variable
MaybeAlike s p variable = ⊥

pub alike_at : (env : Named Symbol) (names : Named Spot) (vars : Variables) (x : List ℕ) → Alike env names vars → MaybeAlike (at_name env x) (at_name names x) (at_name vars x)
alike_at [] [] [] x h = tt
alike_at (e ∷ es) (p ∷ ps) (v ∷ vs) x h =
    rw (h.0, h.1) (elim (bytes_eq e.0 x) as (λ b. MaybeAlike (if b then Some e.1 else at_name es x) (if b then Some p.1 else at_name ps x) (if b then Some v.1 else at_name vs x)) [
      | true ↦ h.2
      | false ↦ alike_at es ps vs x h.3
    ])
alike_at es ps vs x h = absurd h

pub alike_push : (env : Named Symbol) (names : Named Spot) (vars : Variables) (x : List ℕ) (s : Symbol) (p : Spot) (b : Bool) → Alike env names vars → AlikeOne s p b
    → Alike (env ++ (x, s) ∷ []) (names ++ (x, p) ∷ []) (vars ++ (x, b) ∷ [])
alike_push [] [] [] x s p b h one = (refl, refl, one, tt)
alike_push (e ∷ es) (q ∷ qs) (v ∷ vs) x s p b h one = (h.0, h.1, h.2, alike_push es qs vs x s p b h.3 one)
alike_push es ps vs x s p b h one = absurd h

-- parameters are bindings, and no variables
pub parameters_alike : (ps : List Parameter) (env after : Named Symbol) → parameters_check env ps ≡ Ok after → (names : Named Spot) (vars : Variables) (ks : List ℕ) → Alike env names vars
    → length ks ≡ length (map {B = Kind} (λ p. p.kind) ps) → Alike after (names ++ bound spot.Binding (parameter_names ps) ks) (vars ++ parameter_variables ps)
parameters_alike [] env after p names vars ks h n = rw (append-nil names, append-nil vars, ← ok_is env after p) h
parameters_alike (q ∷ qs) env after p names vars [] h n = absurd (none_is (length (map {B = Kind} (λ p. p.kind) qs)) n)
  where
    none_is : (n : ℕ) → 0 ≡ suc n → ⊥
    none_is n e = omega arith
parameters_alike (q ∷ qs) env after p names vars (k ∷ ks) h n =
    let s = passed (declared q.name (symbol.Constant q.kind) env) (λ next. parameters_check next qs) after p in
    let d = declared_is q.name (symbol.Constant q.kind) env s.0 s.1 in
    let pushed = alike_push env names vars q.name.name (symbol.Constant q.kind) (spot.Binding k) false h refl in
    let rest = parameters_alike qs s.0 after s.2 (names ++ (q.name.name, spot.Binding k) ∷ []) (vars ++ (q.name.name, false) ∷ []) ks (subst (λ z. Alike z (names ++ (q.name.name, spot.Binding k) ∷ []) (vars ++ (q.name.name, false) ∷ [])) (sym d.1) pushed) (less (length ks) (length (map {B = Kind} (λ p. p.kind) qs)) n) in
    rw (← append_assoc names ((q.name.name, spot.Binding k) ∷ []) (bound spot.Binding (parameter_names qs) ks), ← append_assoc vars ((q.name.name, false) ∷ []) (parameter_variables qs)) rest
  where
    less : (a b : ℕ) → suc a ≡ suc b → a ≡ b
    less a b e = omega arith

-- a call of a function makes its size
abbrev pub CallFits : Signature → Inlining → Size → ℕ → Type 0
CallFits sig i s c = (here : Here) (ks : List ℕ) (m : Made) → length ks ≡ length sig.parameters → Fits m.body (i here ks m).1.body s c

abbrev pub Callees : Named Signature → Named Inlining → Named Size → Named ℕ → Type 0
Callees [] [] [] [] = Unit {0}
Callees (f ∷ fs) (i ∷ is) (s ∷ ss) (c ∷ cs) = (i.0 ≡ f.0) × (s.0 ≡ f.0) × (c.0 ≡ f.0) × CallFits f.1 i.1 s.1 c.1 × Callees fs is ss cs
Callees fs is ss cs = ⊥

abbrev pub MaybeCallee : Option Signature → Option Inlining → Option Size → Option ℕ → Type 0
MaybeCallee None None None None = Unit {0}
MaybeCallee (Some f) (Some i) (Some s) (Some c) = CallFits f i s c
MaybeCallee f i s c = ⊥

pub callee_at : (fs : Named Signature) (is : Named Inlining) (ss : Named Size) (cs : Named ℕ) (x : List ℕ) → Callees fs is ss cs → MaybeCallee (at_name fs x) (at_name is x) (at_name ss x) (at_name cs x)
callee_at [] [] [] [] x h = tt
callee_at (f ∷ fs) (i ∷ is) (s ∷ ss) (c ∷ cs) x h =
    rw (h.0, h.1, h.2) (elim (bytes_eq f.0 x) as (λ b. MaybeCallee (if b then Some f.1 else at_name fs x) (if b then Some i.1 else at_name is x) (if b then Some s.1 else at_name ss x) (if b then Some c.1 else at_name cs x)) [
      | true ↦ h.3
      | false ↦ callee_at fs is ss cs x h.4
    ])
callee_at fs is ss cs x h = absurd h

pub callee_push : (fs : Named Signature) (is : Named Inlining) (ss : Named Size) (cs : Named ℕ) (x : List ℕ) (f : Signature) (i : Inlining) (s : Size) (c : ℕ) → Callees fs is ss cs → CallFits f i s c
    → Callees (fs ++ (x, f) ∷ []) (is ++ (x, i) ∷ []) (ss ++ (x, s) ∷ []) (cs ++ (x, c) ∷ [])
callee_push [] [] [] [] x f i s c h one = (refl, refl, refl, one, tt)
callee_push (f ∷ fs) (i ∷ is) (s ∷ ss) (c ∷ cs) x g j t d h one = (h.0, h.1, h.2, h.3, callee_push fs is ss cs x g j t d h.4 one)
callee_push fs is ss cs x f i s c h one = absurd h
