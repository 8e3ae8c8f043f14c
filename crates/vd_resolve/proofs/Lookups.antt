-- What names stand for, where entries are changed alike.
use Rattle.std.proofs.Common.{◌≡◌, ℕ, Bool, true, false, List, [], ◌∷◌, map, Option, Some, None, is_some, refl, sym, ap, ◌∙◌, if◌then◌else◌, bytes_eq}
use Rattle.std.specs.Option.{option_map}
use Rattle.vd_resolve.specs.declared.size.Size.{Size}
use Rattle.vd_resolve.specs.declared.symbol.Callee.{Callee}
use Rattle.vd_resolve.specs.declared.symbol.Symbol.{Symbol}
use Rattle.vd_base.specs.Names.{Named, at_name}
use Rattle.vd_resolve.specs.Sizes.{is_true, is_variable, capped_size, IsCapped}
use Rattle.vd_resolve.specs.Walks.{is_variable_symbol, variables, signatures, HaveSizes}

at_name_map : {A B : Type 0} (f : A → B) (es : Named A) (x : List ℕ) → at_name (map {B = List ℕ × B} (λ e. (e.0, f e.1)) es) x ≡ option_map f (at_name es x)
at_name_map f [] x = refl
at_name_map {A} {B} f (e ∷ es) x =
    elim (bytes_eq e.0 x) as (λ b. (if b then Some (f e.1) else at_name (map {B = List ℕ × B} (λ e. (e.0, f e.1)) es) x) ≡ option_map f (if b then Some e.1 else at_name es x)) [
      | true ↦ refl
      | false ↦ at_name_map f es x
    ]

pub variable_at : (env : Named Symbol) (x : List ℕ) → is_variable (variables env) x ≡ is_true (option_map is_variable_symbol (at_name env x))
variable_at env x = rw (at_name_map is_variable_symbol env x) refl

pub signature_at : (callees : Named Callee) (x : List ℕ) → at_name (signatures callees) x ≡ option_map (λ (c : Callee). c.signature) (at_name callees x)
signature_at callees x = at_name_map (λ (c : Callee). c.signature) callees x

-- the size of a callee that is found
of_found : (found : Option Size) (c : Callee) → Some c.size ≡ option_map capped_size found → (s : Size) × (found ≡ Some s) × (c.size ≡ capped_size s)
of_found None c e = absurd (some_none c.size e)
  where
    some_none : (s : Size) → Some s ≡ None → ⊥
    some_none s h = cc
of_found (Some s) c e = (s, refl, cc)

pub size_at : (callees : Named Callee) (sizes : Named Size) (x : List ℕ) (c : Callee) → HaveSizes callees sizes → at_name callees x ≡ Some c → (s : Size) × (at_name sizes x ≡ Some s) × IsCapped c.size s
unfolding IsCapped
size_at callees sizes x c same found =
    of_found (at_name sizes x) c
    (ap (option_map (λ (d : Callee). d.size)) (sym found) ∙ sym (at_name_map (λ (d : Callee). d.size) callees x) ∙ ap (λ (z : Named Size). at_name z x) same ∙ at_name_map capped_size sizes x)

mapped_is_some : {A B : Type 0} (f : A → B) (o : Option A) → is_some (option_map f o) ≡ is_some o
mapped_is_some f None = refl
mapped_is_some f (Some a) = refl

pub has_signature : (callees : Named Callee) (x : List ℕ) → is_some (at_name (signatures callees) x) ≡ is_some (at_name callees x)
has_signature callees x = ap is_some (signature_at callees x) ∙ mapped_is_some (λ (c : Callee). c.signature) (at_name callees x)
