-- A table of names, by the entries of its map.
use Rattle.std.proofs.Common.{◌≡◌, ℕ, zero, suc, Bool, true, false, true≢false, List, [], ◌∷◌, ◌++◌, map, take, length, Option, Some, None, is_some, option_copied, refl, sym, ap, ap₂, ◌∙◌, nat_eq, bytes_eq, if◌then◌else◌, arith, Bor}
use Rattle.std.specs.Map.{lookup}
use Rattle.std.specs.Option.{option_map}
use Rattle.indexmap.specs.IndexMap.{insert_entry}
use Rattle.vd_base.specs.Names.{Named, at_name}
use Rattle.vd_base.specs.declared.ids.Span.{Span}

nat_eq_sym : (m n : ℕ) → nat_eq m n ≡ nat_eq n m
nat_eq_sym m n = grind arith

bytes_eq_sym : (xs ys : List ℕ) → bytes_eq xs ys ≡ bytes_eq ys xs
bytes_eq_sym [] [] = refl
bytes_eq_sym [] (y ∷ ys) = refl
bytes_eq_sym (x ∷ xs) [] = refl
bytes_eq_sym (x ∷ xs) (y ∷ ys) = rw (nat_eq_sym x y, bytes_eq_sym xs ys) refl

abbrev pub Entries : Type 0 → Type 0
Entries E = List (Bor (List ℕ) × E)

-- a part of each entry, by its name
abbrev pub named : {E A : Type 0} → (E → A) → Entries E → Named A
named {E} {A} f es = map {B = List ℕ × A} (λ e. (e.0.now, f e.1)) es

lookup_named : {E A : Type 0} (f : E → A) (es : Entries E) (name : List ℕ) → option_map f (lookup (λ k. bytes_eq name k.now) es) ≡ at_name (named f es) name
lookup_named f [] name = refl
lookup_named {E} {A} f (e ∷ es) name =
    let P : Bool → Type 0 = λ b. option_map f (if b then Some e.1 else lookup (λ k. bytes_eq name k.now) es) ≡ (if b then Some (f e.1) else at_name (named f es) name) in
    rw (bytes_eq_sym name e.0.now)
    (elim (bytes_eq e.0.now name) as P [
      | true ↦ refl
      | false ↦ lookup_named f es name
    ])

mapped_is_some : {E A : Type 0} (f : E → A) (o : Option E) → is_some (option_map f o) ≡ is_some o
mapped_is_some f None = refl
mapped_is_some f (Some a) = refl

-- whether a name is here, by any part
is_here : {E A : Type 0} (f : E → A) (es : Entries E) (name : List ℕ) → is_some (at_name (named f es) name) ≡ is_some (lookup (λ k. bytes_eq name k.now) es)
is_here f es name = ap is_some (sym (lookup_named f es name)) ∙ mapped_is_some f (lookup (λ k. bytes_eq name k.now) es)

insert_named : {E A : Type 0} (f : E → A) (es : Entries E) (k : Bor (List ℕ)) (v : E) → is_some (lookup (λ j. bytes_eq k.now j.now) es) ≡ false
    → named f (insert_entry (λ x y. bytes_eq x.now y.now) es k v) ≡ named f es ++ (k.now, f v) ∷ []
insert_named f [] k v none = refl
insert_named {E} {A} f (e ∷ es) k v none =
    let P : Bool → Type 0 = λ b. is_some (if b then Some e.1 else lookup (λ j. bytes_eq k.now j.now) es) ≡ false
    → named f (if b then (e.0, v) ∷ es else e ∷ insert_entry (λ x y. bytes_eq x.now y.now) es k v) ≡ named f (e ∷ es) ++ (k.now, f v) ∷ [] in
    (elim (bytes_eq k.now e.0.now) as P [
      | true ↦ λ none. absurd (true≢false none)
      | false ↦ λ none. ap (λ z. (e.0.now, f e.1) ∷ z) (insert_named f es k v none)
    ])
    none

take_named : {E A : Type 0} (f : E → A) (n : ℕ) (es : Entries E) → named f (take n es) ≡ take n (named f es)
take_named f zero es = refl
take_named f (suc n) [] = refl
take_named f (suc n) (e ∷ es) = ap (λ z. (e.0.now, f e.1) ∷ z) (take_named f n es)

length_named : {E A : Type 0} (f : E → A) (es : Entries E) → length (named f es) ≡ length es
length_named f [] = refl
length_named f (e ∷ es) = grind (arith, length_named f es)

-- ---- a table: what names stand for, and where they were declared

shown : {E A : Type 0} (f : E → A) (o : Option (Bor E)) → option_map (λ (b : Bor E). f b.now) o ≡ option_map f (option_copied o)
shown f None = refl
shown f (Some b) = refl

module _ {V : Type 0} (es : Entries (V × Span)) (table : Named V × Named Span) (is : (named (λ (e : V × Span). e.0) es, named (λ (e : V × Span). e.1) es) ≡ table) where
  pub found_value : (name : List ℕ) (o : Option (Bor (V × Span))) → option_copied o ≡ lookup (λ k. bytes_eq name k.now) es → option_map (λ (b : Bor (V × Span)). b.now.0) o ≡ at_name table.0 name
  found_value name o found =
      shown (λ (e : V × Span). e.0) o
      ∙ ap (option_map (λ (e : V × Span). e.0)) found
      ∙ lookup_named (λ (e : V × Span). e.0) es name
      ∙ ap (λ (z : Named V × Named Span). at_name z.0 name) is

  pub found_place : (name : List ℕ) (o : Option (Bor (V × Span))) → option_copied o ≡ lookup (λ k. bytes_eq name k.now) es → option_map (λ (b : Bor (V × Span)). b.now.1) o ≡ at_name table.1 name
  found_place name o found =
      shown (λ (e : V × Span). e.1) o
      ∙ ap (option_map (λ (e : V × Span). e.1)) found
      ∙ lookup_named (λ (e : V × Span). e.1) es name
      ∙ ap (λ (z : Named V × Named Span). at_name z.1 name) is

  pub inserted : (after : Entries (V × Span)) (k : Bor (List ℕ)) (v : V × Span) → is_some (at_name table.0 k.now) ≡ false → after ≡ insert_entry (λ x y. bytes_eq x.now y.now) es k v
      → ◌≡◌ {A = Named V × Named Span} (named (λ (e : V × Span). e.0) after, named (λ (e : V × Span). e.1) after) (table.0 ++ (k.now, v.0) ∷ [], table.1 ++ (k.now, v.1) ∷ [])
  inserted after k v none made =
      let pair : Named V → Named Span → Named V × Named Span = λ x y. (x, y) in
      let fresh : is_some (lookup (λ j. bytes_eq k.now j.now) es) ≡ false =
      sym (is_here (λ (e : V × Span). e.0) es k.now) ∙ ap (λ (z : Named V × Named Span). is_some (at_name z.0 k.now)) is ∙ none in
      ap₂ pair (ap (named (λ (e : V × Span). e.0)) made ∙ insert_named (λ (e : V × Span). e.0) es k v fresh) (ap (named (λ (e : V × Span). e.1)) made ∙ insert_named (λ (e : V × Span). e.1) es k v fresh)
      ∙ ap (λ (z : Named V × Named Span). pair (z.0 ++ (k.now, v.0) ∷ []) (z.1 ++ (k.now, v.1) ∷ [])) is

  pub cut : (after : Entries (V × Span)) (n : ℕ) → after ≡ take n es → ◌≡◌ {A = Named V × Named Span} (named (λ (e : V × Span). e.0) after, named (λ (e : V × Span). e.1) after) (take n table.0, take n table.1)
  cut after n made =
      let pair : Named V → Named Span → Named V × Named Span = λ x y. (x, y) in
      ap₂ pair (ap (named (λ (e : V × Span). e.0)) made ∙ take_named (λ (e : V × Span). e.0) n es) (ap (named (λ (e : V × Span). e.1)) made ∙ take_named (λ (e : V × Span). e.1) n es)
      ∙ ap (λ (z : Named V × Named Span). pair (take n z.0) (take n z.1)) is

  pub counted : length es ≡ length table.0
  counted = sym (length_named (λ (e : V × Span). e.0) es) ∙ ap (λ (z : Named V × Named Span). length z.0) is

  pub counted_places : length es ≡ length table.1
  counted_places = sym (length_named (λ (e : V × Span). e.1) es) ∙ ap (λ (z : Named V × Named Span). length z.1) is

-- a table that is cut to what it was
pub restored : {A B : Type 0} (old grown : Named A × Named B) (n : ℕ) → n ≡ length old.0 → n ≡ length old.1 → take (length old.0) grown.0 ≡ old.0 → take (length old.1) grown.1 ≡ old.1
    → (take n grown.0, take n grown.1) ≡ old
restored {A} {B} old grown n names places kept kept_places =
    let pair : Named A → Named B → Named A × Named B = λ x y. (x, y) in
    ap₂ pair (ap (λ k. take k grown.0) names ∙ kept) (ap (λ k. take k grown.1) places ∙ kept_places)
