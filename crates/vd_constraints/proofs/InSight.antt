-- Where each slot is in sight when it is named, and the slots made are below n, the slots named are below n.
use Rattle.std.proofs.Common.{◌≡◌, ℕ, zero, suc, ◌+◌, ◌≤◌, Bool, true, false, true≢false, ◌&&◌, ◌||◌, nat_eq, List, [], ◌∷◌, ◌++◌, map, length, refl, sym, ◌∙◌, subst, subst₂, arith}
use Rattle.std.specs.Prelude.{nat_lt}
use Rattle.std.specs.List.{list_all, list_any, range_with_len}
use Rattle.std.proofs.lemmas.Bool.{and_parts, lt-ltb, eqb-true}
use Rattle.std.proofs.lemmas.List.Folds.{list_all-append}
use Rattle.vd_base.specs.declared.ids.SlotId.{SlotId}
use Rattle.vd_core.specs.declared.normal.Right.{Right}
use Rattle.vd_core.specs.declared.normal.Right.TheVariants.{Lit, Turn, Copy, Apply, Input, Declassify, Endorse, Load, Get}
use Rattle.vd_core.specs.declared.normal.NormalForm.{NormalForm}
use Rattle.vd_core.specs.declared.normal.Stmt.{Stmt, roll-Stmt, map-Stmt, ind-Stmt}
use Rattle.vd_core.specs.declared.normal.Stmt.TheOpen.{Stmt-F}
use Rattle.vd_core.specs.declared.normal.Stmt.TheFolds.{fold-roll-Stmt}
use Rattle.vd_core.specs.Facts.{slots_step, slots_of, slots_made, Sight, Seeing, nothing_seen, is_binding, is_variable, is_array, right_sees, seeing_all, seeing_step, seeing, statements_see, IsWellMade}
use Rattle.vd_constraints.specs.Scoped.{is_below, right_below, stmt_below, slots_below, block_below, IsScoped}

abbrev AllBelow : ℕ → List ℕ → Type 0
AllBelow n slots = list_all (λ k. nat_lt k n) slots ≡ true

-- whatever is in sight is below n
record IsSightBelow (n : ℕ) (sight : Sight) : Type 0 where
  bindings : AllBelow n sight.bindings
  variables : AllBelow n sight.variables
  arrays : AllBelow n sight.arrays

-- what is named is below n, and so is what is then in sight
record StaysBelow (n : ℕ) (below : Bool) (left : Sight) : Type 0 where
  named : below ≡ true
  after : IsSightBelow n left

module _ (n : ℕ) where
  member_below : (k : ℕ) (slots : List ℕ) → AllBelow n slots → list_any (nat_eq k) slots ≡ true → nat_lt k n ≡ true
  member_below k [] all here = absurd (true≢false (sym here))
  member_below k (j ∷ slots) all here =
      let parts = and_parts (nat_lt j n) (list_all (λ i. nat_lt i n) slots) all in
      by (nat_eq k j) refl (member_below k slots parts.1) here
    where
      by : (b : Bool) → nat_eq k j ≡ b → (list_any (nat_eq k) slots ≡ true → nat_lt k n ≡ true) → (b || list_any (nat_eq k) slots) ≡ true → nat_lt k n ≡ true
      by true is rest h = subst (λ i. nat_lt i n ≡ true) (sym (eqb-true k j is)) (and_parts (nat_lt j n) (list_all (λ i. nat_lt i n) slots) all).0
      by false is rest h = rest h

  binding_below : (sight : Sight) (x : SlotId) → IsSightBelow n sight → is_binding sight x ≡ true → is_below n x ≡ true
  binding_below sight x low here = member_below x.0 sight.bindings low.bindings here

  variable_below : (sight : Sight) (v : SlotId) → IsSightBelow n sight → is_variable sight v ≡ true → is_below n v ≡ true
  variable_below sight v low here = member_below v.0 sight.variables low.variables here

  array_below : (sight : Sight) (v : SlotId) → IsSightBelow n sight → is_array sight v ≡ true → is_below n v ≡ true
  array_below sight v low here = member_below v.0 sight.arrays low.arrays here

  operands_below : (sight : Sight) (xs : List SlotId) → IsSightBelow n sight → list_all (is_binding sight) xs ≡ true → list_all (is_below n) xs ≡ true
  operands_below sight [] low here = refl
  operands_below sight (x ∷ xs) low here =
      let parts = and_parts (is_binding sight x) (list_all (is_binding sight) xs) here in
      rw (binding_below sight x low parts.0, operands_below sight xs low parts.1) refl

  right_is_below : (sight : Sight) (r : Right) → IsSightBelow n sight → right_sees r sight ≡ true → right_below n r ≡ true
  right_is_below sight (Lit k) low here = refl
  right_is_below sight Turn low here = refl
  right_is_below sight (Copy x) low here = binding_below sight x low here
  right_is_below sight (Apply o xs) low here = operands_below sight xs low here
  right_is_below sight (Input host) low here = refl
  right_is_below sight (Declassify x to) low here = binding_below sight x low here
  right_is_below sight (Endorse x to) low here = binding_below sight x low here
  right_is_below sight (Load v) low here = variable_below sight v low here
  right_is_below sight (Get v i) low here =
      let parts = and_parts (is_array sight v) (is_binding sight i) here in
      rw (array_below sight v low parts.0, binding_below sight i low parts.1) refl

  -- of the slots that statements make, of what they see, and of whether all that they name is below n
  abbrev KeepsBelow : List ℕ → Seeing → Bool → Type 0
  KeepsBelow makes sees below = (sight : Sight) → IsSightBelow n sight → AllBelow n makes → (sees sight).all ≡ true → StaysBelow n below (sees sight).after

  none_below : KeepsBelow [] (seeing_all []) true
  none_below sight low made seen = record { named = refl; after = low }

  then_below : (makes more : List ℕ) (sees rest : Seeing) (below others : Bool) → KeepsBelow makes sees below → KeepsBelow more rest others
      → KeepsBelow (makes ++ more) (λ sight. record { all = (sees sight).all && (rest (sees sight).after).all; after = (rest (sees sight).after).after }) (below && others)
  then_below makes more sees rest below others first second sight low made seen =
      let made_parts = and_parts (list_all (λ k. nat_lt k n) makes) (list_all (λ k. nat_lt k n) more) (sym (list_all-append (λ k. nat_lt k n) makes more) ∙ made) in
      let seen_parts = and_parts (sees sight).all (rest (sees sight).after).all seen in
      let one = first sight low made_parts.0 seen_parts.0 in
      let two = second (sees sight).after one.after made_parts.1 seen_parts.1 in
      record { named = rw (one.named, two.named) refl; after = two.after }

  abbrev M : Type 0
  M = (s : Stmt) × KeepsBelow (slots_of s) (seeing s) (slots_below n s)

  abbrev statements : List M → List Stmt
  statements = map {B = Stmt} (λ (m : M). m.0)

  abbrev layer : Stmt-F M → Stmt-F Stmt
  layer = map-Stmt M Stmt (λ m. m.0)

  -- statements of a block
  all_below : (ms : List M) → KeepsBelow (slots_made (statements ms)) (statements_see (statements ms)) (block_below n (statements ms))
  all_below [] = none_below
  all_below (m ∷ ms) =
      then_below (slots_of m.0) (slots_made (statements ms)) (seeing m.0) (statements_see (statements ms)) (slots_below n m.0) (block_below n (statements ms)) m.1 (all_below ms)

  step : (y : Stmt-F M) → KeepsBelow (slots_step (map-Stmt Stmt (List ℕ) slots_of (layer y))) (seeing_step (map-Stmt Stmt Seeing seeing (layer y))) (stmt_below n (map-Stmt Stmt Bool (slots_below n) (layer y)))
  step (Stmt-F.Let x r) sight low made seen =
      let new = (and_parts (is_below n x) true made).0 in
      record {
        named = rw (new, right_is_below sight r low seen) refl;
        after = record { bindings = rw (new, low.bindings) refl; variables = low.variables; arrays = low.arrays };
      }
  step (Stmt-F.NewVar v x) sight low made seen =
      let new = (and_parts (is_below n v) true made).0 in
      record {
        named = rw (new, binding_below sight x low seen) refl;
        after = record { bindings = low.bindings; variables = rw (new, low.variables) refl; arrays = low.arrays };
      }
  step (Stmt-F.NewArray v cells) sight low made seen =
      let new = (and_parts (is_below n v) true made).0 in
      record { named = new; after = record { bindings = low.bindings; variables = low.variables; arrays = rw (new, low.arrays) refl } }
  step (Stmt-F.Store v x) sight low made seen =
      let parts = and_parts (is_variable sight v) (is_binding sight x) seen in
      record { named = rw (variable_below sight v low parts.0, binding_below sight x low parts.1) refl; after = low }
  step (Stmt-F.Put v i x) sight low made seen =
      let parts = and_parts (is_array sight v && is_binding sight i) (is_binding sight x) seen in
      let front = and_parts (is_array sight v) (is_binding sight i) parts.0 in
      record { named = rw (array_below sight v low front.0, binding_below sight i low front.1, binding_below sight x low parts.1) refl; after = low }
  step (Stmt-F.Output x host offset) sight low made seen = record { named = binding_below sight x low seen; after = low }
  step (Stmt-F.If x a b offset) sight low made seen =
      let then_makes = slots_made (statements a) in
      let else_makes = slots_made (statements b) in
      let makes = and_parts (list_all (λ k. nat_lt k n) then_makes) (list_all (λ k. nat_lt k n) else_makes) (sym (list_all-append (λ k. nat_lt k n) then_makes else_makes) ∙ made) in
      let parts = and_parts (is_binding sight x && (statements_see (statements a) sight).all) (statements_see (statements b) sight).all seen in
      let front = and_parts (is_binding sight x) (statements_see (statements a) sight).all parts.0 in
      record {
        named = rw (binding_below sight x low front.0, (all_below a sight low makes.0 front.1).named, (all_below b sight low makes.1 parts.1).named) refl;
        after = low;
      }
  step (Stmt-F.For count body) sight low made seen = record { named = (all_below body sight low made seen).named; after = low }

  stmt_keeps : (s : Stmt) → KeepsBelow (slots_of s) (seeing s) (slots_below n s)
  stmt_keeps = ind-Stmt (λ s. KeepsBelow (slots_of s) (seeing s) (slots_below n s)) (λ x y is. subst (λ z. KeepsBelow (slots_of (roll-Stmt z)) (seeing (roll-Stmt z)) (slots_below n (roll-Stmt z))) is (at_roll y))
    where
      at_roll : (y : Stmt-F M) → KeepsBelow (slots_of (roll-Stmt (layer y))) (seeing (roll-Stmt (layer y))) (slots_below n (roll-Stmt (layer y)))
      at_roll y =
          subst (λ makes. KeepsBelow makes (seeing (roll-Stmt (layer y))) (slots_below n (roll-Stmt (layer y)))) (sym (fold-roll-Stmt (List ℕ) slots_step (layer y)))
          (subst₂ (KeepsBelow (slots_step (map-Stmt Stmt (List ℕ) slots_of (layer y)))) (sym (fold-roll-Stmt Seeing seeing_step (layer y))) (sym (fold-roll-Stmt Bool (stmt_below n) (layer y))) (step y))

  body_keeps : (body : List Stmt) → KeepsBelow (slots_made body) (statements_see body) (block_below n body)
  body_keeps [] = none_below
  body_keeps (s ∷ body) = then_below (slots_of s) (slots_made body) (seeing s) (statements_see body) (slots_below n s) (block_below n body) (stmt_keeps s) (body_keeps body)

  range_below : (a k : ℕ) → a + k ≤ n → AllBelow n (range_with_len a k)
  range_below a zero fits = refl
  range_below a (suc k) fits = rw (lt-ltb a n (omega arith), range_below (a + 1) k (omega arith)) refl

pub well_made_scoped : (form : NormalForm) → IsWellMade form → IsScoped form
well_made_scoped form is =
    let n = length form.slots in
    let nothing : IsSightBelow n nothing_seen = record { bindings = refl; variables = refl; arrays = refl } in
    let made : AllBelow n (slots_made form.body) = subst (AllBelow n) (sym is.in_order) (range_below n 0 n (omega arith)) in
    record { few_principals = is.limits.principals; named_slots = (body_keeps n form.body nothing_seen nothing made is.made_before).named }
