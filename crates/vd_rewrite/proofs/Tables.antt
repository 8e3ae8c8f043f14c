-- New numbers, and what is in sight.
use Rattle.std.proofs.Common.{◌≡◌, ◌⊎◌, inl, inr, ℕ, ◌+◌, ◌<◌, ◌≤◌, nat_eq, Bool, true, false, ◌||◌, List, [], ◌∷◌, ◌++◌, length, slice_index, refl, ◌∙◌, subst, arith}
use Rattle.std.specs.List.{list_any}
use Rattle.std.proofs.lemmas.Bool.{cases_lt, eqb-true}
use Rattle.vd_base.specs.declared.ids.SlotId.{SlotId}
use Rattle.vd_core.specs.Facts.{Sight, is_binding, is_variable, is_array, with_binding, with_variable, with_array}
use Rattle.vd_rewrite.specs.Rewriting.{Made, slot}
use Rattle.vd_rewrite.proofs.Stores.{item_old, item_last, length_push}

-- new numbers rise, and stand below the next
pub record Placed (table : List ℕ) (next : ℕ) : Type 0 where
  pub rising : (j k : ℕ) → j < k → k < length table → slice_index table j < slice_index table k
  pub below : (k : ℕ) → k < length table → slice_index table k < next

pub placed_at_start : Placed [] 0
placed_at_start = record { rising = λ j k h low. absurd (omega arith); below = λ k low. absurd (omega arith) }

pub placed_apart : (table : List ℕ) (next j k : ℕ) → Placed table next → j < length table → k < length table → slice_index table j ≡ slice_index table k → j ≡ k
placed_apart table next j k p lj lk e = at (cases_lt j k) (cases_lt k j)
  where
    at : (j < k) ⊎ (k ≤ j) → (k < j) ⊎ (j ≤ k) → j ≡ k
    at (inl lt) other = let h = p.rising j k lt lk in absurd (omega arith)
    at (inr le) (inl lt) = let h = p.rising k j lt lj in absurd (omega arith)
    at (inr le) (inr le') = omega arith

pub placed_push : (table : List ℕ) (next next' : ℕ) → Placed table next → next < next' → Placed (table ++ next ∷ []) next'
placed_push table next next' p lt =
    record {
      rising = λ j k h low. let e = length_push table next in rises j k h (cases_lt k (length table)) (omega arith);
      below = λ k low. let e = length_push table next in low_at k (cases_lt k (length table)) (omega arith);
    }
  where
    low_at : (k : ℕ) → (k < length table) ⊎ (length table ≤ k) → k < length table + 1 → slice_index (table ++ next ∷ []) k < next'
    low_at k (inl low) h = let old = item_old table next k low in let b = p.below k low in omega arith
    low_at k (inr le) h =
        let is : length table ≡ k = omega arith in
        let last : slice_index (table ++ next ∷ []) k ≡ next = subst (λ z. slice_index (table ++ next ∷ []) z ≡ next) is (item_last table next) in omega arith

    rises : (j k : ℕ) → j < k → (k < length table) ⊎ (length table ≤ k) → k < length table + 1 → slice_index (table ++ next ∷ []) j < slice_index (table ++ next ∷ []) k
    rises j k h (inl low) h' = let a = item_old table next j (omega arith) in let b = item_old table next k low in let r = p.rising j k h low in omega arith
    rises j k h (inr le) h' =
        let is : length table ≡ k = omega arith in
        let last : slice_index (table ++ next ∷ []) k ≡ next = subst (λ z. slice_index (table ++ next ∷ []) z ≡ next) is (item_last table next) in
        let a = item_old table next j (omega arith) in
        let b = p.below j (omega arith) in omega arith

pub placed_later : (table : List ℕ) (next next' : ℕ) → Placed table next → next ≤ next' → Placed table next'
placed_later table next next' p le = record { rising = p.rising; below = λ k low. let b = p.below k low in omega arith }

-- from m to m' so many old slots got new numbers
pub record Grown (m m' : Made) (count : ℕ) : Type 0 where
  pub placed : Placed m'.table m'.next
  pub next : m.next ≤ m'.next
  pub size : length m'.table ≡ length m.table + count
  pub kept : (k : ℕ) → k < length m.table → slice_index m'.table k ≡ slice_index m.table k

pub grown_none : (m : Made) → Placed m.table m.next → Grown m m 0
grown_none m p = record { placed = p; next = omega arith; size = omega arith; kept = λ k h. refl }

pub grown_both : (m m1 m2 : Made) (i j : ℕ) → Grown m m1 i → Grown m1 m2 j → Grown m m2 (i + j)
grown_both m m1 m2 i j a b =
    record {
      placed = b.placed;
      next = let x = a.next in let y = b.next in omega arith;
      size = let x = a.size in let y = b.size in omega arith;
      kept = λ k h. let x = a.size in b.kept k (omega arith) ∙ a.kept k h;
    }

-- what is in sight is made before, and no slot is both a binding and a variable
pub record Known (n : ℕ) (seen : Sight) : Type 0 where
  pub bindings : (k : ℕ) → is_binding seen (slot k) ≡ true → k < n
  pub variables : (k : ℕ) → is_variable seen (slot k) ≡ true → k < n
  pub arrays : (k : ℕ) → is_array seen (slot k) ≡ true → k < n
  pub apart : (k : ℕ) → is_binding seen (slot k) ≡ true → is_variable seen (slot k) ≡ true → ⊥

pub known_later : (n n' : ℕ) (seen : Sight) → Known n seen → n ≤ n' → Known n' seen
known_later n n' seen h le =
    record {
      bindings = λ k b. let l = h.bindings k b in omega arith;
      variables = λ k b. let l = h.variables k b in omega arith;
      arrays = λ k b. let l = h.arrays k b in omega arith;
      apart = h.apart;
    }

-- one of several
pub either_of : (a b : Bool) → (a || b) ≡ true → (a ≡ true) ⊎ (b ≡ true)
either_of true b h = inl refl
either_of false b h = inr h

pub or_later : (a b : Bool) → b ≡ true → (a || b) ≡ true
or_later true b h = refl
or_later false b h = h

module _ (n : ℕ) (seen : Sight) (x : SlotId) (is : x.0 ≡ n) (h : Known n seen) where
  low : (k : ℕ) (list : List ℕ) → ((k : ℕ) → list_any (nat_eq k) list ≡ true → k < n) → list_any (nat_eq k) (x.0 ∷ list) ≡ true → k < n + 1
  low k list f b = at (either_of (nat_eq k x.0) (list_any (nat_eq k) list) b)
    where
      at : (nat_eq k x.0 ≡ true) ⊎ (list_any (nat_eq k) list ≡ true) → k < n + 1
      at (inl e) = let z = eqb-true k x.0 e in omega arith
      at (inr e) = let l = f k e in omega arith

  differ : (k : ℕ) (one other : List ℕ) → ((k : ℕ) → list_any (nat_eq k) other ≡ true → k < n) → (list_any (nat_eq k) one ≡ true → list_any (nat_eq k) other ≡ true → ⊥)
      → list_any (nat_eq k) (x.0 ∷ one) ≡ true → list_any (nat_eq k) other ≡ true → ⊥
  differ k one other f g b b' = at (either_of (nat_eq k x.0) (list_any (nat_eq k) one) b)
    where
      at : (nat_eq k x.0 ≡ true) ⊎ (list_any (nat_eq k) one ≡ true) → ⊥
      at (inl e) = let z = eqb-true k x.0 e in let l = f k b' in absurd (omega arith)
      at (inr e) = g e b'

  pub known_binding : Known (n + 1) (with_binding x seen)
  known_binding =
      record {
        bindings = λ k b. low k seen.bindings h.bindings b;
        variables = λ k b. let l = h.variables k b in omega arith;
        arrays = λ k b. let l = h.arrays k b in omega arith;
        apart = λ k b v. differ k seen.bindings seen.variables h.variables (h.apart k) b v;
      }

  pub known_variable : Known (n + 1) (with_variable x seen)
  known_variable =
      record {
        bindings = λ k b. let l = h.bindings k b in omega arith;
        variables = λ k b. low k seen.variables h.variables b;
        arrays = λ k b. let l = h.arrays k b in omega arith;
        apart = λ k b v. differ k seen.variables seen.bindings h.bindings (λ v' b'. h.apart k b' v') v b;
      }

  pub known_array : Known (n + 1) (with_array x seen)
  known_array =
      record {
        bindings = λ k b. let l = h.bindings k b in omega arith;
        variables = λ k b. let l = h.variables k b in omega arith;
        arrays = λ k b. low k seen.arrays h.arrays b;
        apart = h.apart;
      }
