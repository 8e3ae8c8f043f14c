-- Each tree has a choice, or no whole list.
use Rattle.std.proofs.Common.{◌≡◌, ℕ, zero, suc, ◌+◌, ◌<◌, ◌≤◌, ◌⊎◌, inl, inr, Bool, true, false, List, [], ◌∷◌, ◌++◌, length, refl, sym, ap, ◌∙◌, subst, arith, append_assoc, append-nil, length-append, ℤ, pos, negsuc, ◌≤ℤ◌, ◌<ℤ◌}
use Rattle.std.specs.Prelude.{IsTrue}
use Rattle.std.proofs.lemmas.Int.{ints}
use Rattle.std.proofs.lemmas.Bool.{cases_lt, cases_order}
use Rattle.vd_search_tree.specs.Trees.{Tree, IsWhole, IsChoice, IsEmpty, InOrder}

cases_ℤ : (a b : ℤ) → (a <ℤ b) ⊎ (b ≤ℤ a)
cases_ℤ (pos m) (pos n) = elim (cases_lt m n) [ inl lt ↦ inl (omega (arith, ints, lt)) | inr le ↦ inr (omega (arith, ints, le)) ]
cases_ℤ (pos m) (negsuc n) = inr (omega (arith, ints))
cases_ℤ (negsuc m) (pos n) = inl (omega (arith, ints))
cases_ℤ (negsuc m) (negsuc n) = elim (cases_lt n m) [ inl lt ↦ inl (omega (arith, ints, lt)) | inr le ↦ inr (omega (arith, ints, le)) ]

module _ (tree : Tree) (listed : (prefix rest : List ℕ) (choice : ℕ) → IsTrue (tree.valid (prefix ++ choice ∷ rest)) → choice < tree.choices) where
  -- of the whole lists that begin so, the first of least cost
  record IsFirst (prefix rest : List ℕ) : Type 0 where
    whole : IsWhole tree (prefix ++ rest)
    least : (other : List ℕ) → IsWhole tree (prefix ++ other) → tree.bound (prefix ++ rest) ≤ℤ tree.bound (prefix ++ other)
    first : (other : List ℕ) → IsWhole tree (prefix ++ other) → tree.bound (prefix ++ other) ≡ tree.bound (prefix ++ rest) → InOrder rest other

  abbrev NoneAt : List ℕ → Type 0
  NoneAt prefix = (rest : List ℕ) → IsWhole tree (prefix ++ rest) → ⊥

  abbrev Best : List ℕ → Type 0
  Best prefix = ((rest : List ℕ) × IsFirst prefix rest) ⊎ NoneAt prefix

  -- the same of those that go on with a choice below a number
  record IsFirstBelow (prefix : List ℕ) (n choice : ℕ) (rest : List ℕ) : Type 0 where
    whole : IsWhole tree (prefix ++ choice ∷ rest)
    low : choice < n
    least : (k : ℕ) (other : List ℕ) → k < n → IsWhole tree (prefix ++ k ∷ other) → tree.bound (prefix ++ choice ∷ rest) ≤ℤ tree.bound (prefix ++ k ∷ other)
    first : (k : ℕ) (other : List ℕ) → k < n → IsWhole tree (prefix ++ k ∷ other) → tree.bound (prefix ++ k ∷ other) ≡ tree.bound (prefix ++ choice ∷ rest) → InOrder (choice ∷ rest) (k ∷ other)

  abbrev NoneBelow : List ℕ → ℕ → Type 0
  NoneBelow prefix n = (k : ℕ) (rest : List ℕ) → k < n → IsWhole tree (prefix ++ k ∷ rest) → ⊥

  abbrev BestBelow : List ℕ → ℕ → Type 0
  BestBelow prefix n = ((choice : ℕ) × (rest : List ℕ) × IsFirstBelow prefix n choice rest) ⊎ NoneBelow prefix n

  -- a list of the length of the prefix is the prefix
  nothing_behind : (prefix rest : List ℕ) → length prefix ≡ tree.slots → IsWhole tree (prefix ++ rest) → rest ≡ []
  nothing_behind prefix [] full whole = refl
  nothing_behind prefix (x ∷ rest) full whole = let all = length-append prefix (x ∷ rest) in let is = whole.full in absurd (omega arith)

  at_end : (prefix : List ℕ) → length prefix ≡ tree.slots → (valid : Bool) → tree.valid prefix ≡ valid → Best prefix
  at_end prefix full true valid = inl (
    [],
    record {
      whole = subst (IsWhole tree) (sym (append-nil prefix)) (record { full = full; valid = valid });
      least = λ other whole. let e = nothing_behind prefix other full whole in let same = ap (λ (r : List ℕ). tree.bound (prefix ++ r)) e in omega (arith, ints, same);
      first = λ other whole e. tt;
    },
  )
  at_end prefix full false valid = inr (λ rest whole. absurd (cc (valid, is_valid rest whole)))
    where
      is_valid : (rest : List ℕ) → IsWhole tree (prefix ++ rest) → tree.valid prefix ≡ true
      is_valid rest whole = sym (ap (λ (r : List ℕ). tree.valid (prefix ++ r)) (nothing_behind prefix rest full whole) ∙ ap tree.valid (append-nil prefix)) ∙ whole.valid

  -- a list that goes on by a choice
  moved : (prefix : List ℕ) (k : ℕ) (rest : List ℕ) → (prefix ++ k ∷ []) ++ rest ≡ prefix ++ k ∷ rest
  moved prefix k rest = append_assoc prefix (k ∷ []) rest

  at_choice : (prefix : List ℕ) (n : ℕ) (rest : List ℕ) → IsFirst (prefix ++ n ∷ []) rest → NoneBelow prefix n → IsFirstBelow prefix (suc n) n rest
  at_choice prefix n rest is none = record {
    whole = subst (IsWhole tree) (moved prefix n rest) is.whole;
    low = omega arith;
    least = λ k other lt whole. least k other (cases_order k n) lt whole;
    first = λ k other lt whole e. first k other (cases_order k n) lt whole e;
  }
    where
      here : (k : ℕ) (other : List ℕ) → k ≡ n → IsWhole tree (prefix ++ k ∷ other) → IsWhole tree ((prefix ++ n ∷ []) ++ other)
      here k other e whole = subst (IsWhole tree) (ap (λ (c : ℕ). prefix ++ c ∷ other) e ∙ sym (moved prefix n other)) whole

      bound_here : (k : ℕ) (other : List ℕ) → k ≡ n → tree.bound (prefix ++ k ∷ other) ≡ tree.bound ((prefix ++ n ∷ []) ++ other)
      bound_here k other e = ap tree.bound (ap (λ (c : ℕ). prefix ++ c ∷ other) e ∙ sym (moved prefix n other))

      least : (k : ℕ) (other : List ℕ) → (k ≡ n) ⊎ ((k < n) ⊎ (n < k)) → k < suc n → IsWhole tree (prefix ++ k ∷ other) → tree.bound (prefix ++ n ∷ rest) ≤ℤ tree.bound (prefix ++ k ∷ other)
      least k other (inl e) lt whole =
          let low = is.least other (here k other e whole) in
          let one = ap tree.bound (moved prefix n rest) in
          let two = bound_here k other e in
          omega (arith, ints, low, one, two)
      least k other (inr (inl below)) lt whole = absurd (none k other below whole)
      least k other (inr (inr above)) lt whole = absurd (omega arith)

      first : (k : ℕ) (other : List ℕ) → (k ≡ n) ⊎ ((k < n) ⊎ (n < k)) → k < suc n → IsWhole tree (prefix ++ k ∷ other) → tree.bound (prefix ++ k ∷ other) ≡ tree.bound (prefix ++ n ∷ rest) → InOrder (n ∷ rest) (k ∷ other)
      first k other (inl e) lt whole same = inr (sym e, is.first other (here k other e whole) (sym (bound_here k other e) ∙ same ∙ sym (ap tree.bound (moved prefix n rest))))
      first k other (inr (inl below)) lt whole same = absurd (none k other below whole)
      first k other (inr (inr above)) lt whole same = absurd (omega arith)

  -- nothing new at a choice
  kept : (prefix : List ℕ) (n choice : ℕ) (rest : List ℕ) → IsFirstBelow prefix n choice rest
      → ((other : List ℕ) → IsWhole tree (prefix ++ n ∷ other) → tree.bound (prefix ++ choice ∷ rest) ≤ℤ tree.bound (prefix ++ n ∷ other))
      → IsFirstBelow prefix (suc n) choice rest
  kept prefix n choice rest is above = record {
    whole = is.whole;
    low = let lt = is.low in omega arith;
    least = λ k other lt whole. least k other (cases_order k n) lt whole;
    first = λ k other lt whole e. first k other (cases_order k n) lt whole e;
  }
    where
      least : (k : ℕ) (other : List ℕ) → (k ≡ n) ⊎ ((k < n) ⊎ (n < k)) → k < suc n → IsWhole tree (prefix ++ k ∷ other) → tree.bound (prefix ++ choice ∷ rest) ≤ℤ tree.bound (prefix ++ k ∷ other)
      least k other (inl e) lt whole = subst (λ (c : ℕ). tree.bound (prefix ++ choice ∷ rest) ≤ℤ tree.bound (prefix ++ c ∷ other)) (sym e) (above other (subst (λ (c : ℕ). IsWhole tree (prefix ++ c ∷ other)) e whole))
      least k other (inr (inl below)) lt whole = is.least k other below whole
      least k other (inr (inr high)) lt whole = absurd (omega arith)

      first : (k : ℕ) (other : List ℕ) → (k ≡ n) ⊎ ((k < n) ⊎ (n < k)) → k < suc n → IsWhole tree (prefix ++ k ∷ other) → tree.bound (prefix ++ k ∷ other) ≡ tree.bound (prefix ++ choice ∷ rest) → InOrder (choice ∷ rest) (k ∷ other)
      first k other (inl e) lt whole same = inl (let low = is.low in omega (arith, e, low))
      first k other (inr (inl below)) lt whole same = is.first k other below whole same
      first k other (inr (inr high)) lt whole same = absurd (omega arith)

  -- a lesser one at a choice
  taken : (prefix : List ℕ) (n choice : ℕ) (rest next : List ℕ) → IsFirstBelow prefix n choice rest → IsFirst (prefix ++ n ∷ []) next
      → tree.bound ((prefix ++ n ∷ []) ++ next) <ℤ tree.bound (prefix ++ choice ∷ rest) → IsFirstBelow prefix (suc n) n next
  taken prefix n choice rest next is new lt = record {
    whole = subst (IsWhole tree) (moved prefix n next) new.whole;
    low = omega arith;
    least = λ k other small whole. least k other (cases_order k n) small whole;
    first = λ k other small whole e. first k other (cases_order k n) small whole e;
  }
    where
      own : tree.bound ((prefix ++ n ∷ []) ++ next) ≡ tree.bound (prefix ++ n ∷ next)
      own = ap tree.bound (moved prefix n next)

      here : (k : ℕ) (other : List ℕ) → k ≡ n → IsWhole tree (prefix ++ k ∷ other) → IsWhole tree ((prefix ++ n ∷ []) ++ other)
      here k other e whole = subst (IsWhole tree) (ap (λ (c : ℕ). prefix ++ c ∷ other) e ∙ sym (moved prefix n other)) whole

      bound_here : (k : ℕ) (other : List ℕ) → k ≡ n → tree.bound (prefix ++ k ∷ other) ≡ tree.bound ((prefix ++ n ∷ []) ++ other)
      bound_here k other e = ap tree.bound (ap (λ (c : ℕ). prefix ++ c ∷ other) e ∙ sym (moved prefix n other))

      least : (k : ℕ) (other : List ℕ) → (k ≡ n) ⊎ ((k < n) ⊎ (n < k)) → k < suc n → IsWhole tree (prefix ++ k ∷ other) → tree.bound (prefix ++ n ∷ next) ≤ℤ tree.bound (prefix ++ k ∷ other)
      least k other (inl e) small whole =
          let low = new.least other (here k other e whole) in
          let one = ap tree.bound (moved prefix n next) in
          let two = bound_here k other e in
          omega (arith, ints, low, one, two)
      least k other (inr (inl below)) small whole = let low = is.least k other below whole in omega (arith, ints, low, own, lt)
      least k other (inr (inr high)) small whole = absurd (omega arith)

      first : (k : ℕ) (other : List ℕ) → (k ≡ n) ⊎ ((k < n) ⊎ (n < k)) → k < suc n → IsWhole tree (prefix ++ k ∷ other) → tree.bound (prefix ++ k ∷ other) ≡ tree.bound (prefix ++ n ∷ next) → InOrder (n ∷ next) (k ∷ other)
      first k other (inl e) small whole same = inr (sym e, new.first other (here k other e whole) (sym (bound_here k other e) ∙ same ∙ sym (ap tree.bound (moved prefix n next))))
      first k other (inr (inl below)) small whole same = let low = is.least k other below whole in absurd (omega (arith, ints, low, own, lt, same))
      first k other (inr (inr high)) small whole same = absurd (omega arith)

  -- with the lists that go on by one choice more
  one_more : (prefix : List ℕ) (n : ℕ) → BestBelow prefix n → Best (prefix ++ n ∷ []) → BestBelow prefix (suc n)
  one_more prefix n (inr none) (inr nothing) = inr (λ k rest lt whole. next k rest (cases_order k n) lt whole)
    where
      next : (k : ℕ) (rest : List ℕ) → (k ≡ n) ⊎ ((k < n) ⊎ (n < k)) → k < suc n → IsWhole tree (prefix ++ k ∷ rest) → ⊥
      next k rest (inl e) lt whole = nothing rest (subst (IsWhole tree) (ap (λ (c : ℕ). prefix ++ c ∷ rest) e ∙ sym (moved prefix n rest)) whole)
      next k rest (inr (inl below)) lt whole = none k rest below whole
      next k rest (inr (inr high)) lt whole = absurd (omega arith)
  one_more prefix n (inr none) (inl new) = inl (n, new.0, at_choice prefix n new.0 new.1 none)
  one_more prefix n (inl old) (inr nothing) = inl (old.0, old.1, kept prefix n old.0 old.1 old.2 (λ other whole. absurd (nothing other (subst (IsWhole tree) (sym (moved prefix n other)) whole))))
  one_more prefix n (inl old) (inl new) = compared (cases_ℤ (tree.bound ((prefix ++ n ∷ []) ++ new.0)) (tree.bound (prefix ++ old.0 ∷ old.1)))
    where
      compared : (tree.bound ((prefix ++ n ∷ []) ++ new.0) <ℤ tree.bound (prefix ++ old.0 ∷ old.1)) ⊎ (tree.bound (prefix ++ old.0 ∷ old.1) ≤ℤ tree.bound ((prefix ++ n ∷ []) ++ new.0)) → BestBelow prefix (suc n)
      compared (inl lt) = inl (n, new.0, taken prefix n old.0 old.1 new.0 old.2 new.1 lt)
      compared (inr le) = inl (
        old.0,
        old.1,
        kept prefix n old.0 old.1 old.2 (λ other whole.
            let low = new.1.least other (subst (IsWhole tree) (sym (moved prefix n other)) whole) in
            let same = ap tree.bound (moved prefix n other) in
            omega (arith, ints, low, same, le)),
      )

  -- from the choices to the prefix
  at_prefix : (prefix : List ℕ) → length prefix < tree.slots → BestBelow prefix tree.choices → Best prefix
  at_prefix prefix room (inr none) = inr at
    where
      at : NoneAt prefix
      at [] whole = let is = whole.full in let all = ap (λ (l : List ℕ). length l) (append-nil prefix) in absurd (omega (arith, all))
      at (k ∷ rest) whole = none k rest (listed prefix rest k whole.valid) whole
  at_prefix prefix room (inl best) = inl (best.0 ∷ best.1, record { whole = best.2.whole; least = least; first = first })
    where
      least : (other : List ℕ) → IsWhole tree (prefix ++ other) → tree.bound (prefix ++ best.0 ∷ best.1) ≤ℤ tree.bound (prefix ++ other)
      least [] whole = let is = whole.full in let all = ap (λ (l : List ℕ). length l) (append-nil prefix) in absurd (omega (arith, all))
      least (k ∷ rest) whole = best.2.least k rest (listed prefix rest k whole.valid) whole

      first : (other : List ℕ) → IsWhole tree (prefix ++ other) → tree.bound (prefix ++ other) ≡ tree.bound (prefix ++ best.0 ∷ best.1) → InOrder (best.0 ∷ best.1) other
      first [] whole same = let is = whole.full in let all = ap (λ (l : List ℕ). length l) (append-nil prefix) in absurd (omega (arith, all))
      first (k ∷ rest) whole same = best.2.first k rest (listed prefix rest k whole.valid) whole same

  below : (n : ℕ) (prefix : List ℕ) → ((k : ℕ) → Best (prefix ++ k ∷ [])) → BestBelow prefix n
  below zero prefix each = inr (λ k rest lt whole. absurd (omega arith))
  below (suc n) prefix each = one_more prefix n (below n prefix each) (each n)

  best : (left : ℕ) (prefix : List ℕ) → length prefix + left ≡ tree.slots → Best prefix
  best zero prefix full = at_end prefix (omega arith) (tree.valid prefix) refl
  best (suc left) prefix full = at_prefix prefix (omega arith) (below tree.choices prefix (λ k. best left (prefix ++ k ∷ []) (let all = length-append prefix (k ∷ []) in omega (arith, all))))

  pub chosen : ((list : List ℕ) × IsChoice tree list) ⊎ IsEmpty tree
  chosen = from (best tree.slots [] (omega arith))
    where
      from : Best [] → ((list : List ℕ) × IsChoice tree list) ⊎ IsEmpty tree
      from (inl is) = inl (is.0, record { whole = is.1.whole; least = is.1.least; first = is.1.first })
      from (inr none) = inr none
