-- A text has one tree.
use Rattle.std.proofs.Common.{◌≡◌, ℕ, true, false, ◌&&◌, List, [], ◌∷◌, ◌++◌, map, ◌⊎◌, inl, inr, refl, sym, ap, ◌∙◌, subst, true≢false}
use Rattle.std.proofs.lemmas.Bool.{and_parts, and_from, both_ways, not-true, or_left, or_right}
use Rattle.vd_source_lexer.specs.Grammar.{Ebnf, Tok, Sym, Eps, Seq, Alt, Star, Derives, d-tok, d-sym, d-eps, d-seq, d-left, d-right, d-stop, d-more, Spells}
use Rattle.vd_source_lexer.specs.Machine.{has, nullable, first, follow_last, Tables, firsts_of}
use Rattle.vd_source_lexer.specs.Trees.{Tree, Leaf, Both, First, Second, Empty, Makes, m-tok, m-sym, m-eps, m-seq, m-left, m-right, m-stop, m-more, one_empty}
use Rattle.vd_source_lexer.proofs.Exact.{Apart, Fine, heads, fine_rule, fine_seq, fine_left, fine_right, fine_star}
use Rattle.vd_source_lexer.proofs.Models.{Headed, headed_left, headed_right, headed_kept, has_itself, spells_model}

module _ (S T : Type 0) (rule : S → Ebnf S) (kind : T → ℕ) where
  pub makes_derives : {e : Ebnf S} {ts rest : List T} {x : Tree T} → Makes S T rule kind e ts rest x → Derives S rule e (map kind ts) (map kind rest)
  makes_derives (m-tok {t = t} {ts = ts} e) = subst (λ c. Derives S rule (Tok c) (kind t ∷ map kind ts) (map kind ts)) e d-tok
  makes_derives (m-sym g) = d-sym (makes_derives g)
  makes_derives m-eps = d-eps
  makes_derives (m-seq g h) = d-seq (makes_derives g) (makes_derives h)
  makes_derives (m-left g) = d-left (makes_derives g)
  makes_derives (m-right g) = d-right (makes_derives g)
  makes_derives m-stop = d-stop
  makes_derives (m-more g h) = d-more (makes_derives g) (makes_derives h)

  -- an empty text, or one that begins with a token of the part's
  pub record Same (rest rest' : List T) (x x' : Tree T) : Type 0 where
    pub rests : rest ≡ rest'
    pub trees : x ≡ x'

  module _ (F E : S → List ℕ) (tables : Tables S rule F E) (ones : (s : S) → one_empty (rule s) ≡ true) where
    -- where the text isn't empty, the next token is of the part's; and so it is where the text ends, for what comes after
    abbrev Empties : Ebnf S → List T → List T → Type 0
    Empties e ts rest = (nullable e ≡ true) × (ts ≡ rest)

    makes_head : {e : Ebnf S} {ts rest : List T} {x : Tree T} → Makes S T rule kind e ts rest x → Empties e ts rest ⊎ Headed (first F e) (map kind ts)
    makes_head (m-tok {c = c} {t = t} e) = inr (subst (λ k. has k (c ∷ []) ≡ true) (sym e) (has_itself c))
    makes_head (m-sym {s = s} {ts = ts} g) = elim (makes_head g) [
      | inl x ↦ absurd (true≢false (sym x.0 ∙ tables.nonempty s))
      | inr x ↦ inr (subst (λ fs. Headed fs (map kind ts)) (tables.firsts s) x)
    ]
    makes_head m-eps = inl (refl, refl)
    makes_head (m-seq {a = a} {b = b} {ts = ts} g h) = elim (makes_head g) [
      | inl x ↦ elim (makes_head h) [
        | inl y ↦ inl (and_from (nullable a) (nullable b) x.0 y.0, x.1 ∙ y.1)
        | inr y ↦ inr (headed_right (first F a) _ (map kind ts) (headed_kept (nullable a) (first F b) (map kind ts) x.0 (subst (λ us. Headed (first F b) (map kind us)) (sym x.1) y)))
      ]
      | inr x ↦ inr (headed_left (first F a) _ (map kind ts) x)
    ]
    makes_head (m-left {a = a} {b = b} {ts = ts} g) = elim (makes_head g) [
      | inl x ↦ inl (or_left (nullable a) (nullable b) x.0, x.1)
      | inr x ↦ inr (headed_left (first F a) _ (map kind ts) x)
    ]
    makes_head (m-right {a = a} {b = b} {ts = ts} g) = elim (makes_head g) [
      | inl x ↦ inl (or_right (nullable a) (nullable b) x.0, x.1)
      | inr x ↦ inr (headed_right (first F a) _ (map kind ts) x)
    ]
    makes_head m-stop = inl (refl, refl)
    makes_head (m-more {a = a} g h) = elim (makes_head g) [
      | inl x ↦ elim (makes_head h) [
        | inl y ↦ inl (refl, x.1 ∙ y.1)
        | inr y ↦ inr (subst (λ us. Headed (first F a) (map kind us)) (sym x.1) y)
      ]
      | inr x ↦ inr x
    ]

    clash : (xs ys us : List ℕ) → Apart xs ys → Headed xs us → Headed ys us → ⊥
    clash xs ys [] p h k = h
    clash xs ys (t ∷ us) p h k = p t h k

    spelled_head : (xs : List ℕ) (ks : List (Ebnf S)) (us : List ℕ) → Headed xs us → Spells S rule ks us → Headed (firsts_of F ks) us
    spelled_head xs ks [] h q = absurd h
    spelled_head xs ks (t ∷ us) h q = heads S rule F E tables (Spells S rule) (spells_model S rule F E tables) t us ks q

    abbrev After : List (Ebnf S) → List T → Type 0
    After ks ts = Spells S rule ks (map kind ts)

    inv_tok : {c : ℕ} {t : T} {ts m : List T} {x : Tree T} → Makes S T rule kind (Tok c) (t ∷ ts) m x → Same ts m (Leaf t) x
    inv_tok (m-tok e) = record { rests = refl; trees = refl }

    inv_sym : {s : S} {ts m : List T} {x : Tree T} → Makes S T rule kind (Sym s) ts m x → Makes S T rule kind (rule s) ts m x
    inv_sym (m-sym g) = g

    inv_eps : {ts m : List T} {x : Tree T} → Makes S T rule kind Eps ts m x → Same ts m Empty x
    inv_eps m-eps = record { rests = refl; trees = refl }

    inv_seq : {a b : Ebnf S} {ts m : List T} {x : Tree T} → Makes S T rule kind (Seq a b) ts m x → (mid : List T) × (y : Tree T) × (z : Tree T) × Makes S T rule kind a ts mid y × Makes S T rule kind b mid m z × (Both y z ≡ x)
    inv_seq (m-seq {mid = mid} {x = y} {y = z} g h) = (mid, y, z, g, h, refl)

    inv_alt : {a b : Ebnf S} {ts m : List T} {x : Tree T} → Makes S T rule kind (Alt a b) ts m x → ((y : Tree T) × Makes S T rule kind a ts m y × (First y ≡ x)) ⊎ ((y : Tree T) × Makes S T rule kind b ts m y × (Second y ≡ x))
    inv_alt (m-left {x = y} g) = inl (y, g, refl)
    inv_alt (m-right {x = y} g) = inr (y, g, refl)

    inv_star : {a : Ebnf S} {ts m : List T} {x : Tree T} → Makes S T rule kind (Star a) ts m x → Same ts m Empty x ⊎ ((mid : List T) × (y : Tree T) × (z : Tree T) × Makes S T rule kind a ts mid y × Makes S T rule kind (Star a) mid m z × (Both y z ≡ x))
    inv_star m-stop = inl (record { rests = refl; trees = refl })
    inv_star (m-more {mid = mid} {x = y} {y = z} g h) = inr (mid, y, z, g, h, refl)

    -- one part's texts of one list both ways
    not_both : (a b : Ebnf S) (ks : List (Ebnf S)) (ts m m' : List T) (x y : Tree T) → Fine S F E (Alt a b ∷ ks) → (nullable a && nullable b) ≡ false → Makes S T rule kind a ts m x → After ks m → Makes S T rule kind b ts m' y → After ks m' → ⊥
    not_both a b ks ts m m' x y f o g p h q = elim (makes_head g) [
      | inl u ↦ elim (makes_head h) [
        | inl v ↦ both_ways _ o (and_from (nullable a) (nullable b) u.0 v.0)
        | inr v ↦ clash (follow_last F E (Alt a b)) (firsts_of F ks) (map kind ts) f.1
            (headed_right (follow_last F E a ++ follow_last F E b) _ (map kind ts) (headed_left (elim (nullable a) [ true ↦ first F b | false ↦ [] ]) _ (map kind ts) (headed_kept (nullable a) (first F b) (map kind ts) u.0 v)))
            (spelled_head (first F b) ks (map kind ts) v (subst (After ks) (sym u.1) p))
      ]
      | inr u ↦ elim (makes_head h) [
        | inl v ↦ clash (follow_last F E (Alt a b)) (firsts_of F ks) (map kind ts) f.1
            (headed_right (follow_last F E a ++ follow_last F E b) _ (map kind ts) (headed_right (elim (nullable a) [ true ↦ first F b | false ↦ [] ]) _ (map kind ts) (headed_kept (nullable b) (first F a) (map kind ts) v.0 u)))
            (spelled_head (first F a) ks (map kind ts) u (subst (After ks) (sym v.1) q))
        | inr v ↦ clash (first F a) (first F b) (map kind ts) f.0.2 u v
      ]
    ]

    -- a repetition doesn't both d-stop and go on
    not_more : (a : Ebnf S) (ks : List (Ebnf S)) (ts mid : List T) (x : Tree T) → Fine S F E (Star a ∷ ks) → nullable a ≡ false → After ks ts → Makes S T rule kind a ts mid x → ⊥
    not_more a ks ts mid x f o q g = elim (makes_head g) [
      | inl u ↦ both_ways _ o u.0
      | inr u ↦ clash (follow_last F E (Star a)) (firsts_of F ks) (map kind ts) f.1 (headed_left (first F a) _ (map kind ts) u) (spelled_head (first F a) ks (map kind ts) u q)
    ]

    pub one_tree : {e : Ebnf S} {ts m : List T} {x : Tree T} → Makes S T rule kind e ts m x → (m' : List T) (x' : Tree T) (ks : List (Ebnf S)) → Makes S T rule kind e ts m' x' → Fine S F E (e ∷ ks) → one_empty e ≡ true → After ks m → After ks m' → Same m m' x x'
    one_tree (m-tok e) m' x' ks g f o p q = inv_tok g
    one_tree (m-sym {s = s} g) m' x' ks g' f o p q = one_tree g m' x' ks (inv_sym g') (fine_rule S rule F E tables (Spells S rule) (spells_model S rule F E tables) s ks f) (ones s) p q
    one_tree m-eps m' x' ks g f o p q = inv_eps g
    one_tree (m-seq {a = a} {b = b} {mid = mid} {rest = m} {x = x} {y = y} g h) m' x' ks g' f o p q =
        let i = inv_seq g' in
        let fine = fine_seq S F E a b ks f in
        let os = and_parts (one_empty a) (one_empty b) o in
        let l = one_tree g i.0 i.1 (b ∷ ks) i.3 fine os.0 (map kind m, makes_derives h, p) (map kind m', makes_derives i.4, q) in
        let r = one_tree h m' i.2 ks (subst (λ w. Makes S T rule kind b w m' i.2) (sym l.rests) i.4) fine.2 os.1 p q in
        record { rests = r.rests; trees = ap (λ w. Both w y) l.trees ∙ ap (λ w. Both i.1 w) r.trees ∙ i.5 }
    one_tree (m-left {a = a} {b = b} {ts = ts} {rest = m} {x = x} g) m' x' ks g' f o p q =
        let os = and_parts (one_empty a && one_empty b) _ o in
        elim (inv_alt g') [
          | inl i ↦ (let l = one_tree g m' i.0 ks i.1 (fine_left S F E a b ks f) (and_parts (one_empty a) (one_empty b) os.0).0 p q in record { rests = l.rests; trees = ap First l.trees ∙ i.2 })
          | inr i ↦ absurd (not_both a b ks ts m m' x i.0 f (not-true _ os.1) g p i.1 q)
        ]
    one_tree (m-right {a = a} {b = b} {ts = ts} {rest = m} {x = x} g) m' x' ks g' f o p q =
        let os = and_parts (one_empty a && one_empty b) _ o in
        elim (inv_alt g') [
          | inl i ↦ absurd (not_both a b ks ts m' m i.0 x f (not-true _ os.1) i.1 q g p)
          | inr i ↦ (let l = one_tree g m' i.0 ks i.1 (fine_right S F E a b ks f) (and_parts (one_empty a) (one_empty b) os.0).1 p q in record { rests = l.rests; trees = ap Second l.trees ∙ i.2 })
        ]
    one_tree (m-stop {a = a} {ts = ts}) m' x' ks g' f o p q =
        let os = and_parts (one_empty a) _ o in
        elim (inv_star g') [
          | inl s ↦ s
          | inr i ↦ absurd (not_more a ks ts i.0 i.1 f (not-true _ os.1) p i.3)
        ]
    one_tree (m-more {a = a} {ts = ts} {mid = mid} {rest = m} {x = x} {y = y} g h) m' x' ks g' f o p q =
        let os = and_parts (one_empty a) _ o in
        let fine = fine_star S F E a ks f in
        elim (inv_star g') [
          | inl s ↦ absurd (not_more a ks ts mid x f (not-true _ os.1) (subst (After ks) (sym s.rests) q) g)
          | inr i ↦ (
              let l = one_tree g i.0 i.1 (Star a ∷ ks) i.3 fine os.0 (map kind m, makes_derives h, p) (map kind m', makes_derives i.4, q) in
              let r = one_tree h m' i.2 ks (subst (λ w. Makes S T rule kind (Star a) w m' i.2) (sym l.rests) i.4) f o p q in
              record { rests = r.rests; trees = ap (λ w. Both w y) l.trees ∙ ap (λ w. Both i.1 w) r.trees ∙ i.5 })
        ]
