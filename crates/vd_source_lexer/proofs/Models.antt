-- Whole texts and beginnings of texts, over a list of parts, both are models.
use Rattle.std.proofs.Common.{◌≡◌, ℕ, Bool, true, false, List, [], ◌∷◌, ◌++◌, ◌⊎◌, inl, inr, refl, sym, ◌∙◌, subst, true≢false, eq-eqb}
use Rattle.std.proofs.lemmas.Bool.{and_parts, or_cases, or_left, or_right, and_from}
use Rattle.vd_source_lexer.specs.Grammar.{Ebnf, Tok, Sym, Eps, Seq, Alt, Star, Derives, d-tok, d-sym, d-eps, d-seq, d-left, d-right, d-stop, d-more, Begins, b-none, b-tok, b-sym, b-first, b-next, b-left, b-right, b-one, b-more, Spells, Starts, NothingLeft}
use Rattle.vd_source_lexer.specs.Machine.{has, nullable, first, Tables}
use Rattle.vd_source_lexer.proofs.Exact.{has-left, has-right, kept-has, Model}

-- the list begins with a token of these
abbrev pub Headed : List ℕ → List ℕ → Type 0
Headed fs [] = ⊥
Headed fs (t ∷ us) = has t fs ≡ true

pub headed_left : (xs ys us : List ℕ) → Headed xs us → Headed (xs ++ ys) us
headed_left xs ys [] h = h
headed_left xs ys (t ∷ us) h = has-left t xs ys h

pub headed_right : (xs ys us : List ℕ) → Headed ys us → Headed (xs ++ ys) us
headed_right xs ys [] h = h
headed_right xs ys (t ∷ us) h = has-right t xs ys h

pub headed_kept : (b : Bool) (xs us : List ℕ) → b ≡ true → Headed xs us → Headed (elim b [ true ↦ xs | false ↦ [] ]) us
headed_kept b xs [] e h = h
headed_kept b xs (t ∷ us) e h = kept-has t b xs e h

pub has_itself : (c : ℕ) → has c (c ∷ []) ≡ true
has_itself c = or_left _ false (eq-eqb c c refl)

module _ (S : Type 0) (rule : S → Ebnf S) (F E : S → List ℕ) (tables : Tables S rule F E) where
  -- a whole text is empty, or begins with a token of the part's
  pub derives_head : {e : Ebnf S} {us rest : List ℕ} → Derives S rule e us rest → ((nullable e ≡ true) × (us ≡ rest)) ⊎ Headed (first F e) us
  derives_head (d-tok {c = c} {ts = ts}) = inr (has_itself c)
  derives_head (d-sym {s = s} {ts = ts} g) = elim (derives_head g) [
    | inl x ↦ absurd (true≢false (sym x.0 ∙ tables.nonempty s))
    | inr x ↦ inr (subst (λ fs. Headed fs ts) (tables.firsts s) x)
  ]
  derives_head d-eps = inl (refl, refl)
  derives_head (d-seq {a = a} {b = b} {ts = ts} g h) = elim (derives_head g) [
    | inl x ↦ elim (derives_head h) [
      | inl y ↦ inl (and_from (nullable a) (nullable b) x.0 y.0, x.1 ∙ y.1)
      | inr y ↦ inr (headed_right (first F a) _ ts (headed_kept (nullable a) (first F b) ts x.0 (subst (Headed (first F b)) (sym x.1) y)))
    ]
    | inr x ↦ inr (headed_left (first F a) _ ts x)
  ]
  derives_head (d-left {a = a} {b = b} {ts = ts} g) = elim (derives_head g) [
    | inl x ↦ inl (or_left (nullable a) (nullable b) x.0, x.1)
    | inr x ↦ inr (headed_left (first F a) _ ts x)
  ]
  derives_head (d-right {a = a} {b = b} {ts = ts} g) = elim (derives_head g) [
    | inl x ↦ inl (or_right (nullable a) (nullable b) x.0, x.1)
    | inr x ↦ inr (headed_right (first F a) _ ts x)
  ]
  derives_head d-stop = inl (refl, refl)
  derives_head (d-more {a = a} g h) = elim (derives_head g) [
    | inl x ↦ elim (derives_head h) [
      | inl y ↦ inl (refl, x.1 ∙ y.1)
      | inr y ↦ inr (subst (Headed (first F a)) (sym x.1) y)
    ]
    | inr x ↦ inr x
  ]

  begins_head : {e : Ebnf S} {us : List ℕ} → Begins S rule e us → NothingLeft us ⊎ Headed (first F e) us
  begins_head b-none = inl tt
  begins_head (b-tok {c = c}) = inr (has_itself c)
  begins_head (b-sym {s = s} {ts = ts} g) = elim (begins_head g) [
    | inl x ↦ inl x
    | inr x ↦ inr (subst (λ fs. Headed fs ts) (tables.firsts s) x)
  ]
  begins_head (b-first {a = a} {b = b} {ts = ts} g) = elim (begins_head g) [
    | inl x ↦ inl x
    | inr x ↦ inr (headed_left (first F a) _ ts x)
  ]
  begins_head (b-next {a = a} {b = b} {ts = ts} g h) = elim (derives_head g) [
    | inl x ↦ elim (begins_head h) [
      | inl y ↦ inl (subst NothingLeft (sym x.1) y)
      | inr y ↦ inr (headed_right (first F a) _ ts (headed_kept (nullable a) (first F b) ts x.0 (subst (Headed (first F b)) (sym x.1) y)))
    ]
    | inr x ↦ inr (headed_left (first F a) _ ts x)
  ]
  begins_head (b-left {a = a} {b = b} {ts = ts} g) = elim (begins_head g) [
    | inl x ↦ inl x
    | inr x ↦ inr (headed_left (first F a) _ ts x)
  ]
  begins_head (b-right {a = a} {b = b} {ts = ts} g) = elim (begins_head g) [
    | inl x ↦ inl x
    | inr x ↦ inr (headed_right (first F a) _ ts x)
  ]
  begins_head (b-one g) = begins_head g
  begins_head (b-more {a = a} g h) = elim (derives_head g) [
    | inl x ↦ elim (begins_head h) [
      | inl y ↦ inl (subst NothingLeft (sym x.1) y)
      | inr y ↦ inr (subst (Headed (first F a)) (sym x.1) y)
    ]
    | inr x ↦ inr x
  ]

  pub nullable_derives : (e : Ebnf S) (us : List ℕ) → nullable e ≡ true → Derives S rule e us us
  nullable_derives (Tok c) us n = absurd (true≢false (sym n))
  nullable_derives (Sym s) us n = absurd (true≢false (sym n))
  nullable_derives Eps us n = d-eps
  nullable_derives (Seq a b) us n = let p = and_parts (nullable a) (nullable b) n in d-seq (nullable_derives a us p.0) (nullable_derives b us p.1)
  nullable_derives (Alt a b) us n = elim (or_cases (nullable a) (nullable b) n) [ inl x ↦ d-left (nullable_derives a us x) | inr x ↦ d-right (nullable_derives b us x) ]
  nullable_derives (Star a) us n = d-stop

  tok_inv : {c t : ℕ} {us rest : List ℕ} → Derives S rule (Tok c) (t ∷ us) rest → us ≡ rest
  tok_inv d-tok = refl

  sym_inv : {s : S} {us rest : List ℕ} → Derives S rule (Sym s) us rest → Derives S rule (rule s) us rest
  sym_inv (d-sym g) = g

  seq_inv : {a b : Ebnf S} {us rest : List ℕ} → Derives S rule (Seq a b) us rest → (mid : List ℕ) × Derives S rule a us mid × Derives S rule b mid rest
  seq_inv (d-seq {mid = m} g h) = (m, g, h)

  alt_inv : {a b : Ebnf S} {us rest : List ℕ} → Derives S rule (Alt a b) us rest → Derives S rule a us rest ⊎ Derives S rule b us rest
  alt_inv (d-left g) = inl g
  alt_inv (d-right g) = inr g

  star_inv : {a : Ebnf S} {us rest : List ℕ} → Derives S rule (Star a) us rest → (us ≡ rest) ⊎ ((mid : List ℕ) × Derives S rule a us mid × Derives S rule (Star a) mid rest)
  star_inv d-stop = inl refl
  star_inv (d-more {mid = m} g h) = inr (m, g, h)

  pub spells_model : Model S rule F (Spells S rule)
  spells_model = record {
    nothing = λ t us q. q;
    tok_to = λ c t us ks q. subst (Spells S rule ks) (sym (tok_inv q.1)) q.2;
    tok_from = λ c us ks q. (us, d-tok, q);
    sym_to = λ s us ks q. (q.0, sym_inv q.1, q.2);
    sym_from = λ s us ks q. (q.0, d-sym q.1, q.2);
    seq_to = λ a b us ks q. (let p = seq_inv q.1 in (p.0, p.1, (q.0, p.2, q.2)));
    seq_from = λ a b us ks q. (q.2.0, d-seq q.1 q.2.1, q.2.2);
    alt_to = λ a b us ks q. elim (alt_inv q.1) [ inl g ↦ inl (q.0, g, q.2) | inr g ↦ inr (q.0, g, q.2) ];
    left_from = λ a b us ks q. (q.0, d-left q.1, q.2);
    right_from = λ a b us ks q. (q.0, d-right q.1, q.2);
    star_to = λ a us ks q. elim (star_inv q.1) [ inl e ↦ inr (subst (Spells S rule ks) (sym e) q.2) | inr p ↦ inl (p.0, p.1, (q.0, p.2, q.2)) ];
    star_from = λ a us ks q. (q.2.0, d-more q.1 q.2.1, q.2.2);
    skip = λ e us ks n q. (us, nullable_derives e us n, q);
    head = λ e t us ks q. elim (derives_head q.1) [ inl x ↦ inr (x.0, subst (Spells S rule ks) (sym x.1) q.2) | inr x ↦ inl x ];
  }

  b-tok_inv : {c t : ℕ} {us : List ℕ} → Begins S rule (Tok c) (t ∷ us) → us ≡ []
  b-tok_inv b-tok = refl

  b-sym_inv : {s : S} {us : List ℕ} → Begins S rule (Sym s) us → Begins S rule (rule s) us
  b-sym_inv b-none = b-none
  b-sym_inv (b-sym g) = g

  b-seq_inv : {a b : Ebnf S} {us : List ℕ} → Begins S rule (Seq a b) us → Begins S rule a us ⊎ ((mid : List ℕ) × Derives S rule a us mid × Begins S rule b mid)
  b-seq_inv b-none = inl b-none
  b-seq_inv (b-first g) = inl g
  b-seq_inv (b-next {mid = m} g h) = inr (m, g, h)

  b-alt_inv : {a b : Ebnf S} {us : List ℕ} → Begins S rule (Alt a b) us → Begins S rule a us ⊎ Begins S rule b us
  b-alt_inv b-none = inl b-none
  b-alt_inv (b-left g) = inl g
  b-alt_inv (b-right g) = inr g

  b-star_inv : {a : Ebnf S} {us : List ℕ} → Begins S rule (Star a) us → Begins S rule a us ⊎ ((mid : List ℕ) × Derives S rule a us mid × Begins S rule (Star a) mid)
  b-star_inv b-none = inl b-none
  b-star_inv (b-one g) = inl g
  b-star_inv (b-more {mid = m} g h) = inr (m, g, h)

  pub starts_none : (ks : List (Ebnf S)) → Starts S rule ks []
  starts_none [] = tt
  starts_none (k ∷ ks) = inl b-none

  pub starts_model : Model S rule F (Starts S rule)
  starts_model = record {
    nothing = λ t us q. q;
    tok_to = λ c t us ks q. elim q [
      | inl g ↦ subst (Starts S rule ks) (sym (b-tok_inv g)) (starts_none ks)
      | inr p ↦ subst (Starts S rule ks) (sym (tok_inv p.1)) p.2
    ];
    tok_from = λ c us ks q. inr (us, d-tok, q);
    sym_to = λ s us ks q. elim q [ inl g ↦ inl (b-sym_inv g) | inr p ↦ inr (p.0, sym_inv p.1, p.2) ];
    sym_from = λ s us ks q. elim q [ inl g ↦ inl (b-sym g) | inr p ↦ inr (p.0, d-sym p.1, p.2) ];
    seq_to = λ a b us ks q. elim q [
      | inl g ↦ elim (b-seq_inv g) [ inl x ↦ inl x | inr x ↦ inr (x.0, x.1, inl x.2) ]
      | inr p ↦ (let x = seq_inv p.1 in inr (x.0, x.1, inr (p.0, x.2, p.2)))
    ];
    seq_from = λ a b us ks q. elim q [
      | inl g ↦ inl (b-first g)
      | inr p ↦ elim p.2 [ inl g ↦ inl (b-next p.1 g) | inr r ↦ inr (r.0, d-seq p.1 r.1, r.2) ]
    ];
    alt_to = λ a b us ks q. elim q [
      | inl g ↦ elim (b-alt_inv g) [ inl x ↦ inl (inl x) | inr x ↦ inr (inl x) ]
      | inr p ↦ elim (alt_inv p.1) [ inl x ↦ inl (inr (p.0, x, p.2)) | inr x ↦ inr (inr (p.0, x, p.2)) ]
    ];
    left_from = λ a b us ks q. elim q [ inl g ↦ inl (b-left g) | inr p ↦ inr (p.0, d-left p.1, p.2) ];
    right_from = λ a b us ks q. elim q [ inl g ↦ inl (b-right g) | inr p ↦ inr (p.0, d-right p.1, p.2) ];
    star_to = λ a us ks q. elim q [
      | inl g ↦ elim (b-star_inv g) [ inl x ↦ inl (inl x) | inr x ↦ inl (inr (x.0, x.1, inl x.2)) ]
      | inr p ↦ elim (star_inv p.1) [ inl e ↦ inr (subst (Starts S rule ks) (sym e) p.2) | inr x ↦ inl (inr (x.0, x.1, inr (p.0, x.2, p.2))) ]
    ];
    star_from = λ a us ks q. elim q [
      | inl g ↦ inl (b-one g)
      | inr p ↦ elim p.2 [ inl g ↦ inl (b-more p.1 g) | inr r ↦ inr (r.0, d-more p.1 r.1, r.2) ]
    ];
    skip = λ e us ks n q. inr (us, nullable_derives e us n, q);
    head = λ e t us ks q. elim q [
      | inl g ↦ elim (begins_head g) [ inl x ↦ absurd x | inr x ↦ inl x ]
      | inr p ↦ elim (derives_head p.1) [ inl x ↦ inr (x.0, subst (Starts S rule ks) (sym x.1) p.2) | inr x ↦ inl x ]
    ];
  }
