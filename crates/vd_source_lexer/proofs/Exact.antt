-- One step of the machine is exact: the tokens t and us spell, or begin, what is to come just where us do so after the step.
use Rattle.std.proofs.Common.{◌≡◌, ℕ, zero, suc, Bool, true, false, ◌&&◌, not, List, [], ◌∷◌, ◌++◌, ◌⊎◌, inl, inr, Option, Some, None, nat_eq, refl, sym, subst, true≢false, eqb-true}
use Rattle.std.proofs.lemmas.Bool.{and_parts, or_cases, or_left, or_right, not-true, both_ways}
use Rattle.vd_source_lexer.specs.Grammar.{Ebnf, Tok, Sym, Eps, Seq, Alt, Star}
use Rattle.vd_source_lexer.specs.Machine.{has, apart, nullable, first, follow_last, is_ll1, after, enter, step, Tables, firsts_of, are_ll1}

pub has-left : (t : ℕ) (xs ys : List ℕ) → has t xs ≡ true → has t (xs ++ ys) ≡ true
has-left t [] ys h = absurd (true≢false (sym h))
has-left t (x ∷ xs) ys h = elim (or_cases (nat_eq t x) _ h) [
  | inl e ↦ or_left (nat_eq t x) _ e
  | inr e ↦ or_right (nat_eq t x) _ (has-left t xs ys e)
]

pub has-right : (t : ℕ) (xs ys : List ℕ) → has t ys ≡ true → has t (xs ++ ys) ≡ true
has-right t [] ys h = h
has-right t (x ∷ xs) ys h = or_right (nat_eq t x) _ (has-right t xs ys h)

pub has-cases : (t : ℕ) (xs ys : List ℕ) → has t (xs ++ ys) ≡ true → (has t xs ≡ true) ⊎ (has t ys ≡ true)
has-cases t [] ys h = inr h
has-cases t (x ∷ xs) ys h = elim (or_cases (nat_eq t x) _ h) [
  | inl e ↦ inl (or_left (nat_eq t x) _ e)
  | inr e ↦ elim (has-cases t xs ys e) [ inl a ↦ inl (or_right (nat_eq t x) _ a) | inr b ↦ inr b ]
]

pub has-kept : (t : ℕ) (b : Bool) (xs : List ℕ) → has t (elim b [ true ↦ xs | false ↦ [] ]) ≡ true → (b ≡ true) × (has t xs ≡ true)
has-kept t true xs h = (refl, h)
has-kept t false xs h = absurd (true≢false (sym h))

pub kept-has : (t : ℕ) (b : Bool) (xs : List ℕ) → b ≡ true → has t xs ≡ true → has t (elim b [ true ↦ xs | false ↦ [] ]) ≡ true
kept-has t true xs e h = h
kept-has t false xs e h = absurd (true≢false (sym e))

pub chosen : {X : Type 0} (b : Bool) (x y z : X) → (elim b [ true ↦ x | false ↦ y ]) ≡ z → ((b ≡ true) × (x ≡ z)) ⊎ ((b ≡ false) × (y ≡ z))
chosen true x y z e = inl (refl, e)
chosen false x y z e = inr (refl, e)

abbrev pub Apart : List ℕ → List ℕ → Type 0
Apart xs ys = (t : ℕ) → has t xs ≡ true → has t ys ≡ true → ⊥

apart-apart : (xs ys : List ℕ) → apart xs ys ≡ true → Apart xs ys
apart-apart [] ys h t p q = true≢false (sym p)
apart-apart (x ∷ xs) ys h t p q =
    let parts = and_parts (not (has x ys)) _ h in
    elim (or_cases (nat_eq t x) _ p) [
      | inl e ↦ both_ways (has x ys) (not-true (has x ys) parts.0) (subst (λ n. has n ys ≡ true) (eqb-true t x e) q)
      | inr e ↦ apart-apart xs ys parts.1 t e q
    ]

module _ (S : Type 0) (F E : S → List ℕ) where
  abbrev pub Ok : Ebnf S → Type 0
  Ok (Tok c) = Unit {0}
  Ok (Sym s) = Unit {0}
  Ok Eps = Unit {0}
  Ok (Seq a b) = Ok a × Ok b × Apart (follow_last F E a) (first F b)
  Ok (Alt a b) = Ok a × Ok b × Apart (first F a) (first F b)
  Ok (Star a) = Ok a × Apart (follow_last F E a) (first F a)

  pub is_ll1-Ok : (e : Ebnf S) → is_ll1 F E e ≡ true → Ok e
  is_ll1-Ok (Tok c) h = tt
  is_ll1-Ok (Sym s) h = tt
  is_ll1-Ok Eps h = tt
  is_ll1-Ok (Seq a b) h =
      let p = and_parts (is_ll1 F E a && is_ll1 F E b) _ h in
      let q = and_parts (is_ll1 F E a) (is_ll1 F E b) p.0 in
      (is_ll1-Ok a q.0, is_ll1-Ok b q.1, apart-apart (follow_last F E a) (first F b) p.1)
  is_ll1-Ok (Alt a b) h =
      let p = and_parts (is_ll1 F E a && is_ll1 F E b) _ h in
      let q = and_parts (is_ll1 F E a) (is_ll1 F E b) p.0 in
      (is_ll1-Ok a q.0, is_ll1-Ok b q.1, apart-apart (first F a) (first F b) p.1)
  is_ll1-Ok (Star a) h =
      let p = and_parts (is_ll1 F E a) _ h in
      (is_ll1-Ok a p.0, apart-apart (follow_last F E a) (first F a) p.1)

  abbrev pub Fine : List (Ebnf S) → Type 0
  Fine [] = Unit {0}
  Fine (k ∷ ks) = Ok k × Apart (follow_last F E k) (firsts_of F ks) × Fine ks

  -- the computed test says so
  pub are_ll1-Fine : (ks : List (Ebnf S)) → are_ll1 F E ks ≡ true → Fine ks
  are_ll1-Fine [] h = tt
  are_ll1-Fine (k ∷ ks) h =
      let p = and_parts (is_ll1 F E k) _ h in
      let q = and_parts (apart (follow_last F E k) (firsts_of F ks)) _ p.1 in
      (is_ll1-Ok k p.0, apart-apart _ _ q.0, are_ll1-Fine ks q.1)

  pub fine_seq : (a b : Ebnf S) (ks : List (Ebnf S)) → Fine (Seq a b ∷ ks) → Fine (a ∷ b ∷ ks)
  fine_seq a b ks f = (
    f.0.0,
    (λ t p q. elim (has-cases t (first F b) _ q) [
      | inl x ↦ f.0.2 t p x
      | inr y ↦ (let r = has-kept t (nullable b) (firsts_of F ks) y in f.1 t (has-right t (follow_last F E b) _ (kept-has t (nullable b) (follow_last F E a) r.0 p)) r.1)
    ]),
    (f.0.1, (λ t p q. f.1 t (has-left t (follow_last F E b) _ p) q), f.2),
  )

  pub fine_left : (a b : Ebnf S) (ks : List (Ebnf S)) → Fine (Alt a b ∷ ks) → Fine (a ∷ ks)
  fine_left a b ks f = (f.0.0, (λ t p q. f.1 t (has-left t (follow_last F E a ++ follow_last F E b) _ (has-left t (follow_last F E a) _ p)) q), f.2)

  pub fine_right : (a b : Ebnf S) (ks : List (Ebnf S)) → Fine (Alt a b ∷ ks) → Fine (b ∷ ks)
  fine_right a b ks f = (f.0.1, (λ t p q. f.1 t (has-left t (follow_last F E a ++ follow_last F E b) _ (has-right t (follow_last F E a) _ p)) q), f.2)

  pub fine_star : (a : Ebnf S) (ks : List (Ebnf S)) → Fine (Star a ∷ ks) → Fine (a ∷ Star a ∷ ks)
  fine_star a ks f = (
    f.0.0,
    (λ t p q. elim (has-cases t (first F a) _ q) [
      | inl x ↦ f.0.1 t p x
      | inr y ↦ f.1 t (has-right t (first F a) _ p) y
    ]),
    f,
  )

-- what both meanings of a list of parts have in common
pub record Model (S : Type 0) (rule : S → Ebnf S) (F : S → List ℕ) (Q : List (Ebnf S) → List ℕ → Type 0) : Type 0 where
  pub nothing : (t : ℕ) (us : List ℕ) → Q [] (t ∷ us) → ⊥
  pub tok_to : (c t : ℕ) (us : List ℕ) (ks : List (Ebnf S)) → Q (Tok c ∷ ks) (t ∷ us) → Q ks us
  pub tok_from : (c : ℕ) (us : List ℕ) (ks : List (Ebnf S)) → Q ks us → Q (Tok c ∷ ks) (c ∷ us)
  pub sym_to : (s : S) (us : List ℕ) (ks : List (Ebnf S)) → Q (Sym s ∷ ks) us → Q (rule s ∷ ks) us
  pub sym_from : (s : S) (us : List ℕ) (ks : List (Ebnf S)) → Q (rule s ∷ ks) us → Q (Sym s ∷ ks) us
  pub seq_to : (a b : Ebnf S) (us : List ℕ) (ks : List (Ebnf S)) → Q (Seq a b ∷ ks) us → Q (a ∷ b ∷ ks) us
  pub seq_from : (a b : Ebnf S) (us : List ℕ) (ks : List (Ebnf S)) → Q (a ∷ b ∷ ks) us → Q (Seq a b ∷ ks) us
  pub alt_to : (a b : Ebnf S) (us : List ℕ) (ks : List (Ebnf S)) → Q (Alt a b ∷ ks) us → Q (a ∷ ks) us ⊎ Q (b ∷ ks) us
  pub left_from : (a b : Ebnf S) (us : List ℕ) (ks : List (Ebnf S)) → Q (a ∷ ks) us → Q (Alt a b ∷ ks) us
  pub right_from : (a b : Ebnf S) (us : List ℕ) (ks : List (Ebnf S)) → Q (b ∷ ks) us → Q (Alt a b ∷ ks) us
  pub star_to : (a : Ebnf S) (us : List ℕ) (ks : List (Ebnf S)) → Q (Star a ∷ ks) us → Q (a ∷ Star a ∷ ks) us ⊎ Q ks us
  pub star_from : (a : Ebnf S) (us : List ℕ) (ks : List (Ebnf S)) → Q (a ∷ Star a ∷ ks) us → Q (Star a ∷ ks) us
  pub skip : (e : Ebnf S) (us : List ℕ) (ks : List (Ebnf S)) → nullable e ≡ true → Q ks us → Q (e ∷ ks) us
  pub head : (e : Ebnf S) (t : ℕ) (us : List ℕ) (ks : List (Ebnf S)) → Q (e ∷ ks) (t ∷ us) → (has t (first F e) ≡ true) ⊎ ((nullable e ≡ true) × Q ks (t ∷ us))

module _ (S : Type 0) (rule : S → Ebnf S) (F E : S → List ℕ) (tables : Tables S rule F E) (Q : List (Ebnf S) → List ℕ → Type 0) (model : Model S rule F Q) where
  pub heads : (t : ℕ) (us : List ℕ) (ks : List (Ebnf S)) → Q ks (t ∷ us) → has t (firsts_of F ks) ≡ true
  heads t us [] q = absurd (model.nothing t us q)
  heads t us (k ∷ ks) q = elim (model.head k t us ks q) [
    | inl h ↦ has-left t (first F k) _ h
    | inr h ↦ has-right t (first F k) _ (kept-has t (nullable k) (firsts_of F ks) h.0 (heads t us ks h.1))
  ]

  pub record Exact (t : ℕ) (us : List ℕ) (ks : List (Ebnf S)) (ks' : List (Ebnf S)) : Type 0 where
    pub to : Q ks (t ∷ us) → Q ks' us
    pub from : Q ks' us → Q ks (t ∷ us)
    pub fine : Fine S F E ks'

  -- the token isn't of the part, so the part's text is empty
  passed : (e : Ebnf S) (t : ℕ) (us : List ℕ) (ks : List (Ebnf S)) → has t (first F e) ≡ false → Q (e ∷ ks) (t ∷ us) → (nullable e ≡ true) × Q ks (t ∷ us)
  passed e t us ks n q = elim (model.head e t us ks q) [ inl h ↦ absurd (both_ways _ n h) | inr h ↦ h ]

  after_exact : (t : ℕ) (us : List ℕ) (inside : S → List (Ebnf S) → Option (List (Ebnf S))) →
      ((s : S) (ks ks' : List (Ebnf S)) → Fine S F E (Sym s ∷ ks) → has t (F s) ≡ true → inside s ks ≡ Some ks' → Exact t us (Sym s ∷ ks) ks') →
      (e : Ebnf S) (ks ks' : List (Ebnf S)) → Fine S F E (e ∷ ks) → has t (first F e) ≡ true → after F t inside e ks ≡ Some ks' → Exact t us (e ∷ ks) ks'
  after_exact t us inside good (Tok c) ks ks' f h e =
      let same : ks ≡ ks' = cc in
      let c_is : t ≡ c = elim (or_cases (nat_eq t c) false h) [ inl x ↦ eqb-true t c x | inr x ↦ absurd (true≢false (sym x)) ] in
      subst (λ k. Exact t us (Tok c ∷ ks) k) same (record {
        to = λ q. model.tok_to c t us ks q;
        from = λ q. subst (λ x. Q (Tok c ∷ ks) (x ∷ us)) (sym c_is) (model.tok_from c us ks q);
        fine = f.2;
      })
  after_exact t us inside good (Sym s) ks ks' f h e = good s ks ks' f h e
  after_exact t us inside good Eps ks ks' f h e = absurd (true≢false (sym h))
  after_exact t us inside good (Seq a b) ks ks' f h e =
      let fine = fine_seq S F E a b ks f in
      elim (chosen (has t (first F a)) (after F t inside a (b ∷ ks)) (after F t inside b ks) (Some ks') e) [
        | inl c ↦ (let x = after_exact t us inside good a (b ∷ ks) ks' fine c.0 c.1 in
            record {
              to = λ q. x.to (model.seq_to a b (t ∷ us) ks q);
              from = λ q. model.seq_from a b (t ∷ us) ks (x.from q);
              fine = x.fine;
            })
        | inr c ↦ (let k : (nullable a ≡ true) × (has t (first F b) ≡ true) = elim (has-cases t (first F a) _ h) [ inl y ↦ absurd (both_ways _ c.0 y) | inr y ↦ has-kept t (nullable a) (first F b) y ] in
            let x = after_exact t us inside good b ks ks' fine.2 k.1 c.1 in
            record {
              to = λ q. x.to (passed a t us (b ∷ ks) c.0 (model.seq_to a b (t ∷ us) ks q)).1;
              from = λ q. model.seq_from a b (t ∷ us) ks (model.skip a (t ∷ us) (b ∷ ks) k.0 (x.from q));
              fine = x.fine;
            })
      ]
  after_exact t us inside good (Alt a b) ks ks' f h e =
      elim (chosen (has t (first F a)) (after F t inside a ks) (after F t inside b ks) (Some ks') e) [
        | inl c ↦ (let x = after_exact t us inside good a ks ks' (fine_left S F E a b ks f) c.0 c.1 in
            record {
              to = λ q. elim (model.alt_to a b (t ∷ us) ks q) [
                | inl y ↦ x.to y
                | inr y ↦ absurd (elim (model.head b t us ks y) [
                  | inl z ↦ f.0.2 t c.0 z
                  | inr z ↦ f.1 t (has-right t (follow_last F E a ++ follow_last F E b) _ (has-right t (elim (nullable a) [ true ↦ first F b | false ↦ [] ]) _ (kept-has t (nullable b) (first F a) z.0 c.0))) (heads t us ks z.1)
                ])
              ];
              from = λ q. model.left_from a b (t ∷ us) ks (x.from q);
              fine = x.fine;
            })
        | inr c ↦ (let hb : has t (first F b) ≡ true = elim (has-cases t (first F a) _ h) [ inl y ↦ absurd (both_ways _ c.0 y) | inr y ↦ y ] in
            let x = after_exact t us inside good b ks ks' (fine_right S F E a b ks f) hb c.1 in
            record {
              to = λ q. elim (model.alt_to a b (t ∷ us) ks q) [
                | inr y ↦ x.to y
                | inl y ↦ absurd (let z = passed a t us ks c.0 y in
                    f.1 t (has-right t (follow_last F E a ++ follow_last F E b) _ (has-left t _ _ (kept-has t (nullable a) (first F b) z.0 hb))) (heads t us ks z.1))
              ];
              from = λ q. model.right_from a b (t ∷ us) ks (x.from q);
              fine = x.fine;
            })
      ]
  after_exact t us inside good (Star a) ks ks' f h e =
      let x = after_exact t us inside good a (Star a ∷ ks) ks' (fine_star S F E a ks f) h e in
      record {
        to = λ q. elim (model.star_to a (t ∷ us) ks q) [ inl y ↦ x.to y | inr y ↦ absurd (f.1 t (has-left t (first F a) _ h) (heads t us ks y)) ];
        from = λ q. model.star_from a (t ∷ us) ks (x.from q);
        fine = x.fine;
      }

  pub fine_rule : (s : S) (ks : List (Ebnf S)) → Fine S F E (Sym s ∷ ks) → Fine S F E (rule s ∷ ks)
  fine_rule s ks f = (is_ll1-Ok S F E (rule s) (tables.ll1 s), (λ t p q. f.1 t (subst (λ x. has t x ≡ true) (tables.follow_lasts s) p) q), f.2)

  enter_exact : (t : ℕ) (us : List ℕ) (n : ℕ) (s : S) (ks ks' : List (Ebnf S)) → Fine S F E (Sym s ∷ ks) → has t (F s) ≡ true → enter rule F t n s ks ≡ Some ks' → Exact t us (Sym s ∷ ks) ks'
  enter_exact t us zero s ks ks' f h e = absurd cc
  enter_exact t us (suc n) s ks ks' f h e =
      let x = after_exact t us (enter rule F t n) (enter_exact t us n) (rule s) ks ks' (fine_rule s ks f) (subst (λ x. has t x ≡ true) (sym (tables.firsts s)) h) e in
      record {
        to = λ q. x.to (model.sym_to s (t ∷ us) ks q);
        from = λ q. model.sym_from s (t ∷ us) ks (x.from q);
        fine = x.fine;
      }

  -- a step that is made is exact
  pub step_exact : (n t : ℕ) (us : List ℕ) (ks ks' : List (Ebnf S)) → Fine S F E ks → step rule F n t ks ≡ Some ks' → Exact t us ks ks'
  step_exact n t us [] ks' f e = absurd cc
  step_exact n t us (k ∷ ks) ks' f e =
      elim (chosen (has t (first F k)) (after F t (enter rule F t n) k ks) (elim (nullable k) [ true ↦ step rule F n t ks | false ↦ None ]) (Some ks') e) [
        | inl c ↦ after_exact t us (enter rule F t n) (enter_exact t us n) k ks ks' f c.0 c.1
        | inr c ↦ elim (chosen (nullable k) (step rule F n t ks) None (Some ks') c.1) [
          | inl d ↦ (let x = step_exact n t us ks ks' f.2 d.1 in
              record {
                to = λ q. x.to (passed k t us ks c.0 q).1;
                from = λ q. model.skip k (t ∷ us) ks d.0 (x.from q);
                fine = x.fine;
              })
          | inr d ↦ absurd cc
        ]
      ]
