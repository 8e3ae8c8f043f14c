-- Whole runs of the machine, and one part after another.
use Rattle.std.proofs.Common.{◌≡◌, ℕ, zero, suc, Bool, true, false, List, [], ◌∷◌, ◌++◌, inl, inr, Option, Some, None, is_some, Ok, Err, nat_eq, refl, sym, ap, ◌∙◌, subst, true≢false, eqb-true}
use Rattle.std.proofs.lemmas.Bool.{and_parts, or_cases, both_ways, cases_Bool}
use Rattle.vd_source_lexer.specs.Grammar.{Ebnf, Tok, Sym, Eps, Seq, Alt, Star, Starts}
use Rattle.vd_source_lexer.specs.Machine.{has, nullable, first, after, enter, step, entered, go_on, run, IsLL1}
use Rattle.vd_source_lexer.specs.Laws.{FirstUnexpected}
use Rattle.vd_source_lexer.proofs.Exact.{has-cases, has-kept, chosen, Model, Fine, step_exact}
use Rattle.vd_source_lexer.proofs.Models.{starts_model, starts_none}

pub choose_true : {X : Type 0} (b : Bool) (x y z : X) → b ≡ true → x ≡ z → (elim b [ true ↦ x | false ↦ y ]) ≡ z
choose_true true x y z e h = h
choose_true false x y z e h = absurd (true≢false (sym e))

pub choose_false : {X : Type 0} (b : Bool) (x y z : X) → b ≡ false → y ≡ z → (elim b [ true ↦ x | false ↦ y ]) ≡ z
choose_false true x y z e h = absurd (true≢false e)
choose_false false x y z e h = h

pub some_of : {X : Type 0} (o : Option X) → is_some o ≡ true → (x : X) × (o ≡ Some x)
some_of None h = absurd (true≢false (sym h))
some_of (Some x) h = (x, refl)

module _ (S : Type 0) (rule : S → Ebnf S) (F : S → List ℕ) (t : ℕ) where
  -- whether there is an answer doesn't hang on what comes after
  after_same : (f : S → List (Ebnf S) → Option (List (Ebnf S))) → ((s : S) (ks ls : List (Ebnf S)) → is_some (f s ks) ≡ is_some (f s ls)) → (e : Ebnf S) (ks ls : List (Ebnf S)) → is_some (after F t f e ks) ≡ is_some (after F t f e ls)
  after_same f h (Tok c) ks ls = refl
  after_same f h (Sym s) ks ls = h s ks ls
  after_same f h Eps ks ls = refl
  after_same f h (Seq a b) ks ls = both (has t (first F a)) _ _ _ _ (after_same f h a (b ∷ ks) (b ∷ ls)) (after_same f h b ks ls)
    where
      both : (c : Bool) (x y x' y' : Option (List (Ebnf S))) → is_some x ≡ is_some x' → is_some y ≡ is_some y' → is_some (elim c [ true ↦ x | false ↦ y ]) ≡ is_some (elim c [ true ↦ x' | false ↦ y' ])
      both true x y x' y' p q = p
      both false x y x' y' p q = q
  after_same f h (Alt a b) ks ls = both (has t (first F a)) _ _ _ _ (after_same f h a ks ls) (after_same f h b ks ls)
    where
      both : (c : Bool) (x y x' y' : Option (List (Ebnf S))) → is_some x ≡ is_some x' → is_some y ≡ is_some y' → is_some (elim c [ true ↦ x | false ↦ y ]) ≡ is_some (elim c [ true ↦ x' | false ↦ y' ])
      both true x y x' y' p q = p
      both false x y x' y' p q = q
  after_same f h (Star a) ks ls = after_same f h a (Star a ∷ ks) (Star a ∷ ls)

  enter_same : (n : ℕ) (s : S) (ks ls : List (Ebnf S)) → is_some (enter rule F t n s ks) ≡ is_some (enter rule F t n s ls)
  enter_same zero s ks ls = refl
  enter_same (suc n) s ks ls = after_same (enter rule F t n) (enter_same n) (rule s) ks ls

  -- an answer stays with more symbols to go through
  after_mono : (f g : S → List (Ebnf S) → Option (List (Ebnf S))) → ((s : S) (ks x : List (Ebnf S)) → f s ks ≡ Some x → g s ks ≡ Some x) → (e : Ebnf S) (ks x : List (Ebnf S)) → after F t f e ks ≡ Some x → after F t g e ks ≡ Some x
  after_mono f g h (Tok c) ks x e = e
  after_mono f g h (Sym s) ks x e = h s ks x e
  after_mono f g h Eps ks x e = e
  after_mono f g h (Seq a b) ks x e = elim (chosen (has t (first F a)) _ _ _ e) [
    | inl c ↦ choose_true (has t (first F a)) _ _ _ c.0 (after_mono f g h a (b ∷ ks) x c.1)
    | inr c ↦ choose_false (has t (first F a)) _ _ _ c.0 (after_mono f g h b ks x c.1)
  ]
  after_mono f g h (Alt a b) ks x e = elim (chosen (has t (first F a)) _ _ _ e) [
    | inl c ↦ choose_true (has t (first F a)) _ _ _ c.0 (after_mono f g h a ks x c.1)
    | inr c ↦ choose_false (has t (first F a)) _ _ _ c.0 (after_mono f g h b ks x c.1)
  ]
  after_mono f g h (Star a) ks x e = after_mono f g h a (Star a ∷ ks) x e

  pub enter_mono : (n : ℕ) (s : S) (ks x : List (Ebnf S)) → enter rule F t n s ks ≡ Some x → enter rule F t (suc n) s ks ≡ Some x
  enter_mono zero s ks x e = absurd cc
  enter_mono (suc n) s ks x e = after_mono (enter rule F t n) (enter rule F t (suc n)) (enter_mono n) (rule s) ks x e

  -- a token that a part's text can begin with has an answer
  answers : (f : S → List (Ebnf S) → Option (List (Ebnf S))) → ((s : S) (ks : List (Ebnf S)) → has t (F s) ≡ true → is_some (f s ks) ≡ true) → (e : Ebnf S) (ks : List (Ebnf S)) → has t (first F e) ≡ true → is_some (after F t f e ks) ≡ true
  answers f h (Tok c) ks e = refl
  answers f h (Sym s) ks e = h s ks e
  answers f h Eps ks e = absurd (true≢false (sym e))
  answers f h (Seq a b) ks e = elim (cases_Bool (has t (first F a))) [
    | inl c ↦ ap is_some (choose_true (has t (first F a)) _ _ _ c refl) ∙ answers f h a (b ∷ ks) c
    | inr c ↦ elim (has-cases t (first F a) _ e) [
      | inl y ↦ absurd (both_ways _ c y)
      | inr y ↦ ap is_some (choose_false (has t (first F a)) _ _ _ c refl) ∙ answers f h b ks (has-kept t (nullable a) (first F b) y).1
    ]
  ]
  answers f h (Alt a b) ks e = elim (cases_Bool (has t (first F a))) [
    | inl c ↦ ap is_some (choose_true (has t (first F a)) _ _ _ c refl) ∙ answers f h a ks c
    | inr c ↦ elim (has-cases t (first F a) _ e) [
      | inl y ↦ absurd (both_ways _ c y)
      | inr y ↦ ap is_some (choose_false (has t (first F a)) _ _ _ c refl) ∙ answers f h b ks y
    ]
  ]
  answers f h (Star a) ks e = answers f h a (Star a ∷ ks) e

  entered_at : (n : ℕ) (s : S) (ts : List ℕ) → entered rule F n s ts ≡ true → has t ts ≡ true → is_some (enter rule F t n s []) ≡ true
  entered_at n s [] h e = absurd (true≢false (sym e))
  entered_at n s (c ∷ ts) h e =
      let p = and_parts (is_some (enter rule F c n s [])) _ h in
      elim (or_cases (nat_eq t c) _ e) [
        | inl x ↦ subst (λ k. is_some (enter rule F k n s []) ≡ true) (sym (eqb-true t c x)) p.0
        | inr x ↦ entered_at n s ts p.1 x
      ]

module _ (S : Type 0) (rule : S → Ebnf S) (F E : S → List ℕ) (n : ℕ) (ll1 : IsLL1 S rule F E n) where
  pub enters_all : (t : ℕ) (s : S) (ks : List (Ebnf S)) → has t (F s) ≡ true → is_some (enter rule F t n s ks) ≡ true
  enters_all t s ks h = enter_same S rule F t n s ks [] ∙ entered_at S rule F t n s (F s) (ll1.enters s) h

  -- a token with which some text goes on is taken
  pub progress : (Q : List (Ebnf S) → List ℕ → Type 0) → Model S rule F Q → (t : ℕ) (us : List ℕ) (ks : List (Ebnf S)) → Q ks (t ∷ us) → is_some (step rule F n t ks) ≡ true
  progress Q model t us [] q = absurd (model.nothing t us q)
  progress Q model t us (k ∷ ks) q = elim (cases_Bool (has t (first F k))) [
    | inl c ↦ ap is_some (choose_true (has t (first F k)) _ _ _ c refl) ∙ answers S rule F t (enter rule F t n) (enters_all t) k ks c
    | inr c ↦ elim (model.head k t us ks q) [
      | inl y ↦ absurd (both_ways _ c y)
      | inr y ↦ ap is_some (choose_false (has t (first F k)) _ _ _ c (choose_true (nullable k) _ _ _ y.0 refl)) ∙ progress Q model t us ks y.1
    ]
  ]

  -- What a run that takes all tokens leaves.
  pub run_whole : (Q : List (Ebnf S) → List ℕ → Type 0) → Model S rule F Q → (ks : List (Ebnf S)) (ts us : List ℕ) (left : List (Ebnf S)) → Fine S F E ks → run rule F n ks ts ≡ Ok left → (Q ks (ts ++ us) → Q left us) × (Q left us → Q ks (ts ++ us))
  run_whole Q model ks [] us left f e = let same : ks ≡ left = cc in (λ q. subst (λ x. Q x us) same q, λ q. subst (λ x. Q x us) (sym same) q)
  run_whole Q model ks (t ∷ ts) us left f e = go (step rule F n t ks) refl e (λ next. run_whole Q model next ts us left)
    where
      go : (o : Option (List (Ebnf S))) → step rule F n t ks ≡ o → go_on (t ∷ ts) o (λ next. run rule F n next ts) ≡ Ok left → ((next : List (Ebnf S)) → Fine S F E next → run rule F n next ts ≡ Ok left → (Q next (ts ++ us) → Q left us) × (Q left us → Q next (ts ++ us))) → (Q ks (t ∷ (ts ++ us)) → Q left us) × (Q left us → Q ks (t ∷ (ts ++ us)))
      go None s e ih = absurd cc
      go (Some next) s e ih =
          let x = step_exact S rule F E ll1.tables Q model n t (ts ++ us) ks next f s in
          let r = ih next x.fine e in
          (λ q. r.0 (x.to q), λ q. x.from (r.1 q))

  -- Where a run stops, the tokens before begin a text, and those through the next token begin none.
  pub run_stops : (ks : List (Ebnf S)) (ts us : List ℕ) → Fine S F E ks → run rule F n ks ts ≡ Err us → FirstUnexpected S rule ks ts us
  run_stops ks [] us f e = absurd cc
  run_stops ks (t ∷ ts) us f e = go (step rule F n t ks) refl e (λ next. run_stops next ts us)
    where
      go : (o : Option (List (Ebnf S))) → step rule F n t ks ≡ o → go_on (t ∷ ts) o (λ next. run rule F n next ts) ≡ Err us → ((next : List (Ebnf S)) → Fine S F E next → run rule F n next ts ≡ Err us → FirstUnexpected S rule next ts us) → FirstUnexpected S rule ks (t ∷ ts) us
      go None s e ih =
          let same : t ∷ ts ≡ us = cc in
          record {
            before = [];
            token = t;
            behind = ts;
            all = refl;
            rest = sym same;
            begins = starts_none S rule F E ll1.tables ks;
            ends = λ q. true≢false (sym (progress (Starts S rule) (starts_model S rule F E ll1.tables) t [] ks q) ∙ ap is_some s);
          }
      go (Some next) s e ih =
          let r = ih next (step_exact S rule F E ll1.tables (Starts S rule) (starts_model S rule F E ll1.tables) n t [] ks next f s).fine e in
          record {
            before = t ∷ r.before;
            token = r.token;
            behind = r.behind;
            all = ap (λ x. t ∷ x) r.all;
            rest = r.rest;
            begins = (step_exact S rule F E ll1.tables (Starts S rule) (starts_model S rule F E ll1.tables) n t r.before ks next f s).from r.begins;
            ends = λ q. r.ends ((step_exact S rule F E ll1.tables (Starts S rule) (starts_model S rule F E ll1.tables) n t (r.before ++ r.token ∷ []) ks next f s).to q);
          }
