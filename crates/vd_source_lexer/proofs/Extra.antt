-- A text is never stopped; a token kind that no rule has is in no text.
use Rattle.std.proofs.Common.{◌≡◌, ℕ, Bool, true, false, ◌&&◌, ◌||◌, not, List, [], ◌∷◌, ◌++◌, inl, inr, Option, None, Some, Ok, nat_eq, refl, ap, ◌∙◌, subst, append-nil}
use Rattle.std.proofs.lemmas.Bool.{and_parts, not-true, or_from}
use Rattle.vd_source_lexer.specs.Grammar.{Ebnf, Tok, Sym, Eps, Seq, Alt, Star, Derives, d-tok, d-sym, d-eps, d-seq, d-left, d-right, d-stop, d-more, Begins, b-none, b-tok, b-sym, b-first, b-next, b-left, b-right, b-one, b-more, Spells, Starts, NothingLeft}
use Rattle.vd_source_lexer.specs.Machine.{has, step, go_on, run, IsLL1}
use Rattle.vd_source_lexer.proofs.Exact.{Model, Fine, step_exact}
use Rattle.vd_source_lexer.proofs.Models.{spells_model, starts_model, starts_none}
use Rattle.vd_source_lexer.proofs.Runs.{progress, some_of, run_whole}

module _ (S : Type 0) (rule : S → Ebnf S) (F E : S → List ℕ) (n : ℕ) (ll1 : IsLL1 S rule F E n) (Q : List (Ebnf S) → List ℕ → Type 0) (model : Model S rule F Q) where
  -- what is a text, or begins one, is read to its end
  pub run_taken : (ks : List (Ebnf S)) (ts : List ℕ) → Fine S F E ks → Q ks ts → (left : List (Ebnf S)) × (run rule F n ks ts ≡ Ok left)
  run_taken ks [] f q = (ks, refl)
  run_taken ks (t ∷ ts) f q =
      let o = some_of (step rule F n t ks) (progress S rule F E n ll1 Q model t ts ks q) in
      let x = step_exact S rule F E ll1.tables Q model n t ts ks o.0 f o.1 in
      let r = run_taken o.0 ts x.fine (x.to q) in
      (r.0, ap (λ s. go_on (t ∷ ts) s (λ next. run rule F n next ts)) o.1 ∙ r.1)

module _ (S : Type 0) (rule : S → Ebnf S) (F E : S → List ℕ) (n : ℕ) (ll1 : IsLL1 S rule F E n) where
  -- what is read to its end is read to the end of each of its fronts
  run_front : (ks : List (Ebnf S)) (ts us : List ℕ) (end : List (Ebnf S)) → run rule F n ks (ts ++ us) ≡ Ok end → (mid : List (Ebnf S)) × (run rule F n ks ts ≡ Ok mid)
  run_front ks [] us end e = (ks, refl)
  run_front ks (t ∷ ts) us end e = go (step rule F n t ks) e (λ next. run_front next ts us end)
    where
      go : (o : Option (List (Ebnf S))) → go_on (t ∷ (ts ++ us)) o (λ next. run rule F n next (ts ++ us)) ≡ Ok end → ((next : List (Ebnf S)) → run rule F n next (ts ++ us) ≡ Ok end → (mid : List (Ebnf S)) × (run rule F n next ts ≡ Ok mid)) → (mid : List (Ebnf S)) × (go_on (t ∷ ts) o (λ next. run rule F n next ts) ≡ Ok mid)
      go None e ih = absurd cc
      go (Some next) e ih = ih next e

  -- what runs to its end begins a text
  pub run_begins : (ks : List (Ebnf S)) (ts : List ℕ) (left : List (Ebnf S)) → Fine S F E ks → run rule F n ks ts ≡ Ok left → Starts S rule ks ts
  run_begins ks ts left f e = subst (Starts S rule ks) (append-nil ts) ((run_whole S rule F E n ll1 (Starts S rule) (starts_model S rule F E ll1.tables) ks ts [] left f e).1 (starts_none S rule F E ll1.tables left))

  -- each front of what begins a text begins a text
  pub front_starts : (ks : List (Ebnf S)) (ts us : List ℕ) → Fine S F E ks → Starts S rule ks (ts ++ us) → Starts S rule ks ts
  front_starts ks ts us f q =
      let whole = run_taken S rule F E n ll1 (Starts S rule) (starts_model S rule F E ll1.tables) ks (ts ++ us) f q in
      let front = run_front ks ts us whole.0 whole.1 in
      run_begins ks ts front.0 f front.1

  -- so does each front of a text
  pub front_begins : (ks : List (Ebnf S)) (ts us : List ℕ) → Fine S F E ks → Spells S rule ks (ts ++ us) → Starts S rule ks ts
  front_begins ks ts us f q =
      let whole = run_taken S rule F E n ll1 (Spells S rule) (spells_model S rule F E ll1.tables) ks (ts ++ us) f q in
      let front = run_front ks ts us whole.0 whole.1 in
      run_begins ks ts front.0 f front.1

-- the kind stands nowhere in a d-right side
abbrev pub absent : {S : Type 0} → ℕ → Ebnf S → Bool
absent d (Tok c) = not (nat_eq d c)
absent d (Sym s) = true
absent d Eps = true
absent d (Seq a b) = absent d a && absent d b
absent d (Alt a b) = absent d a && absent d b
absent d (Star a) = absent d a

module _ (S : Type 0) (rule : S → Ebnf S) (d : ℕ) (rules : (s : S) → absent d (rule s) ≡ true) where
  absent_derives : {e : Ebnf S} {ts m : List ℕ} → Derives S rule e ts m → absent d e ≡ true → has d ts ≡ has d m
  absent_derives (d-tok {c = c} {ts = ts}) h = ap (λ b. b || has d ts) (not-true _ h)
  absent_derives (d-sym {s = s} g) h = absent_derives g (rules s)
  absent_derives d-eps h = refl
  absent_derives (d-seq {a = a} {b = b} g k) h = let p = and_parts (absent d a) (absent d b) h in absent_derives g p.0 ∙ absent_derives k p.1
  absent_derives (d-left {a = a} {b = b} g) h = absent_derives g (and_parts (absent d a) (absent d b) h).0
  absent_derives (d-right {a = a} {b = b} g) h = absent_derives g (and_parts (absent d a) (absent d b) h).1
  absent_derives d-stop h = refl
  absent_derives (d-more g k) h = absent_derives g h ∙ absent_derives k h

  absent_begins : {e : Ebnf S} {ts : List ℕ} → Begins S rule e ts → absent d e ≡ true → has d ts ≡ false
  absent_begins b-none h = refl
  absent_begins (b-tok {c = c}) h = or_from _ false (not-true _ h) refl
  absent_begins (b-sym {s = s} g) h = absent_begins g (rules s)
  absent_begins (b-first {a = a} {b = b} g) h = absent_begins g (and_parts (absent d a) (absent d b) h).0
  absent_begins (b-next {a = a} {b = b} g k) h = let p = and_parts (absent d a) (absent d b) h in absent_derives g p.0 ∙ absent_begins k p.1
  absent_begins (b-left {a = a} {b = b} g) h = absent_begins g (and_parts (absent d a) (absent d b) h).0
  absent_begins (b-right {a = a} {b = b} g) h = absent_begins g (and_parts (absent d a) (absent d b) h).1
  absent_begins (b-one g) h = absent_begins g h
  absent_begins (b-more g k) h = absent_derives g h ∙ absent_begins k h

  abbrev AllAbsent : List (Ebnf S) → Type 0
  AllAbsent [] = Unit {0}
  AllAbsent (k ∷ ks) = (absent d k ≡ true) × AllAbsent ks

  nothing_absent : (ts : List ℕ) → NothingLeft ts → has d ts ≡ false
  nothing_absent [] q = refl
  nothing_absent (t ∷ ts) q = absurd q

  -- what begins a text hasn't the kind
  pub starts_absent : (ks : List (Ebnf S)) (ts : List ℕ) → AllAbsent ks → Starts S rule ks ts → has d ts ≡ false
  starts_absent [] ts h q = nothing_absent ts q
  starts_absent (k ∷ ks) ts h q = elim q [ inl g ↦ absent_begins g h.0 | inr p ↦ absent_derives p.1 h.0 ∙ starts_absent ks p.0 h.1 p.2 ]
