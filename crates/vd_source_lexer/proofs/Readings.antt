-- How a parser goes through one part after another.
use Rattle.std.proofs.Common.{◌≡◌, ℕ, Bool, true, false, ◌&&◌, ◌||◌, List, [], ◌∷◌, ◌++◌, inl, inr, Option, Some, None, Err, nat_eq, refl, sym, ap, ◌∙◌, subst, true≢false, eq-eqb, arith, append_assoc, append-nil}
use Rattle.std.proofs.lemmas.Bool.{or_left, or_from, cases_Bool}
use Rattle.vd_source_lexer.specs.Grammar.{Ebnf, Tok, Sym, Eps, Seq, Alt, Star}
use Rattle.vd_source_lexer.specs.Machine.{has, nullable, first, after, enter, step, go_on, run, IsLL1}
use Rattle.vd_source_lexer.specs.Trees.{Tree, Leaf, Both, First, Second, Empty, m-tok, m-sym, m-eps, m-seq, m-left, m-right, m-stop, m-more}
use Rattle.vd_source_lexer.specs.Reading.{Grammar, kinds, head, Read, Stops, Within, Gives, Collects}
use Rattle.vd_source_lexer.proofs.Exact.{has-left}
use Rattle.vd_source_lexer.proofs.Runs.{choose_true, choose_false, enter_mono, enters_all, some_of}

has-append : (t : ℕ) (xs ys : List ℕ) → has t (xs ++ ys) ≡ (has t xs || has t ys)
has-append t [] ys = refl
has-append t (x ∷ xs) ys = go (nat_eq t x) (has-append t xs ys)
  where
    go : (b : Bool) → has t (xs ++ ys) ≡ (has t xs || has t ys) → (b || has t (xs ++ ys)) ≡ ((b || has t xs) || has t ys)
    go true e = refl
    go false e = e

has-if : (t : ℕ) (b : Bool) (xs : List ℕ) → has t (elim b [ true ↦ xs | false ↦ [] ]) ≡ (b && has t xs)
has-if t true xs = refl
has-if t false xs = refl

-- the choices at one part after another, by a table
seq_table : {X : Type 0} (p q r s : Bool) (x y z w : X) →
    ◌≡◌ {A = X} (elim (p || (q && r)) [ true ↦ (elim p [ true ↦ x | false ↦ y ]) | false ↦ (elim (q && s) [ true ↦ z | false ↦ w ]) ])
    (elim p [ true ↦ x | false ↦ (elim q [ true ↦ (elim r [ true ↦ y | false ↦ (elim s [ true ↦ z | false ↦ w ]) ]) | false ↦ w ]) ])
seq_table true q r s x y z w = refl
seq_table false true true s x y z w = refl
seq_table false true false s x y z w = refl
seq_table false false r s x y z w = refl

right_table : {X : Type 0} (p q r s : Bool) (x y z w : X) → p ≡ false → q ≡ false →
    ◌≡◌ {A = X} (elim (p || r) [ true ↦ (elim p [ true ↦ x | false ↦ y ]) | false ↦ (elim (q || s) [ true ↦ z | false ↦ w ]) ])
    (elim r [ true ↦ y | false ↦ (elim s [ true ↦ z | false ↦ w ]) ])
right_table true q r s x y z w e f = absurd (true≢false e)
right_table false true r s x y z w e f = absurd (true≢false f)
right_table false false true s x y z w e f = refl
right_table false false false s x y z w e f = refl

module _ (S : Type 0) (rule : S → Ebnf S) (F E : S → List ℕ) (n : ℕ) (ll1 : IsLL1 S rule F E n) where
  module _ (t : ℕ) (ks : List (Ebnf S)) where
    step_seq : (a b : Ebnf S) → step rule F n t (Seq a b ∷ ks) ≡ step rule F n t (a ∷ b ∷ ks)
    step_seq a b =
        let x = after F t (enter rule F t n) a (b ∷ ks) in
        let y = after F t (enter rule F t n) b ks in
        let z = step rule F n t ks in
        let w : Option (List (Ebnf S)) = None in
        let h : has t (first F (Seq a b)) ≡ (has t (first F a) || (nullable a && has t (first F b))) = has-append t (first F a) _ ∙ ap (λ c. has t (first F a) || c) (has-if t (nullable a) (first F b)) in
        ap (λ c. elim c as (λ d. Option (List (Ebnf S))) [ true ↦ (elim (has t (first F a)) [ true ↦ x | false ↦ y ]) | false ↦ (elim (nullable a && nullable b) [ true ↦ z | false ↦ w ]) ]) h
        ∙ seq_table (has t (first F a)) (nullable a) (has t (first F b)) (nullable b) x y z w

    step_left : (a b : Ebnf S) → has t (first F a) ≡ true → step rule F n t (Alt a b ∷ ks) ≡ step rule F n t (a ∷ ks)
    step_left a b h =
        choose_true (has t (first F (Alt a b))) _ _ _ (has-left t (first F a) (first F b) h) (choose_true (has t (first F a)) _ _ _ h refl)
        ∙ sym (choose_true (has t (first F a)) _ _ _ h refl)

    step_right : (a b : Ebnf S) → has t (first F a) ≡ false → nullable a ≡ false → step rule F n t (Alt a b ∷ ks) ≡ step rule F n t (b ∷ ks)
    step_right a b h m =
        let x = after F t (enter rule F t n) a ks in
        let y = after F t (enter rule F t n) b ks in
        let z = step rule F n t ks in
        let w : Option (List (Ebnf S)) = None in
        ap (λ c. elim c as (λ d. Option (List (Ebnf S))) [ true ↦ (elim (has t (first F a)) [ true ↦ x | false ↦ y ]) | false ↦ (elim (nullable a || nullable b) [ true ↦ z | false ↦ w ]) ]) (has-append t (first F a) (first F b))
        ∙ right_table (has t (first F a)) (nullable a) (has t (first F b)) (nullable b) x y z w h m

    step_more : (a : Ebnf S) → has t (first F a) ≡ true → step rule F n t (Star a ∷ ks) ≡ step rule F n t (a ∷ Star a ∷ ks)
    step_more a h = choose_true (has t (first F a)) _ _ _ h refl ∙ sym (choose_true (has t (first F a)) _ _ _ h refl)

    step_past : (a : Ebnf S) → has t (first F a) ≡ false → nullable a ≡ true → step rule F n t (a ∷ ks) ≡ step rule F n t ks
    step_past a h m = choose_false (has t (first F a)) _ _ _ h (choose_true (nullable a) _ _ _ m refl)

    step_wrong : (a : Ebnf S) → has t (first F a) ≡ false → nullable a ≡ false → step rule F n t (a ∷ ks) ≡ None
    step_wrong a h m = choose_false (has t (first F a)) _ _ _ h (choose_false (nullable a) _ _ _ m refl)

    step_tok : (c : ℕ) → t ≡ c → step rule F n t (Tok c ∷ ks) ≡ Some ks
    step_tok c e = choose_true (has t (first {S = S} F (Tok c))) _ _ _ (or_left (nat_eq t c) false (eq-eqb t c e)) refl

    step_sym : (s : S) → step rule F n t (Sym s ∷ ks) ≡ step rule F n t (rule s ∷ ks)
    step_sym s = elim (cases_Bool (has t (F s))) [
      | inl c ↦ (let o = some_of (enter rule F t n s ks) (enters_all S rule F E n ll1 t s ks c) in
          choose_true (has t (F s)) _ _ _ c o.1
          ∙ sym (choose_true (has t (first F (rule s))) _ _ _ (subst (λ fs. has t fs ≡ true) (sym (ll1.tables.firsts s)) c) (enter_mono S rule F t n s ks o.0 o.1)))
      | inr c ↦ choose_false (has t (F s)) _ _ _ c refl
          ∙ sym (step_wrong (rule s) (subst (λ fs. has t fs ≡ false) (sym (ll1.tables.firsts s)) c) (ll1.tables.nonempty s))
    ]

module _ {S T : Type 0} (g : Grammar S T) (E : S → List ℕ) (ll1 : IsLL1 S g.rule g.firsts E g.bound) where
  -- what the next step says, the run says
  same_step : (ts : List T) (ks ls : List (Ebnf S)) → step g.rule g.firsts g.bound (head g ts) ks ≡ step g.rule g.firsts g.bound (head g ts) ls → run g.rule g.firsts g.bound ks (kinds g ts) ≡ run g.rule g.firsts g.bound ls (kinds g ts)
  same_step [] ks ls e = ap (λ o. go_on (kinds g []) o (λ next. run g.rule g.firsts g.bound next [])) e
  same_step (t ∷ ts) ks ls e = ap (λ o. go_on (kinds g (t ∷ ts)) o (λ next. run g.rule g.firsts g.bound next (kinds g ts))) e

  no_step : (ts : List T) (ks : List (Ebnf S)) → step g.rule g.firsts g.bound (head g ts) ks ≡ None → run g.rule g.firsts g.bound ks (kinds g ts) ≡ Err (kinds g ts)
  no_step [] ks e = ap (λ o. go_on (kinds g []) o (λ next. run g.rule g.firsts g.bound next [])) e
  no_step (t ∷ ts) ks e = ap (λ o. go_on (kinds g (t ∷ ts)) o (λ next. run g.rule g.firsts g.bound next (kinds g ts))) e

  -- tokens
  pub read_tok : (c : ℕ) (t : T) (ts : List T) → g.kind t ≡ c → Read g (Tok c) (t ∷ ts) ts (Leaf t)
  read_tok c t ts e = record {
    runs = λ ks. ap (λ o. go_on (kinds g (t ∷ ts)) o (λ next. run g.rule g.firsts g.bound next (kinds g ts))) (step_tok S g.rule g.firsts E g.bound ll1 (g.kind t) ks c e);
    makes = m-tok e;
    shorter = omega arith;
  }

  stops_wrong : (e : Ebnf S) (ts : List T) → has (head g ts) (first g.firsts e) ≡ false → nullable e ≡ false → Stops g e ts ts
  stops_wrong e ts h m = record { runs = λ ks. no_step ts _ (step_wrong S g.rule g.firsts E g.bound ll1 (head g ts) ks e h m); shorter = omega arith }

  pub stops_tok : (c : ℕ) (ts : List T) → nat_eq (head g ts) c ≡ false → Stops g (Tok c) ts ts
  stops_tok c ts h = stops_wrong (Tok c) ts (or_from _ false h refl) refl

  -- parts
  pub begin : {e : Ebnf S} {ts : List T} → Within g e ts e ts (λ x. x)
  begin = record { runs = λ ks. refl; makes = λ vs x m. m; shorter = omega arith }

  pub into_sym : {e : Ebnf S} {s : S} {ts us : List T} {up : Tree T → Tree T} → Within g e ts (Sym s) us up → Within g e ts (g.rule s) us up
  into_sym {s = s} {us = us} w = record {
    runs = λ ks. w.runs ks ∙ same_step us _ _ (step_sym S g.rule g.firsts E g.bound ll1 (head g us) ks s);
    makes = λ vs x m. w.makes vs x (m-sym m);
    shorter = w.shorter;
  }

  pub into_left : {e a b : Ebnf S} {ts us : List T} {up : Tree T → Tree T} → Within g e ts (Alt a b) us up → has (head g us) (first g.firsts a) ≡ true → Within g e ts a us (λ x. up (First x))
  into_left {a = a} {b = b} {us = us} w h = record {
    runs = λ ks. w.runs ks ∙ same_step us _ _ (step_left S g.rule g.firsts E g.bound ll1 (head g us) ks a b h);
    makes = λ vs x m. w.makes vs (First x) (m-left m);
    shorter = w.shorter;
  }

  pub into_right : {e a b : Ebnf S} {ts us : List T} {up : Tree T → Tree T} → Within g e ts (Alt a b) us up → has (head g us) (first g.firsts a) ≡ false → nullable a ≡ false → Within g e ts b us (λ x. up (Second x))
  into_right {a = a} {b = b} {us = us} w h m = record {
    runs = λ ks. w.runs ks ∙ same_step us _ _ (step_right S g.rule g.firsts E g.bound ll1 (head g us) ks a b h m);
    makes = λ vs x n. w.makes vs (Second x) (m-right n);
    shorter = w.shorter;
  }

  -- the first of two parts is read
  pub next_read : {e a b : Ebnf S} {ts us vs : List T} {up : Tree T → Tree T} {x : Tree T} → Within g e ts (Seq a b) us up → Read g a us vs x → Within g e ts b vs (λ y. up (Both x y))
  next_read {a = a} {b = b} {us = us} {x = x} w r = record {
    runs = λ ks. w.runs ks ∙ same_step us _ _ (step_seq S g.rule g.firsts E g.bound ll1 (head g us) ks a b) ∙ r.runs (b ∷ ks);
    makes = λ ws y m. w.makes ws (Both x y) (m-seq r.makes m);
    shorter = omega (arith, w.shorter, r.shorter);
  }

  pub next : {X : Type 0} {e a b : Ebnf S} {ts us vs : List T} {up : Tree T → Tree T} {of : Tree T → X} {v : X} → Within g e ts (Seq a b) us up → (r : Gives g a of us vs v) → Within g e ts b vs (λ y. up (Both r.tree y))
  next w r = next_read w r.read

  -- the last part is read
  pub last_read : {e d : Ebnf S} {ts us vs : List T} {up : Tree T → Tree T} {x : Tree T} → Within g e ts d us up → Read g d us vs x → Read g e ts vs (up x)
  last_read {x = x} w r = record { runs = λ ks. w.runs ks ∙ r.runs ks; makes = w.makes _ x r.makes; shorter = omega (arith, w.shorter, r.shorter) }

  pub last : {X Y : Type 0} {e d : Ebnf S} {ts us vs : List T} {up : Tree T → Tree T} {of : Tree T → X} {to : Tree T → Y} {v : X} {w : Y} → Within g e ts d us up → (r : Gives g d of us vs v) → w ≡ to (up r.tree) → Gives g e to ts vs w
  last {up = up} w r e = record { tree = up r.tree; read = last_read w r.read; value = e }

  -- nothing
  read_none : (ts : List T) → Read g Eps ts ts Empty
  read_none ts = record {
    runs = λ ks. same_step ts _ _ (step_past S g.rule g.firsts E g.bound ll1 (head g ts) ks Eps refl refl);
    makes = m-eps;
    shorter = omega arith;
  }

  pub last_none : {Y : Type 0} {e : Ebnf S} {ts us : List T} {up : Tree T → Tree T} {to : Tree T → Y} {w : Y} → Within g e ts Eps us up → w ≡ to (up Empty) → Gives g e to ts us w
  last_none {us = us} {up = up} w e = record { tree = up Empty; read = last_read w (read_none us); value = e }

  -- a part stops
  pub stop_here : {e d : Ebnf S} {ts us vs : List T} {up : Tree T → Tree T} → Within g e ts d us up → Stops g d us vs → Stops g e ts vs
  stop_here w r = record { runs = λ ks. w.runs ks ∙ r.runs ks; shorter = omega (arith, w.shorter, r.shorter) }

  pub stop_first : {e a b : Ebnf S} {ts us vs : List T} {up : Tree T → Tree T} → Within g e ts (Seq a b) us up → Stops g a us vs → Stops g e ts vs
  stop_first {a = a} {b = b} {us = us} w r = record {
    runs = λ ks. w.runs ks ∙ same_step us _ _ (step_seq S g.rule g.firsts E g.bound ll1 (head g us) ks a b) ∙ r.runs (b ∷ ks);
    shorter = omega (arith, w.shorter, r.shorter);
  }

  pub read_left_out : {a : Ebnf S} (ts : List T) → has (head g ts) (first g.firsts a) ≡ false → nullable a ≡ false → Read g (Alt a Eps) ts ts (Second Empty)
  read_left_out ts h m = last_read (into_right begin h m) (read_none ts)

  -- Before a token that closes, what isn't that token is read as an optional part.
  open_step : (ts : List T) (ks : List (Ebnf S)) (a b : Ebnf S) → nullable a ≡ false → nullable b ≡ false → has (head g ts) (first g.firsts b) ≡ false → run g.rule g.firsts g.bound (Alt a Eps ∷ b ∷ ks) (kinds g ts) ≡ run g.rule g.firsts g.bound (a ∷ b ∷ ks) (kinds g ts)
  open_step ts ks a b m o e = same_step ts _ _ (elim (cases_Bool (has (head g ts) (first g.firsts a))) [
    | inl c ↦ step_left S g.rule g.firsts E g.bound ll1 (head g ts) (b ∷ ks) a Eps c
    | inr c ↦ step_right S g.rule g.firsts E g.bound ll1 (head g ts) (b ∷ ks) a Eps c m ∙ step_past S g.rule g.firsts E g.bound ll1 (head g ts) (b ∷ ks) Eps refl refl ∙ step_wrong S g.rule g.firsts E g.bound ll1 (head g ts) ks b e o ∙ sym (step_wrong S g.rule g.firsts E g.bound ll1 (head g ts) (b ∷ ks) a c m)
  ])

  pub next_open : {e a b : Ebnf S} {ts us vs : List T} {up : Tree T → Tree T} {x : Tree T} → Within g e ts (Seq (Alt a Eps) b) us up → nullable a ≡ false → nullable b ≡ false → has (head g us) (first g.firsts b) ≡ false → Read g a us vs x → Within g e ts b vs (λ y. up (Both (First x) y))
  next_open {a = a} {b = b} {us = us} {x = x} w m o h r = record {
    runs = λ ks. w.runs ks ∙ same_step us _ _ (step_seq S g.rule g.firsts E g.bound ll1 (head g us) ks (Alt a Eps) b) ∙ open_step us ks a b m o h ∙ r.runs (b ∷ ks);
    makes = λ ws y n. w.makes ws (Both (First x) y) (m-seq (m-left r.makes) n);
    shorter = omega (arith, w.shorter, r.shorter);
  }

  pub stop_open : {e a b : Ebnf S} {ts us vs : List T} {up : Tree T → Tree T} → Within g e ts (Seq (Alt a Eps) b) us up → nullable a ≡ false → nullable b ≡ false → has (head g us) (first g.firsts b) ≡ false → Stops g a us vs → Stops g e ts vs
  stop_open {a = a} {b = b} {us = us} w m o h r = record {
    runs = λ ks. w.runs ks ∙ same_step us _ _ (step_seq S g.rule g.firsts E g.bound ll1 (head g us) ks (Alt a Eps) b) ∙ open_step us ks a b m o h ∙ r.runs (b ∷ ks);
    shorter = omega (arith, w.shorter, r.shorter);
  }

  -- repetitions
  pub collects_first : {X : Type 0} {e d : Ebnf S} {of more : Tree T → List X} {ts us : List T} {up : Tree T → Tree T} {xs : List X} → Within g e ts (Star d) us up → ((y : Tree T) → of (up y) ≡ xs ++ more y) → Collects g e of d more ts us xs
  collects_first {up = up} w same = record { up = up; within = w; values = same }

  once_more : {e a : Ebnf S} {ts us : List T} {up : Tree T → Tree T} → Within g e ts (Star a) us up → has (head g us) (first g.firsts a) ≡ true → (ks : List (Ebnf S)) → run g.rule g.firsts g.bound (e ∷ ks) (kinds g ts) ≡ run g.rule g.firsts g.bound (a ∷ Star a ∷ ks) (kinds g us)
  once_more {a = a} {us = us} w h ks = w.runs ks ∙ same_step us _ _ (step_more S g.rule g.firsts E g.bound ll1 (head g us) ks a h)

  pub collects_more : {X : Type 0} {e d : Ebnf S} {of more : Tree T → List X} {ts us vs : List T} {xs : List X} {x : Tree T} {v : X} → Collects g e of d more ts us xs → has (head g us) (first g.firsts d) ≡ true → Read g d us vs x → ((y : Tree T) → more (Both x y) ≡ v ∷ more y) → Collects g e of d more ts vs (xs ++ v ∷ [])
  collects_more {d = d} {more = more} {xs = xs} {x = x} {v = v} p h r same = record {
    up = λ y. p.up (Both x y);
    within = record {
      runs = λ ks. once_more p.within h ks ∙ r.runs (Star d ∷ ks);
      makes = λ ws y m. p.within.makes ws (Both x y) (m-more r.makes m);
      shorter = omega (arith, p.within.shorter, r.shorter);
    };
    values = λ y. p.values (Both x y) ∙ ap (λ w. xs ++ w) (same y) ∙ sym (append_assoc xs (v ∷ []) (more y));
  }

  pub collects_stop : {X : Type 0} {e d : Ebnf S} {of more : Tree T → List X} {ts us vs : List T} {xs : List X} → Collects g e of d more ts us xs → has (head g us) (first g.firsts d) ≡ true → Stops g d us vs → Stops g e ts vs
  collects_stop {d = d} p h r = record { runs = λ ks. once_more p.within h ks ∙ r.runs (Star d ∷ ks); shorter = omega (arith, p.within.shorter, r.shorter) }

  pub collects_end : {X : Type 0} {e d : Ebnf S} {of more : Tree T → List X} {ts us : List T} {xs : List X} → Collects g e of d more ts us xs → has (head g us) (first g.firsts d) ≡ false → more Empty ≡ [] → Gives g e of ts us xs
  collects_end {d = d} {us = us} {xs = xs} p h none = record {
    tree = p.up Empty;
    read = record {
      runs = λ ks. p.within.runs ks ∙ same_step us _ _ (step_past S g.rule g.firsts E g.bound ll1 (head g us) ks (Star d) h refl);
      makes = p.within.makes us Empty m-stop;
      shorter = p.within.shorter;
    };
    value = sym (append-nil xs) ∙ ap (λ w. xs ++ w) (sym none) ∙ sym (p.values Empty);
  }
