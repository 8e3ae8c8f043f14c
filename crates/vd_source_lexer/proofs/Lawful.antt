-- The laws that the crate's functions promise.
use Rattle.std.proofs.Common.{◌≡◌, ◌↔◌, ℕ, true, List, [], ◌∷◌, map, inl, inr, Result, Ok, Err, refl, sym, subst, true≢false, append-nil}
use Rattle.std.proofs.lemmas.Bool.{and_parts, and_from}
use Rattle.vd_source_lexer.specs.Grammar.{Ebnf, Tok, Derives, d-tok, d-sym, d-eps, d-seq, d-left, d-right, d-stop, d-more, Spells, Starts, NothingLeft}
use Rattle.vd_source_lexer.specs.Machine.{nullable, is_ll1, run, IsLL1, are_ll1}
use Rattle.vd_source_lexer.specs.Trees.{Tree, Leaf, Both, First, Second, Empty, Makes, m-tok, m-sym, m-eps, m-seq, m-left, m-right, m-stop, m-more, one_empty}
use Rattle.vd_source_lexer.specs.Laws.{all_nullable, Accepted, Taken, Exact, Fronts}
use Rattle.vd_source_lexer.proofs.Exact.{Fine, are_ll1-Fine, is_ll1-Ok}
use Rattle.vd_source_lexer.proofs.Models.{derives_head, nullable_derives, spells_model, starts_model}
use Rattle.vd_source_lexer.proofs.Runs.{run_whole, run_stops}
use Rattle.vd_source_lexer.proofs.Extra.{run_taken, run_begins, front_starts, front_begins}
use Rattle.vd_source_lexer.proofs.OneTree.{makes_derives, one_tree}

module _ (S : Type 0) (rule : S → Ebnf S) (F E : S → List ℕ) (n : ℕ) (ll1 : IsLL1 S rule F E n) where
  spells_empty : (ks : List (Ebnf S)) → Spells S rule ks [] → all_nullable ks ≡ true
  spells_empty [] q = refl
  spells_empty (k ∷ ks) q = elim (derives_head S rule F E ll1.tables q.1) [
    | inl x ↦ and_from (nullable k) (all_nullable ks) x.0 (spells_empty ks (subst (Spells S rule ks) (sym x.1) q.2))
    | inr x ↦ absurd x
  ]

  empty_spells : (ks : List (Ebnf S)) → all_nullable ks ≡ true → Spells S rule ks []
  empty_spells [] h = tt
  empty_spells (k ∷ ks) h =
      let p = and_parts (nullable k) (all_nullable ks) h in
      ([], nullable_derives S rule F E ll1.tables k [] p.0, empty_spells ks p.1)

  module _ (es : List (Ebnf S)) (fine : Fine S F E es) (ts : List ℕ) where
    ends_ok : (left : List (Ebnf S)) → run rule F n es ts ≡ Ok left → (Spells S rule es ts → Spells S rule left []) × (Spells S rule left [] → Spells S rule es ts)
    ends_ok left e =
        let w = run_whole S rule F E n ll1 (Spells S rule) (spells_model S rule F E ll1.tables) es ts [] left fine e in
        (λ q. w.0 (subst (Spells S rule es) (sym (append-nil ts)) q), λ q. subst (Spells S rule es) (append-nil ts) (w.1 q))

    accepts : Spells S rule es ts → Accepted (run rule F n es ts)
    accepts q =
        let r = run_taken S rule F E n ll1 (Spells S rule) (spells_model S rule F E ll1.tables) es ts fine q in
        subst Accepted (sym r.1) (spells_empty r.0 ((ends_ok r.0 r.1).0 q))

    accepted : Accepted (run rule F n es ts) → Spells S rule es ts
    accepted h = go (run rule F n es ts) refl h
      where
        go : (r : Result (List (Ebnf S)) (List ℕ)) → run rule F n es ts ≡ r → Accepted r → Spells S rule es ts
        go (Ok left) e h = (ends_ok left e).1 (empty_spells left h)
        go (Err rest) e h = absurd h

    takes : Starts S rule es ts → Taken (run rule F n es ts)
    takes q =
        let r = run_taken S rule F E n ll1 (Starts S rule) (starts_model S rule F E ll1.tables) es ts fine q in
        subst Taken (sym r.1) tt

    taken : Taken (run rule F n es ts) → Starts S rule es ts
    taken h = go (run rule F n es ts) refl h
      where
        go : (r : Result (List (Ebnf S)) (List ℕ)) → run rule F n es ts ≡ r → Taken r → Starts S rule es ts
        go (Ok left) e h = run_begins S rule F E n ll1 es ts left fine e
        go (Err rest) e h = absurd h

  pub exact : (es : List (Ebnf S)) → are_ll1 F E es ≡ true → (ts : List ℕ) → Exact S rule F n es ts
  exact es h ts =
      let fine = are_ll1-Fine S F E es h in
      record {
        texts = (accepts es fine ts, accepted es fine ts);
        beginnings = (takes es fine ts, taken es fine ts);
        refusals = λ us e. run_stops S rule F E n ll1 es ts us fine e;
      }

  pub fronts : (es : List (Ebnf S)) → are_ll1 F E es ≡ true → (ts us : List ℕ) → Fronts S rule es ts us
  fronts es h ts us =
      let fine = are_ll1-Fine S F E es h in
      record { text = λ q. front_begins S rule F E n ll1 es ts us fine q; beginning = λ q. front_starts S rule F E n ll1 es ts us fine q }

module _ (S T : Type 0) (rule : S → Ebnf S) (kind : T → ℕ) where
  record Planted (e : Ebnf S) (ts : List T) (m : List ℕ) : Type 0 where
    pub rest : List T
    pub tree : Tree T
    pub kinds : m ≡ map kind rest
    pub makes : Makes S T rule kind e ts rest tree

  planted_tok : (c : ℕ) (m : List ℕ) (ts : List T) → c ∷ m ≡ map kind ts → Planted (Tok c) ts m
  planted_tok c m [] e = absurd cc
  planted_tok c m (t ∷ ts) e = record { rest = ts; tree = Leaf t; kinds = cc; makes = m-tok cc }

  -- a text of the kinds has a tree
  planted : {e : Ebnf S} {ks m : List ℕ} → Derives S rule e ks m → (ts : List T) → ks ≡ map kind ts → Planted e ts m
  planted (d-tok {c = c} {ts = m}) ts e = planted_tok c m ts e
  planted (d-sym g) ts e = let p = planted g ts e in record { rest = p.rest; tree = p.tree; kinds = p.kinds; makes = m-sym p.makes }
  planted d-eps ts e = record { rest = ts; tree = Empty; kinds = e; makes = m-eps }
  planted (d-seq g h) ts e =
      let p = planted g ts e in
      let q = planted h p.rest p.kinds in
      record { rest = q.rest; tree = Both p.tree q.tree; kinds = q.kinds; makes = m-seq p.makes q.makes }
  planted (d-left g) ts e = let p = planted g ts e in record { rest = p.rest; tree = First p.tree; kinds = p.kinds; makes = m-left p.makes }
  planted (d-right g) ts e = let p = planted g ts e in record { rest = p.rest; tree = Second p.tree; kinds = p.kinds; makes = m-right p.makes }
  planted d-stop ts e = record { rest = ts; tree = Empty; kinds = e; makes = m-stop }
  planted (d-more g h) ts e =
      let p = planted g ts e in
      let q = planted h p.rest p.kinds in
      record { rest = q.rest; tree = Both p.tree q.tree; kinds = q.kinds; makes = m-more p.makes q.makes }

  none_left : (us : List T) (m : List ℕ) → m ≡ map kind us → NothingLeft m → us ≡ []
  none_left [] m e h = refl
  none_left (u ∷ us) m e h = absurd (subst NothingLeft e h)

  pub texts_trees : (e : Ebnf S) (ts : List T) → Spells S rule (e ∷ []) (map kind ts) ↔ ((x : Tree T) × Makes S T rule kind e ts [] x)
  texts_trees e ts = (
    λ q. (let p = planted q.1 ts refl in (p.tree, subst (λ us. Makes S T rule kind e ts us p.tree) (none_left p.rest q.0 p.kinds q.2) p.makes)),
    λ q. ([], makes_derives S T rule kind q.1, tt),
  )

  pub only_tree : (F E : S → List ℕ) (n : ℕ) → IsLL1 S rule F E n → ((s : S) → one_empty (rule s) ≡ true) → (e : Ebnf S) → is_ll1 F E e ≡ true → one_empty e ≡ true → (ts : List T) (x y : Tree T) → Makes S T rule kind e ts [] x → Makes S T rule kind e ts [] y → x ≡ y
  only_tree F E n ll1 ones e h o ts x y g k = (one_tree S T rule kind F E ll1.tables ones g [] y [] k (is_ll1-Ok S F E e h, (λ t p q. true≢false (sym q)), tt) o tt tt).trees
