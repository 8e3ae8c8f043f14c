-- The words of some downgrades depend on nothing else that is looked at.
use Rattle.std.proofs.Common.{◌≡◌, ℕ, zero, suc, Bool, true, false, List, [], ◌∷◌, ◌++◌, map, refl, sym, ap, ◌∙◌, subst, if◌then◌else◌, nat_eq}
use Rattle.vd_core.specs.declared.normal.Stmt.{Stmt, roll-Stmt, map-Stmt, ind-Stmt}
use Rattle.vd_core.specs.declared.normal.Stmt.TheOpen.{Stmt-F}
use Rattle.vd_core.specs.declared.normal.Stmt.TheFolds.{fold-roll-Stmt}
use Rattle.vd_semantics.specs.Turns.{turns}
use Rattle.vd_semantics.specs.ProgramMeaning.{SlotState, Effect, word_at, in_order}
use Rattle.vd_noninter.specs.Watching.{Watched, Words, Downgrades, Taps, run_of, words_in_order, words_of_turns, stmt_downgraded, watched_step, watched}
use Rattle.vd_noninter.proofs.NoninterLawsWalk.{run_is, block_run_is}

both_words : (a a' b b' : List ℕ) → a ≡ a' → b ≡ b' → a ++ b ≡ a' ++ b'
both_words a a' b b' e f = rw (e, f) refl

-- one trace of each of two ways to look, both of these downgrades
module _ (these : Downgrades) (taps taps' : Taps) (which which' : Watched → Words) (is : (s : Stmt-F Watched) → which (watched_step taps s) ≡ stmt_downgraded these which s) (is' : (s : Stmt-F Watched) → which' (watched_step taps' s) ≡ stmt_downgraded these which' s) where
  abbrev one : Stmt → Watched
  one = watched taps

  abbrev other : Stmt → Watched
  other = watched taps'

  runs_same : (s : Stmt) → (one s).run ≡ (other s).run
  runs_same s = run_is taps s ∙ sym (run_is taps' s)

  abbrev SameWords : Stmt → Type 0
  SameWords s = (turn : ℕ) (t : SlotState) → which (one s) turn t ≡ which' (other s) turn t

  abbrev M : Type 0
  M = (s : Stmt) × SameWords s

  abbrev statements : List M → List Stmt
  statements = map {B = Stmt} (λ (m : M). m.0)

  abbrev layer : Stmt-F M → Stmt-F Stmt
  layer = map-Stmt M Stmt (λ m. m.0)

  abbrev BlockSame : List Stmt → Type 0
  BlockSame body = (turn : ℕ) (t : SlotState) → words_in_order which (map one body) turn t ≡ words_in_order which' (map other body) turn t

  more_same : (s : Stmt) (body : List Stmt) → SameWords s → BlockSame body → BlockSame (s ∷ body)
  more_same s body first rest turn t =
      both_words (which (one s) turn t) (which' (other s) turn t) (words_in_order which (map one body) turn ((one s).run turn t)) (words_in_order which' (map other body) turn ((other s).run turn t)) (first turn t)
      (ap (λ (f : Effect). words_in_order which (map one body) turn (f turn t)) (runs_same s) ∙ rest turn ((other s).run turn t))

  all_same : (ms : List M) → BlockSame (statements ms)
  all_same [] = λ turn t. refl
  all_same (m ∷ ms) = more_same m.0 (statements ms) m.1 (all_same ms)

  block_runs : (body : List Stmt) → in_order (map run_of (map one body)) ≡ in_order (map run_of (map other body))
  block_runs body = block_run_is taps body ∙ sym (block_run_is taps' body)

  loop_same : (n : ℕ) (body : List Stmt) → BlockSame body → (t : SlotState) → words_of_turns n which (map one body) t ≡ words_of_turns n which' (map other body) t
  loop_same zero body same t = refl
  loop_same (suc n) body same t =
      both_words (words_of_turns n which (map one body) t) (words_of_turns n which' (map other body) t) (words_in_order which (map one body) n (turns n (in_order (map run_of (map one body))) t)) (words_in_order which' (map other body) n (turns n (in_order (map run_of (map other body))) t))
      (loop_same n body same t)
      (ap (λ (f : Effect). words_in_order which (map one body) n (turns n f t)) (block_runs body) ∙ same n (turns n (in_order (map run_of (map other body))) t))

  branch_same : (c : Bool) (a b : List Stmt) → BlockSame a → BlockSame b → (turn : ℕ) (t : SlotState) → words_in_order which (if c then map one b else map one a) turn t ≡ words_in_order which' (if c then map other b else map other a) turn t
  branch_same true a b first second = second
  branch_same false a b first second = first

  step : (y : Stmt-F M) (turn : ℕ) (t : SlotState) → stmt_downgraded these which (map-Stmt Stmt Watched one (layer y)) turn t ≡ stmt_downgraded these which' (map-Stmt Stmt Watched other (layer y)) turn t
  step (Stmt-F.Let x r) turn t = refl
  step (Stmt-F.NewVar v y) turn t = refl
  step (Stmt-F.NewArray v size) turn t = refl
  step (Stmt-F.Store v y) turn t = refl
  step (Stmt-F.Put v i y) turn t = refl
  step (Stmt-F.Output y host offset) turn t = refl
  step (Stmt-F.If g a b offset) turn t = branch_same (nat_eq (word_at t g) 0) (statements a) (statements b) (all_same a) (all_same b) turn t
  step (Stmt-F.For count body) turn t = loop_same count (statements body) (all_same body) t

  stmt_same : (s : Stmt) → SameWords s
  stmt_same = ind-Stmt SameWords (λ x y same. subst (λ z. SameWords (roll-Stmt z)) same (at_roll y))
    where
      at_roll : (y : Stmt-F M) → SameWords (roll-Stmt (layer y))
      at_roll y turn t =
          ap (λ (w : Watched). which w turn t) (fold-roll-Stmt Watched (watched_step taps) (layer y)) ∙ ap (λ (w : Words). w turn t) (is (map-Stmt Stmt Watched one (layer y))) ∙ step y turn t
          ∙ sym (ap (λ (w : Words). w turn t) (is' (map-Stmt Stmt Watched other (layer y)))) ∙ sym (ap (λ (w : Watched). which' w turn t) (fold-roll-Stmt Watched (watched_step taps') (layer y)))

  pub body_same : (body : List Stmt) → BlockSame body
  body_same [] turn t = refl
  body_same (s ∷ body) turn t = more_same s body (stmt_same s) (body_same body) turn t
