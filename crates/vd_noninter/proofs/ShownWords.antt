-- What is shown does not depend on what is given or freed.
use Rattle.std.proofs.Common.{◌≡◌, ℕ, zero, suc, Bool, true, false, List, [], ◌∷◌, ◌++◌, map, refl, sym, ap, ◌∙◌, subst, if◌then◌else◌, nat_eq}
use Rattle.vd_core.specs.declared.normal.Stmt.{Stmt, roll-Stmt, map-Stmt, ind-Stmt}
use Rattle.vd_core.specs.declared.normal.Stmt.TheOpen.{Stmt-F}
use Rattle.vd_core.specs.declared.normal.Stmt.TheFolds.{fold-roll-Stmt}
use Rattle.vd_semantics.specs.Turns.{turns}
use Rattle.vd_semantics.specs.ProgramMeaning.{SlotState, Effect, word_at, in_order}
use Rattle.vd_noninter.specs.Watching.{Watched, Downgrades, Taps, run_of, shown_by, words_in_order, words_of_turns, words_at, shape, Showing, watched_step, watched}
use Rattle.vd_noninter.proofs.NoninterLawsWalk.{run_is, block_run_is}

both_words : (a a' b b' : List ℕ) → a ≡ a' → b ≡ b' → a ++ b ≡ a' ++ b'
both_words a a' b b' e f = rw (e, f) refl

module _ (given given' freed freed' : Downgrades) (kept : ℕ → Bool) (shows : Showing) where
  abbrev taps : Taps
  taps = record { given = given; freed = freed; kept = kept; shows = shows }

  abbrev taps' : Taps
  taps' = record { given = given'; freed = freed'; kept = kept; shows = shows }

  abbrev one : Stmt → Watched
  one = watched taps

  abbrev other : Stmt → Watched
  other = watched taps'

  runs_same : (s : Stmt) → (one s).run ≡ (other s).run
  runs_same s = run_is taps s ∙ sym (run_is taps' s)

  abbrev SameWords : Stmt → Type 0
  SameWords s = (turn : ℕ) (t : SlotState) → (one s).shown turn t ≡ (other s).shown turn t

  abbrev M : Type 0
  M = (s : Stmt) × SameWords s

  abbrev statements : List M → List Stmt
  statements = map {B = Stmt} (λ (m : M). m.0)

  abbrev layer : Stmt-F M → Stmt-F Stmt
  layer = map-Stmt M Stmt (λ m. m.0)

  abbrev BlockSame : List Stmt → Type 0
  BlockSame body = (turn : ℕ) (t : SlotState) → words_in_order shown_by (map one body) turn t ≡ words_in_order shown_by (map other body) turn t

  more_same : (s : Stmt) (body : List Stmt) → SameWords s → BlockSame body → BlockSame (s ∷ body)
  more_same s body first rest turn t =
      both_words ((one s).shown turn t) ((other s).shown turn t) (words_in_order shown_by (map one body) turn ((one s).run turn t)) (words_in_order shown_by (map other body) turn ((other s).run turn t)) (first turn t)
      (ap (λ (f : Effect). words_in_order shown_by (map one body) turn (f turn t)) (runs_same s) ∙ rest turn ((other s).run turn t))

  all_same : (ms : List M) → BlockSame (statements ms)
  all_same [] = λ turn t. refl
  all_same (m ∷ ms) = more_same m.0 (statements ms) m.1 (all_same ms)

  block_runs : (body : List Stmt) → in_order (map run_of (map one body)) ≡ in_order (map run_of (map other body))
  block_runs body = block_run_is taps body ∙ sym (block_run_is taps' body)

  loop_same : (n : ℕ) (body : List Stmt) → BlockSame body → (t : SlotState) → words_of_turns n shown_by (map one body) t ≡ words_of_turns n shown_by (map other body) t
  loop_same zero body same t = refl
  loop_same (suc n) body same t =
      both_words (words_of_turns n shown_by (map one body) t) (words_of_turns n shown_by (map other body) t) (words_in_order shown_by (map one body) n (turns n (in_order (map run_of (map one body))) t)) (words_in_order shown_by (map other body) n (turns n (in_order (map run_of (map other body))) t))
      (loop_same n body same t)
      (ap (λ (f : Effect). words_in_order shown_by (map one body) n (turns n f t)) (block_runs body) ∙ same n (turns n (in_order (map run_of (map other body))) t))

  branch_same : (c : Bool) (a b : List Stmt) → BlockSame a → BlockSame b → (turn : ℕ) (t : SlotState) → words_in_order shown_by (if c then map one b else map one a) turn t ≡ words_in_order shown_by (if c then map other b else map other a) turn t
  branch_same true a b first second = second
  branch_same false a b first second = first

  step : (y : Stmt-F M) (turn : ℕ) (t : SlotState) → (watched_step taps (map-Stmt Stmt Watched one (layer y))).shown turn t ≡ (watched_step taps' (map-Stmt Stmt Watched other (layer y))).shown turn t
  step (Stmt-F.Let x r) turn t = refl
  step (Stmt-F.NewVar v y) turn t = refl
  step (Stmt-F.NewArray v size) turn t = refl
  step (Stmt-F.Store v y) turn t = refl
  step (Stmt-F.Put v i y) turn t = refl
  step (Stmt-F.Output y host offset) turn t = refl
  step (Stmt-F.If g a b offset) turn t = by (kept g.0)
    where
      lists : (ms : List M) → map {B = Bool} (λ w. true) (map one (statements ms)) ≡ map {B = Bool} (λ w. true) (map other (statements ms))
      lists [] = refl
      lists (m ∷ ms) = ap (λ (z : List Bool). true ∷ z) (lists ms)

      head : shape (map-Stmt Stmt Watched one (layer (Stmt-F.If g a b offset))) ≡ shape (map-Stmt Stmt Watched other (layer (Stmt-F.If g a b offset)))
      head = rw (lists a, lists b) refl

      by : (c : Bool) → (if c then words_at kept (shows (shape (Stmt-F.If g (map one (statements a)) (map one (statements b)) offset))) t ++ words_in_order shown_by (if nat_eq (word_at t g) 0 then map one (statements b) else map one (statements a)) turn t else [])
          ≡ (if c then words_at kept (shows (shape (Stmt-F.If g (map other (statements a)) (map other (statements b)) offset))) t ++ words_in_order shown_by (if nat_eq (word_at t g) 0 then map other (statements b) else map other (statements a)) turn t else [])
      by true =
          both_words (words_at kept (shows (shape (Stmt-F.If g (map one (statements a)) (map one (statements b)) offset))) t) (words_at kept (shows (shape (Stmt-F.If g (map other (statements a)) (map other (statements b)) offset))) t)
          (words_in_order shown_by (if nat_eq (word_at t g) 0 then map one (statements b) else map one (statements a)) turn t) (words_in_order shown_by (if nat_eq (word_at t g) 0 then map other (statements b) else map other (statements a)) turn t)
          (ap (λ (z : Stmt-F Bool). words_at kept (shows z) t) head) (branch_same (nat_eq (word_at t g) 0) (statements a) (statements b) (all_same a) (all_same b) turn t)
      by false = refl
  step (Stmt-F.For count body) turn t = loop_same count (statements body) (all_same body) t

  stmt_same : (s : Stmt) → SameWords s
  stmt_same = ind-Stmt SameWords (λ x y is. subst (λ z. SameWords (roll-Stmt z)) is (at_roll y))
    where
      at_roll : (y : Stmt-F M) → SameWords (roll-Stmt (layer y))
      at_roll y turn t =
          ap (λ (w : Watched). w.shown turn t) (fold-roll-Stmt Watched (watched_step taps) (layer y)) ∙ step y turn t
          ∙ sym (ap (λ (w : Watched). w.shown turn t) (fold-roll-Stmt Watched (watched_step taps') (layer y)))

  pub body_same : (body : List Stmt) → BlockSame body
  body_same [] turn t = refl
  body_same (s ∷ body) turn t = more_same s body (stmt_same s) (body_same body) turn t
