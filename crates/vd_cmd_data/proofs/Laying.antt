-- The outputs of statements, one after another.
use Rattle.std.proofs.Common.{◌≡◌, ℕ, zero, suc, ◌+◌, ◌-◌, ◌<◌, List, [], ◌∷◌, ◌++◌, length, get_or, drop, map, refl, sym, ap, ◌∙◌, subst, arith, append_assoc, add-one, drop-cons}
use Rattle.vd_base.specs.declared.ids.HostId.{HostId}
use Rattle.vd_core.specs.declared.normal.Slot.{Slot}
use Rattle.vd_core.specs.declared.normal.Stmt.{Stmt, roll-Stmt, map-Stmt, ind-Stmt}
use Rattle.vd_core.specs.declared.normal.Stmt.TheOpen.{Stmt-F}
use Rattle.vd_core.specs.declared.normal.Stmt.TheFolds.{fold-roll-Stmt}
use Rattle.vd_cmd_data.specs.declared.outputs.Around.{Around}
use Rattle.vd_cmd_data.specs.declared.outputs.Place.{Place}
use Rattle.vd_cmd_data.specs.declared.spans.Span.{Span}
use Rattle.vd_cmd_data.specs.Outputs.{Brings, all_count, all_places, around_first, around_rest, block_span, brings, brings_step, deeper, span_step, statement_span, total, turn_places}
use Rattle.vd_cmd_data.specs.Spans.{either, times}

drop_next : (body : List Stmt) (i : ℕ) (s : Stmt) → i < length body → s ≡ get_or body i s → drop i body ≡ s ∷ drop (i + 1) body
drop_next body i s low is = rw (add-one i) (drop-cons body i s low ∙ ap (λ (x : Stmt). x ∷ drop (suc i) body) (sym is))

drop_suc : (body : List Stmt) (i : ℕ) → drop 1 (drop i body) ≡ drop (suc i) body
drop_suc [] zero = refl
drop_suc [] (suc i) = refl
drop_suc (s ∷ body) zero = refl
drop_suc (s ∷ body) (suc i) = drop_suc body i

drop_one : (body : List Stmt) (i : ℕ) → drop 1 (drop i body) ≡ drop (i + 1) body
drop_one body i = rw (add-one i) (drop_suc body i)

module _ (source : List ℕ) (slots : List Slot) (host : HostId) where
  abbrev the : Stmt → Brings
  the = brings source slots host

  abbrev Counts : Stmt → Type 0
  Counts s = (the s).count ≡ statement_span host s

  abbrev M : Type 0
  M = (s : Stmt) × Counts s

  abbrev layer : Stmt-F M → Stmt-F Stmt
  layer y = map-Stmt M Stmt (λ m. m.0) y

  abbrev statements : List M → List Stmt
  statements ms = map (λ (m : M). m.0) ms

  counts : (ms : List M) → map (λ (b : Brings). b.count) (map the (statements ms)) ≡ map (statement_span host) (statements ms)
  counts [] = refl
  counts (m ∷ ms) = ap (λ (n : Span). n ∷ map (λ (b : Brings). b.count) (map the (statements ms))) m.1 ∙ ap (λ (l : List Span). statement_span host m.0 ∷ l) (counts ms)

  step : (y : Stmt-F M) → (brings_step source slots host (map-Stmt Stmt Brings the (layer y))).count ≡ span_step host (map-Stmt Stmt Span (statement_span host) (layer y))
  step (Stmt-F.Let x r) = refl
  step (Stmt-F.NewVar v y) = refl
  step (Stmt-F.NewArray v cells) = refl
  step (Stmt-F.Store v y) = refl
  step (Stmt-F.Put v i y) = refl
  step (Stmt-F.Output y h offset) = refl
  step (Stmt-F.If g a b offset) = ap (λ (l : List Span). either (total l) (all_count (map the (statements b)))) (counts a) ∙ ap (λ (l : List Span). either (block_span host (statements a)) (total l)) (counts b)
  step (Stmt-F.For count body) = ap (λ (l : List Span). times count (total l)) (counts body)

  pub stmt_counts : (s : Stmt) → Counts s
  stmt_counts = ind-Stmt Counts (λ x y is. subst (λ z. Counts (roll-Stmt z)) is (at_roll y))
    where
      at_roll : (y : Stmt-F M) → Counts (roll-Stmt (layer y))
      at_roll y =
          ap (λ (b : Brings). b.count) (fold-roll-Stmt Brings (brings_step source slots host) (layer y))
          ∙ step y ∙ sym (fold-roll-Stmt Span (span_step host) (layer y))

  each_counts : (body : List Stmt) → map (λ (b : Brings). b.count) (map the body) ≡ map (statement_span host) body
  each_counts [] = refl
  each_counts (s ∷ body) = ap (λ (n : Span). n ∷ map (λ (b : Brings). b.count) (map the body)) (stmt_counts s) ∙ ap (λ (l : List Span). statement_span host s ∷ l) (each_counts body)

  pub body_counts : (body : List Stmt) → all_count (map the body) ≡ block_span host body
  body_counts body = ap total (each_counts body)

  -- one statement more
  pub next_places : (body : List Stmt) (i : ℕ) (s : Stmt) (turns : List ℕ) (here inside later : Around) (places after : List Place) → i < length body → s ≡ get_or body i s
      → inside ≡ around_first here (block_span host (drop (i + 1) body)) → later ≡ around_rest here (statement_span host s) → after ≡ places ++ (the s).places turns inside
      → after ++ all_places (map the (drop (i + 1) body)) turns later ≡ places ++ all_places (map the (drop i body)) turns here
  next_places body i s turns here inside later places after low is within behind added =
      let rest = drop (i + 1) body in
      let at : inside ≡ around_first here (all_count (map the rest)) = within ∙ ap (around_first here) (sym (body_counts rest)) in
      let then : later ≡ around_rest here (the s).count = behind ∙ ap (around_rest here) (sym (stmt_counts s)) in
      ap (λ (l : List Place). l ++ all_places (map the rest) turns later) (added ∙ ap (λ (a : Around). places ++ (the s).places turns a) at)
      ∙ ap (λ (a : Around). (places ++ (the s).places turns (around_first here (all_count (map the rest)))) ++ all_places (map the rest) turns a) then
      ∙ append_assoc places ((the s).places turns (around_first here (all_count (map the rest)))) (all_places (map the rest) turns (around_rest here (the s).count))
      ∙ ap (λ (b : List Stmt). places ++ all_places (map the b) turns here) (sym (drop_next body i s low is))

  pub next_rest : (body : List Stmt) (i : ℕ) (rest next : List Stmt) → rest ≡ drop i body → next ≡ drop 1 rest → next ≡ drop (i + 1) body
  next_rest body i rest next is one = one ∙ ap (drop 1) is ∙ drop_one body i

  -- one turn more
  pub next_turn : (body : List Stmt) (count turn left : ℕ) (turns inner : List ℕ) (here inside later : Around) (one : Span) (places after : List Place) → turn < count → left ≡ count - 1 - turn
      → one ≡ block_span host body → inner ≡ deeper turns turn → inside ≡ around_first here (times left one) → later ≡ around_rest here one
      → after ≡ places ++ all_places (map the body) inner inside
      → after ++ turn_places (map the body) (count - (turn + 1)) (turn + 1) turns later ≡ places ++ turn_places (map the body) (count - turn) turn turns here
  next_turn body count turn left turns inner here inside later one places after low lefts is deep within behind added =
      let list = map the body in
      let all : one ≡ all_count list = is ∙ sym (body_counts body) in
      let more : count - turn ≡ suc left = omega (arith, low, lefts) in
      let fewer : count - (turn + 1) ≡ left = omega (arith, low, lefts) in
      let at : inside ≡ around_first here (times left (all_count list)) = within ∙ ap (λ (n : Span). around_first here (times left n)) all in
      let then : later ≡ around_rest here (all_count list) = behind ∙ ap (around_rest here) all in
      ap (λ (n : ℕ). after ++ turn_places list n (turn + 1) turns later) fewer
      ∙ ap (λ (l : List Place). l ++ turn_places list left (turn + 1) turns later) (added ∙ ap (λ (t : List ℕ). places ++ all_places list t inside) deep ∙ ap (λ (a : Around). places ++ all_places list (deeper turns turn) a) at)
      ∙ ap (λ (a : Around). (places ++ all_places list (deeper turns turn) (around_first here (times left (all_count list)))) ++ turn_places list left (turn + 1) turns a) then
      ∙ append_assoc places (all_places list (deeper turns turn) (around_first here (times left (all_count list)))) (turn_places list left (turn + 1) turns (around_rest here (all_count list)))
      ∙ ap (λ (n : ℕ). places ++ turn_places list n turn turns here) (sym more)
