-- What is seen of statements with blocks.
use Rattle.std.proofs.Common.{◌≡◌, ℕ, List, [], ◌∷◌, map, Option, refl, sym, ap, ap₂, ◌∙◌, subst, rules}
use Rattle.vd_base.specs.declared.ids.SlotId.{SlotId}
use Rattle.std.specs.Prelude.{Bool}
use Rattle.vd_core.specs.declared.normal.Stmt.{Stmt, If, For, roll-Stmt, map-Stmt, ind-Stmt}
use Rattle.vd_core.specs.declared.normal.Stmt.TheOpen.{Stmt-F}
use Rattle.vd_core.specs.declared.normal.Stmt.TheFolds.{the_lemmas, fold-roll-Stmt}
use Rattle.vd_diag_terminal.specs.declared.diag_branches.barriers.Barrier.{Barrier}
use Rattle.vd_diag_terminal.specs.declared.diag_branches.hidden.Branch.{Branch}
use Rattle.vd_diag_terminal.specs.Barriers.{or_else, first_of, barrier_step, barrier_of, first_in, own_branch, branch_at, Seen, barriers_seen, branches_seen, seen_step, seen, branch_of, first_branch}

module _ (hides : SlotId → Bool) where
  -- the barriers are those that a statement has by itself
  abbrev Same : Stmt → Type 0
  Same s = (seen hides s).barrier ≡ barrier_of s

  abbrev M : Type 0
  M = (s : Stmt) × Same s

  abbrev stmts : List M → List Stmt
  stmts ms = map (λ (m : M). m.0) ms

  all_same : (ms : List M) → barriers_seen (map (seen hides) (stmts ms)) ≡ first_of (map barrier_of (stmts ms))
  all_same [] = refl
  all_same (m ∷ ms) = ap₂ (λ (a b : Option Barrier). or_else a b) m.1 (all_same ms)

  abbrev layer : Stmt-F M → Stmt-F Stmt
  layer = map-Stmt M Stmt (λ m. m.0)

  step : (y : Stmt-F M) → (seen_step hides (map-Stmt Stmt Seen (seen hides) (layer y))).barrier ≡ barrier_step (map-Stmt Stmt (Option Barrier) barrier_of (layer y))
  step (Stmt-F.Let x r) = refl
  step (Stmt-F.NewVar v x) = refl
  step (Stmt-F.NewArray v n) = refl
  step (Stmt-F.Store v x) = refl
  step (Stmt-F.Put v i x) = refl
  step (Stmt-F.Output x h offset) = refl
  step (Stmt-F.If g a b offset) = ap₂ (λ (c d : Option Barrier). or_else c d) (all_same a) (all_same b)
  step (Stmt-F.For n body) = refl

  same : (s : Stmt) → Same s
  same = ind-Stmt Same (λ x y is. subst (λ z. Same (roll-Stmt z)) is
      (ap (λ (s : Seen). s.barrier) (fold-roll-Stmt Seen (seen_step hides) (layer y)) ∙ step y ∙ sym (fold-roll-Stmt (Option Barrier) barrier_step (layer y))))

  body_same : (body : List Stmt) → barriers_seen (map (seen hides) body) ≡ first_in body
  body_same [] = refl
  body_same (s ∷ ss) = ap₂ (λ (a b : Option Barrier). or_else a b) (same s) (body_same ss)

  branches_same : (body : List Stmt) → branches_seen (map (seen hides) body) ≡ first_branch hides body
  branches_same [] = refl
  branches_same (s ∷ ss) = ap (or_else (branch_of hides s)) (branches_same ss)

  if_seen : (g : SlotId) (a b : List Stmt) (offset : ℕ) → seen hides (If g a b offset) ≡ seen_step hides (Stmt-F.If g (map (seen hides) a) (map (seen hides) b) offset)
  if_seen g a b offset = search (rules, the_lemmas)

  for_seen : (n : ℕ) (body : List Stmt) → seen hides (For n body) ≡ seen_step hides (Stmt-F.For n (map (seen hides) body))
  for_seen n body = search (rules, the_lemmas)

  pub if_branch : (g : SlotId) (a b : List Stmt) (offset : ℕ) → branch_of hides (If g a b offset) ≡ or_else (branch_at (hides g) a b offset) (or_else (first_branch hides a) (first_branch hides b))
  if_branch g a b offset =
      ap (λ (s : Seen). s.branch) (if_seen g a b offset)
      ∙ ap₂ (λ (c d : Option Barrier). or_else (own_branch (hides g) offset (or_else c d)) (or_else (branches_seen (map (seen hides) a)) (branches_seen (map (seen hides) b)))) (body_same a) (body_same b)
      ∙ ap₂ (λ (c d : Option Branch). or_else (branch_at (hides g) a b offset) (or_else c d)) (branches_same a) (branches_same b)

  pub for_branch : (n : ℕ) (body : List Stmt) → branch_of hides (For n body) ≡ first_branch hides body
  for_branch n body = ap (λ (s : Seen). s.branch) (for_seen n body) ∙ branches_same body
