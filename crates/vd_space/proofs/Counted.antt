-- A program's problem has as many slots as the program.
use Rattle.std.proofs.Common.{◌≡◌, ℕ, ◌*◌, List, [], ◌∷◌, ◌++◌, map, length, refl, sym, ap, ◌∙◌, subst, subst₂, arith, length-append}
use Rattle.std.proofs.lemmas.List.FromFn.{length-range_with_len}
use Rattle.vd_core.specs.Facts.{slots_step, slots_of, slots_made, IsWellMade}
use Rattle.vd_core.specs.declared.normal.NormalForm.{NormalForm}
use Rattle.vd_core.specs.declared.normal.Stmt.{Stmt, roll-Stmt, map-Stmt, ind-Stmt}
use Rattle.vd_core.specs.declared.normal.Stmt.TheOpen.{Stmt-F}
use Rattle.vd_core.specs.declared.normal.Stmt.TheFolds.{fold-roll-Stmt}
use Rattle.vd_constraints.specs.declared.labels.Labels.{Labels}
use Rattle.vd_space.specs.declared.problem.Making.{Making}
use Rattle.vd_space.specs.Reading.{Read, all_parts, read_step, read_stmt, problem_of}

module _ (l : Labels) where
  -- as many slots as are made
  abbrev Counts : List ℕ → Read → Type 0
  Counts made read = (weight : ℕ) → length (read.parts weight).slots ≡ length made

  abbrev M : Type 0
  M = (s : Stmt) × Counts (slots_of s) (read_stmt l s)

  abbrev statements : List M → List Stmt
  statements = map {B = Stmt} (λ (m : M). m.0)

  abbrev layer : Stmt-F M → Stmt-F Stmt
  layer = map-Stmt M Stmt (λ m. m.0)

  joined_counts : (one more : List Making) (made others : List ℕ) → length one ≡ length made → length more ≡ length others → length (one ++ more) ≡ length (made ++ others)
  joined_counts one more made others first second = omega (arith, length-append one more, length-append made others, first, second)

  all_count : (ms : List M) (weight : ℕ) → length (all_parts (map (read_stmt l) (statements ms)) weight).slots ≡ length (slots_made (statements ms))
  all_count [] weight = refl
  all_count (m ∷ ms) weight =
      joined_counts ((read_stmt l m.0).parts weight).slots (all_parts (map (read_stmt l) (statements ms)) weight).slots (slots_of m.0) (slots_made (statements ms)) (m.1 weight) (all_count ms weight)

  step : (y : Stmt-F M) → Counts (slots_step (map-Stmt Stmt (List ℕ) slots_of (layer y))) (read_step l (map-Stmt Stmt Read (read_stmt l) (layer y)))
  step (Stmt-F.Let x r) weight = refl
  step (Stmt-F.NewVar v y) weight = refl
  step (Stmt-F.NewArray v cells) weight = refl
  step (Stmt-F.Store v y) weight = refl
  step (Stmt-F.Put v i y) weight = refl
  step (Stmt-F.Output y h offset) weight = refl
  step (Stmt-F.If y a b offset) weight =
      joined_counts (all_parts (map (read_stmt l) (statements a)) weight).slots (all_parts (map (read_stmt l) (statements b)) weight).slots (slots_made (statements a)) (slots_made (statements b)) (all_count a weight) (all_count b weight)
  step (Stmt-F.For count body) weight = all_count body (weight * count)

  stmt_counts : (s : Stmt) → Counts (slots_of s) (read_stmt l s)
  stmt_counts = ind-Stmt (λ s. Counts (slots_of s) (read_stmt l s)) (λ x y is. subst (λ z. Counts (slots_of (roll-Stmt z)) (read_stmt l (roll-Stmt z))) is (at_roll y))
    where
      at_roll : (y : Stmt-F M) → Counts (slots_of (roll-Stmt (layer y))) (read_stmt l (roll-Stmt (layer y)))
      at_roll y = subst₂ Counts (sym (fold-roll-Stmt (List ℕ) slots_step (layer y))) (sym (fold-roll-Stmt Read (read_step l) (layer y))) (step y)

  body_counts : (body : List Stmt) (weight : ℕ) → length (all_parts (map (read_stmt l) body) weight).slots ≡ length (slots_made body)
  body_counts [] weight = refl
  body_counts (s ∷ body) weight = joined_counts ((read_stmt l s).parts weight).slots (all_parts (map (read_stmt l) body) weight).slots (slots_of s) (slots_made body) (stmt_counts s weight) (body_counts body weight)

pub as_many : (p : NormalForm) (l : Labels) → IsWellMade p → length (problem_of p l).slots ≡ length p.slots
as_many p l is = body_counts l p.body 1 ∙ ap length is.in_order ∙ length-range_with_len 0 (length p.slots)
