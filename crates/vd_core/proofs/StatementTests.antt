-- What statements with blocks meet.
use Rattle.std.proofs.Common.{◌≡◌, ℕ, Bool, true, ◌&&◌, List, [], ◌∷◌, map, refl, sym, ap, ◌∙◌, rules}
use Rattle.std.specs.List.{list_all}
use Rattle.std.proofs.lemmas.Bool.{and_from}
use Rattle.vd_base.specs.declared.ids.SlotId.{SlotId}
use Rattle.vd_core.specs.declared.normal.Stmt.{Stmt, If, For}
use Rattle.vd_core.specs.declared.normal.Stmt.TheFolds.{the_lemmas}
use Rattle.vd_core.specs.declared.normal.Stmt.TheOpen.{Stmt-F}
use Rattle.vd_core.specs.Facts.{all_meet, meets, blocks_meet}

list_all_map : {A : Type 0} (f : A → Bool) (xs : List A) → list_all f xs ≡ list_all (λ x. x) (map f xs)
list_all_map f [] = refl
list_all_map f (x ∷ xs) = ap (λ z. f x && z) (list_all_map f xs)

module _ (test : Stmt-F Bool → Bool) where
  if_is : (x : SlotId) (first other : List Stmt) (o : ℕ) → meets test (If x first other o) ≡ (λ (s : Stmt-F Bool). test s && blocks_meet s) (Stmt-F.If x (map (meets test) first) (map (meets test) other) o)
  if_is x first other o = search (rules, the_lemmas)

  for_is : (n : ℕ) (body : List Stmt) → meets test (For n body) ≡ (λ (s : Stmt-F Bool). test s && blocks_meet s) (Stmt-F.For n (map (meets test) body))
  for_is n body = search (rules, the_lemmas)

  pub if_meets : (x : SlotId) (first other : List Stmt) (o : ℕ) → test (Stmt-F.If x (map (meets test) first) (map (meets test) other) o) ≡ true → all_meet test first ≡ true → all_meet test other ≡ true
      → meets test (If x first other o) ≡ true
  if_meets x first other o t e f = if_is x first other o ∙ and_from _ _ t (and_from _ _ (sym (list_all_map (meets test) first) ∙ e) (sym (list_all_map (meets test) other) ∙ f))

  pub for_meets : (n : ℕ) (body : List Stmt) → test (Stmt-F.For n (map (meets test) body)) ≡ true → all_meet test body ≡ true → meets test (For n body) ≡ true
  for_meets n body t e = for_is n body ∙ and_from _ _ t (sym (list_all_map (meets test) body) ∙ e)
