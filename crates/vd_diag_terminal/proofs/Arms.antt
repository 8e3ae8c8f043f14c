-- The first branch in a statement, by what is found in its parts.
use Rattle.std.proofs.Common.{◌≡◌, ℕ, Bool, List, Option, Some, None, sym, ap, ap₂, ◌∙◌}
use Rattle.vd_base.specs.declared.ids.SlotId.{SlotId}
use Rattle.vd_core.specs.declared.normal.Stmt.{Stmt, If, For}
use Rattle.vd_diag_terminal.specs.declared.diag_branches.hidden.Branch.{Branch}
use Rattle.vd_diag_terminal.specs.Barriers.{or_else, branch_at, branch_of, first_branch}
use Rattle.vd_diag_terminal.proofs.Seen.{if_branch, for_branch}

module _ (hides : SlotId → Bool) (s : Stmt) (g : SlotId) (a b xs ys : List Stmt) (offset : ℕ) (is : s ≡ If g a b offset) (front : xs ≡ a) (back : ys ≡ b) (own : Option Branch) (owns : own ≡ branch_at (hides g) xs ys offset) where
  whole : branch_of hides s ≡ or_else own (or_else (first_branch hides xs) (first_branch hides ys))
  whole =
      ap (branch_of hides) is
      ∙ if_branch hides g a b offset
      ∙ ap₂ (λ (u v : List Stmt). or_else (branch_at (hides g) u v offset) (or_else (first_branch hides u) (first_branch hides v))) (sym front) (sym back)
      ∙ ap (λ (o : Option Branch). or_else o (or_else (first_branch hides xs) (first_branch hides ys))) (sym owns)

  -- its own
  pub own_found : (x : Branch) → own ≡ Some x → Some x ≡ branch_of hides s
  own_found x there = sym (whole ∙ ap (λ (o : Option Branch). or_else o (or_else (first_branch hides xs) (first_branch hides ys))) there)

  -- one in its first block
  pub front_found : (p : Option Branch) (x : Branch) → p ≡ first_branch hides xs → own ≡ None → p ≡ Some x → Some x ≡ branch_of hides s
  front_found p x first none there = sym (whole ∙ ap₂ (λ (o q : Option Branch). or_else o (or_else q (first_branch hides ys))) none (sym first ∙ there))

  -- or what its second block has
  pub back_left : (p r : Option Branch) → p ≡ first_branch hides xs → r ≡ first_branch hides ys → own ≡ None → p ≡ None → r ≡ branch_of hides s
  back_left p r first last none gone = last ∙ sym (whole ∙ ap₂ (λ (o q : Option Branch). or_else o (or_else q (first_branch hides ys))) none (sym first ∙ gone))

pub in_for : (hides : SlotId → Bool) (s : Stmt) (n : ℕ) (body xs : List Stmt) (r : Option Branch) → s ≡ For n body → xs ≡ body → r ≡ first_branch hides xs → r ≡ branch_of hides s
in_for hides s n body xs r is same last = last ∙ ap (first_branch hides) same ∙ sym (ap (branch_of hides) is ∙ for_branch hides n body)
