-- How far the walk over a program can go down.
use Rattle.std.proofs.Common.{◌≡◌, ℕ, ◌+◌, ◌<◌, ◌≤◌, List, length, get_or, sym, subst, rules}
use Rattle.std.specs.List.{sum_by}
use Rattle.std.proofs.lemmas.List.Sums.{sum-map, get_or-le-sum_by}
use Rattle.vd_base.specs.declared.ids.SlotId.{SlotId}
use Rattle.vd_core.specs.declared.normal.Stmt.{Stmt}
use Rattle.vd_core.specs.declared.normal.Stmt.TheVariants.{If}
use Rattle.vd_core.specs.declared.normal.Stmt.TheFolds.{the_lemmas}
use Rattle.vd_core.specs.Facts.{count_of, statement_count}

pub if_size : (y : SlotId) (a b : List Stmt) (offset : ℕ) → count_of (If y a b offset) ≡ 1 + statement_count a + statement_count b
if_size y a b offset = search (rules, the_lemmas)

pub stmt_fits : (body : List Stmt) (k : ℕ) (s : Stmt) → k < length body → s ≡ get_or body k s → count_of s ≤ statement_count body
stmt_fits body k s low is =
    let within : count_of (get_or body k s) ≤ sum_by count_of body = get_or-le-sum_by count_of body k s low in
    subst (λ n. count_of s ≤ n) (sym (sum-map count_of body)) (subst (λ (x : Stmt). count_of x ≤ sum_by count_of body) (sym is) within)
