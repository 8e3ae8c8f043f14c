-- The list that a yes names is whole and has the stated cost.
use Rattle.std.proofs.Common.{◌≡◌, ℕ, ◌||◌, not, cond, Option, Some, None, Result, Ok, Err, List, [], ◌∷◌, ◌++◌, length, refl, sym, ap, ◌∙◌, subst, pos}
use Rattle.std.specs.Prelude.{IfOk, ◌≢◌, is_some, is_none, ◌==◌}
use Rattle.std.specs.Ordering.{int_eq}
use Rattle.std.proofs.lemmas.Bool.{true≢false, cond-true, or_parts, not-false, eqb-true}
use Rattle.vd_search_tree.specs.Trees.{Tree, IsBounded}
use Rattle.vd_search_tree.specs.declared.search_certificate.certificate.Mark.{Mark}
use Rattle.vd_search_tree.specs.declared.search_certificate.certificate.Mark.TheVariants.{Expanded, Violated, Bounded, Best}
use Rattle.vd_bound.specs.declared.checking.Reading.{Reading}
use Rattle.vd_bound.specs.declared.checking.Found.{Found}
use Rattle.vd_bound.specs.declared.checking.Proved.{Proved}
use Rattle.vd_bound.specs.declared.checking.Proved.TheVariants.{Least, Empty}
use Rattle.vd_bound.specs.declared.checking.CheckFault.{CheckFault}
use Rattle.vd_bound.specs.declared.checking.CheckFault.TheVariants.{BestInvalid, CostWrong, Memory}
use Rattle.vd_bound.specs.Marks.{opened_by, Shows}
use Rattle.vd_bound.specs.Checking.{misplaced, found_at, read_mark, read_marks, nothing_read, or_proved, judge_best, judge, judge_all, checked, Proves}
use Rattle.vd_bound.proofs.Sound.{sound_shows}
use Rattle.vd_bound.proofs.Yes.{not_ok, ok_same, passed, judged_found, yes_is_sound}

module _ (tree : Tree) (stated : Option ℕ) where
  -- the list with the mark of the best is as long as a whole one
  record IsBestOf (found : Found) : Type 0 where
    prefix : List ℕ
    is : found ≡ found_at tree prefix
    full : length prefix ≡ tree.slots

  AreBest : Option Found → Type 0
  AreBest best = (found : Found) → best ≡ Some found → IsBestOf found

  some_same : (a b : Found) → ◌≡◌ {A = Option Found} (Some a) (Some b) → a ≡ b
  some_same a b is = cc

  best_full : (waiting : List (List ℕ)) (marks : List Mark) (reading end : Reading) → read_marks tree stated reading waiting marks ≡ Ok end → AreBest reading.best → AreBest end.best
  unfolding AreBest
  best_full [] [] reading end is best = λ found has. best found (ap (λ (r : Reading). r.best) (ok_same is) ∙ has)
  best_full [] (mark ∷ marks) reading end is best = not_ok is
  best_full (prefix ∷ waiting) [] reading end is best = not_ok is
  best_full (prefix ∷ waiting) (Expanded ∷ marks) reading end is best =
      let on = passed (misplaced tree stated (is_some reading.best) prefix Expanded) reading.at (read_marks tree stated (read_mark tree stated reading prefix Expanded) (opened_by tree prefix Expanded ++ waiting) marks) end is in
      best_full (opened_by tree prefix Expanded ++ waiting) marks (read_mark tree stated reading prefix Expanded) end on.1 best
  best_full (prefix ∷ waiting) (Violated ∷ marks) reading end is best =
      let on = passed (misplaced tree stated (is_some reading.best) prefix Violated) reading.at (read_marks tree stated (read_mark tree stated reading prefix Violated) waiting marks) end is in
      best_full waiting marks (read_mark tree stated reading prefix Violated) end on.1 best
  best_full (prefix ∷ waiting) (Bounded ∷ marks) reading end is best =
      let on = passed (misplaced tree stated (is_some reading.best) prefix Bounded) reading.at (read_marks tree stated (read_mark tree stated reading prefix Bounded) waiting marks) end is in
      best_full waiting marks (read_mark tree stated reading prefix Bounded) end on.1 best
  best_full (prefix ∷ waiting) (Best ∷ marks) reading end is best =
      let on = passed (misplaced tree stated (is_some reading.best) prefix Best) reading.at (read_marks tree stated (read_mark tree stated reading prefix Best) waiting marks) end is in
      let parts = or_parts (not (length prefix == tree.slots) || is_some reading.best) (is_none stated) on.0 in
      let first = or_parts (not (length prefix == tree.slots)) (is_some reading.best) parts.0 in
      best_full waiting marks (read_mark tree stated reading prefix Best) end on.1
      (λ found has. record { prefix = prefix; is = sym (some_same (found_at tree prefix) found has); full = eqb-true (length prefix) tree.slots (not-false (length prefix == tree.slots) first.0) })

least_answer : (cost : ℕ) (found : Found) (fault : Option CheckFault) (proved : Proved) → judge_best cost found fault ≡ Ok proved → proved ≡ Least found.list cost
least_answer cost found fault proved is =
    let valid = passed (not found.valid) BestInvalid (cond (not (int_eq found.cost (pos cost))) (Err (CostWrong cost found.cost)) (or_proved fault (Least found.list cost))) proved is in
    let costs = passed (not (int_eq found.cost (pos cost))) (CostWrong cost found.cost) (or_proved fault (Least found.list cost)) proved valid.1 in
    by fault costs.1
  where
    by : (f : Option CheckFault) → or_proved f (Least found.list cost) ≡ Ok proved → proved ≡ Least found.list cost
    by None same = sym (ok_same same)
    by (Some e) same = not_ok same

empty_answer : (fault : Option CheckFault) (proved : Proved) → or_proved fault Empty ≡ Ok proved → proved ≡ Empty
empty_answer None proved same = sym (ok_same same)
empty_answer (Some e) proved same = not_ok same

module _ (tree : Tree) (bounded : IsBounded tree) (marks : List Mark) (proved : Proved) where
  judged : (stated : Option ℕ) (end : Reading) → read_marks tree stated nothing_read ([] ∷ []) marks ≡ Ok end → judge stated end ≡ Ok proved → Shows tree stated → Proves tree proved
  unfolding AreBest
  judged None end read is shows = subst (Proves tree) (sym (empty_answer end.fault proved is)) shows
  judged (Some cost) end read is shows =
      let found = judged_found tree cost end.at end.best end.fault proved is in
      let best = best_full tree (Some cost) ([] ∷ []) marks nothing_read end read (λ other has. absurd (true≢false (sym (ap is_some has)))) found.0 found.1 in
      let again = subst (λ (b : Option Found). judge (Some cost) (record { at = end.at; best = b; fault = end.fault }) ≡ Ok proved) found.1 is in
      let answer = least_answer cost found.0 end.fault proved again in
      let valid = sym (ap (λ (f : Found). f.valid) best.is) ∙ found.2 in
      let costs = sym (cond-true (tree.valid best.prefix) (tree.bound best.prefix) (pos 0) valid) ∙ sym (ap (λ (f : Found). f.cost) best.is) ∙ found.3 in
      let list = ap (λ (f : Found). f.list) best.is in
      subst (Proves tree) (sym (answer ∙ ap (λ l. Least l cost) list)) (record { full = best.full; valid = valid }, costs, shows.1)

  pub checked_proves : (stated : Option ℕ) → checked tree stated marks ≡ Ok proved → Proves tree proved
  checked_proves stated is = by (read_marks tree stated nothing_read ([] ∷ []) marks) refl is
    where
      by : (r : Result Reading ℕ) → read_marks tree stated nothing_read ([] ∷ []) marks ≡ r → judge_all stated r ≡ Ok proved → Proves tree proved
      by (Ok end) read answer = judged stated end read answer (sound_shows tree bounded stated marks (yes_is_sound tree stated marks proved is))
      by (Err node) read answer = not_ok answer

-- so a yes of the checker says what it shows
pub proves_of : (tree : Tree) → IsBounded tree → (stated : Option ℕ) (marks : List Mark) (result : Result Proved CheckFault) → (result ≢ Err Memory → result ≡ checked tree stated marks) → IfOk result (Proves tree)
proves_of tree bounded stated marks (Ok proved) exact = checked_proves tree bounded marks proved stated (sym (exact (λ same. not_ok (sym same))))
proves_of tree bounded stated marks (Err fault) exact = tt
