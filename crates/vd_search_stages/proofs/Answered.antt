-- What the search and the checker answer on a path of a problem.
use Rattle.std.proofs.Common.{◌≡◌, ℕ, ◌<◌, ◌≤◌, false, Some, Result, Ok, Err, List, length, sym, ap, ap₂, ◌∙◌, subst, arith, true, ℤ}
use Rattle.std.specs.Prelude.{◌≢◌, IfOk, IsFalse, IsTrue}
use Rattle.std.proofs.lemmas.Bool.{cond-true, cond-false}
use Rattle.std.specs.List.{AllByRecursion}
use Rattle.std.specs.Option.{option_map_or}
use Rattle.vd_base.specs.Limits.{most_certificate_shifts}
use Rattle.vd_search_tree.specs.declared.shift.Shift.{Shift}
use Rattle.vd_search_tree.specs.Trees.{Tree, IsBounded}
use Rattle.vd_search_tree.specs.declared.search_certificate.certificate.Mark.{Mark}
use Rattle.vd_search_tree.specs.declared.search_certificate.certificate.Certificate.{Certificate}
use Rattle.vd_bound.specs.declared.checking.CheckFault.{CheckFault}
use Rattle.vd_bound.specs.declared.checking.CheckFault.TheVariants as check_fault
use Rattle.vd_bound.specs.declared.checking.CheckFault.TheVariants.{BadShift}
use Rattle.vd_bound.specs.declared.checking.Proved.{Proved}
use Rattle.vd_bound.specs.Checking.{Proves}
use Rattle.vd_bound.specs.Shifts.{certificate_checked, first_bad}
use Rattle.vd_search.specs.Answers.{Answers}
use Rattle.vd_search.specs.declared.answers.Answer.TheVariants as answer
use Rattle.vd_space_prefix.specs.declared.tables.Tables.{Tables}
use Rattle.vd_space_prefix.specs.Tables.{AreTables}
use Rattle.vd_space.specs.declared.problem.Problem.{Problem}
use Rattle.vd_space.specs.declared.problem.Use.{Use}
use Rattle.vd_space.specs.Bounds.{high}
use Rattle.vd_space.specs.Sizes.{IsWithinLimits}
use Rattle.vd_space.specs.Spaces.{IsProblem, tree_of}
use Rattle.vd_space.specs.Usual.{usual}
use Rattle.vd_space.specs.Validity.{is_bare, is_valid_so_far, protocols}
use Rattle.vd_space.proofs.Front.{tree_bounded}
use Rattle.vd_space.specs.Arcs.{arcs}
use Rattle.vd_space.specs.Network.{network_tree}
use Rattle.vd_space.proofs.Front.{network_tree_bounded}
use Rattle.vd_cost_network_prefix.specs.declared.made.NetworkTables.{NetworkTables}
use Rattle.vd_search_stages.specs.Confirming.{Confirms, tree_by}
use Rattle.vd_search_stages.specs.Naming.{NamesUse}
use Rattle.vd_search_stages.specs.SoFar.{so_far_tree, so_far_under}
use Rattle.vd_search_stages.specs.Selecting.{Selects, refuted}
use Rattle.vd_search_stages.specs.declared.selecting.Selection.TheVariants.{Found, NoAssignment}
use Rattle.vd_search_stages.proofs.Accepted.{found_selects, none_selects}
use Rattle.vd_search_stages.proofs.Named.{usual_named}
use Rattle.vd_search_stages.proofs.SoFar.{bare_bounded, bare_empty, full_tree}
use Rattle.vd_bound.proofs.Front.{proves_also, same_checked}

-- the answer of the checker on a path that is the problem's, under the shifts of the certificate
pub confirms : (problem p : Problem) (c : Certificate) (uses : List Use) (tables t : Tables) (result : Result Proved CheckFault) → uses ≡ problem.uses → p ≡ problem → t ≡ tables → tables.shifts ≡ c.shifts → IsFalse c.by_arcs → is_bare problem ≡ false → IsProblem problem
    → (◌≢◌ {A = Result Proved CheckFault} result (Err check_fault.Memory) → result ≡ certificate_checked (length uses) (tree_of p t.shifts) c)
    → (IsBounded (tree_of p t.shifts) → IfOk result (Proves (tree_of p t.shifts))) → Confirms problem c result
confirms problem p c uses tables t result same_uses same_problem same_tables same_shifts plain full holds exact proved = record {
  exact = λ other.
      exact other ∙ ap (λ (u : List Use). certificate_checked (length u) (tree_of p t.shifts) c) same_uses ∙ ap (λ (q : Problem). certificate_checked (length problem.uses) (tree_of q t.shifts) c) same_problem
      ∙ ap (λ (s : List Shift). certificate_checked (length problem.uses) (tree_of problem s) c) shifts
      ∙ ap₂ (λ n tree. certificate_checked n tree c) (sym (cond-false c.by_arcs (length (arcs problem)) (length problem.uses) plain)) (sym by_uses);
  proved = subst (λ (tree : Tree). IfOk result (Proves tree)) (sym by_uses) (subst (λ (s : List Shift). IfOk result (Proves (tree_of problem s))) shifts
      (subst (λ (q : Problem). IfOk result (Proves (tree_of q t.shifts))) same_problem (proved (subst (λ (q : Problem). IsBounded (tree_of q t.shifts)) (sym same_problem) (tree_bounded problem holds t.shifts)))));
}
  where
    by_uses : tree_by problem c ≡ tree_of problem c.shifts
    by_uses = cond-false c.by_arcs (network_tree problem c.shifts) (so_far_tree problem c.shifts) plain ∙ full_tree problem (high problem c.shifts) full

    shifts : t.shifts ≡ c.shifts
    shifts = ap (λ (x : Tables). x.shifts) same_tables ∙ same_shifts

-- the same where some slot has no candidate, on a path without bounds
pub confirms_bare : (problem p : Problem) (c : Certificate) (uses : List Use) (bound : List ℕ → ℤ) (result : Result Proved CheckFault) → uses ≡ problem.uses → p ≡ problem → IsFalse c.by_arcs → is_bare problem ≡ true
    → (◌≢◌ {A = Result Proved CheckFault} result (Err check_fault.Memory) → result ≡ certificate_checked (length uses) (so_far_under p bound) c)
    → (IsBounded (so_far_under p bound) → IfOk result (Proves (so_far_under p bound))) → Confirms problem c result
confirms_bare problem p c uses bound result same_uses same_problem plain bare exact proved = record {
  exact = λ other.
      exact other ∙ ap (λ (u : List Use). certificate_checked (length u) (so_far_under p bound) c) same_uses ∙ ap (λ (q : Problem). certificate_checked (length problem.uses) (so_far_under q bound) c) same_problem
      ∙ ap (λ (r : Result Proved CheckFault). option_map_or (λ shift. Err (BadShift shift)) (first_bad (length problem.uses) (length (protocols problem)) 0 c.shifts) r)
      (same_checked (length problem.slots) (length (protocols problem)) (is_valid_so_far problem) bound (high problem c.shifts) (bare_empty problem bound bare) c.cost c.marks)
      ∙ ap₂ (λ n tree. certificate_checked n tree c) (sym (cond-false c.by_arcs (length (arcs problem)) (length problem.uses) plain)) (sym by_uses);
  proved = subst (λ (tree : Tree). IfOk result (Proves tree)) (sym by_uses)
      (if_ok result (subst (λ (q : Problem). IfOk result (Proves (so_far_under q bound))) same_problem (proved (subst (λ (q : Problem). IsBounded (so_far_under q bound)) (sym same_problem) (bare_bounded problem bound bare)))));
}
  where
    by_uses : tree_by problem c ≡ so_far_tree problem c.shifts
    by_uses = cond-false c.by_arcs (network_tree problem c.shifts) (so_far_tree problem c.shifts) plain

    if_ok : (r : Result Proved CheckFault) → IfOk r (Proves (so_far_under problem bound)) → IfOk r (Proves (so_far_tree problem c.shifts))
    if_ok (Ok shown) proves = proves_also (length problem.slots) (length (protocols problem)) (is_valid_so_far problem) bound (high problem c.shifts) (bare_empty problem bound bare) shown proves
    if_ok (Err fault) proves = tt

-- the same where its shifts name arcs
pub confirms_by_arcs : (problem p : Problem) (c : Certificate) (count : ℕ) (tables t : NetworkTables) (result : Result Proved CheckFault) → count ≡ length (arcs problem) → p ≡ problem → t ≡ tables → tables.shifts ≡ c.shifts → IsTrue c.by_arcs → IsProblem problem
    → (◌≢◌ {A = Result Proved CheckFault} result (Err check_fault.Memory) → result ≡ certificate_checked count (network_tree p t.shifts) c)
    → (IsBounded (network_tree p t.shifts) → IfOk result (Proves (network_tree p t.shifts))) → Confirms problem c result
confirms_by_arcs problem p c count tables t result same_count same_problem same_tables same_shifts by_arcs holds exact proved = record {
  exact = λ other.
      exact other ∙ ap (λ n. certificate_checked n (network_tree p t.shifts) c) same_count ∙ ap (λ (q : Problem). certificate_checked (length (arcs problem)) (network_tree q t.shifts) c) same_problem
      ∙ ap (λ (s : List Shift). certificate_checked (length (arcs problem)) (network_tree problem s) c) shifts
      ∙ ap₂ (λ n tree. certificate_checked n tree c) (sym (cond-true c.by_arcs (length (arcs problem)) (length problem.uses) by_arcs)) (sym with_arcs);
  proved = subst (λ (tree : Tree). IfOk result (Proves tree)) (sym with_arcs) (subst (λ (s : List Shift). IfOk result (Proves (network_tree problem s))) shifts
      (subst (λ (q : Problem). IfOk result (Proves (network_tree q t.shifts))) same_problem (proved (subst (λ (q : Problem). IsBounded (network_tree q t.shifts)) (sym same_problem) (network_tree_bounded problem holds t.shifts)))));
}
  where
    shifts : t.shifts ≡ c.shifts
    shifts = ap (λ (x : NetworkTables). x.shifts) same_tables ∙ same_shifts

    with_arcs : tree_by problem c ≡ network_tree problem c.shifts
    with_arcs = cond-true c.by_arcs (network_tree problem c.shifts) (so_far_tree problem c.shifts) by_arcs

-- the answer of a search on such a path
pub found : (problem p : Problem) (tables t : Tables) (budget least : ℕ) (list : List ℕ) (marks : List Mark) (c : Certificate) → p ≡ problem → t ≡ tables → IsProblem problem → AllByRecursion (NamesUse problem) tables.shifts → length tables.shifts ≤ most_certificate_shifts
    → Answers (tree_of p t.shifts) budget (answer.Found list least marks) → c ≡ record { cost = Some least; by_arcs = false; shifts = tables.shifts; marks = marks } → Selects problem budget (Found list least c)
found problem p tables t budget least list marks c same_problem same_tables holds named few answers is =
    let a : Answers (tree_of problem tables.shifts) budget (answer.Found list least marks)
    = subst (λ (x : Tables). Answers (tree_of problem x.shifts) budget (answer.Found list least marks)) same_tables (subst (λ (q : Problem). Answers (tree_of q t.shifts) budget (answer.Found list least marks)) same_problem answers) in
    subst (λ (k : Certificate). Selects problem budget (Found list least k)) (sym is) (found_selects problem holds tables.shifts budget least list marks named few a.0 a.1 a.2)

pub empty : (problem p : Problem) (t : Tables) (budget : ℕ) (marks : List Mark) (c : Certificate) → p ≡ problem → c ≡ refuted marks → IsProblem problem → Answers (tree_of p t.shifts) budget (answer.Empty marks)
    → Selects problem budget (NoAssignment c)
empty problem p t budget marks c same_problem is holds answers =
    let a : Answers (tree_of problem t.shifts) budget (answer.Empty marks) = subst (λ (q : Problem). Answers (tree_of q t.shifts) budget (answer.Empty marks)) same_problem answers in
    subst (λ (k : Certificate). Selects problem budget (NoAssignment k)) (sym is) (none_selects problem holds t.shifts budget marks a.0 a.1 a.2)

-- the tables of the usual shifts
pub tables_named : {E : Type 0} (problem : Problem) (shifts : List Shift) (result : Result Tables E) → shifts ≡ usual problem → AllByRecursion (λ (shift : Shift). shift.amount < 4294967296) shifts → IsWithinLimits problem
    → IfOk result (AreTables problem) → IfOk result (λ t. t.shifts ≡ shifts) → IfOk result (λ t. AllByRecursion (NamesUse problem) t.shifts)
tables_named problem shifts (Ok t) is small limits are same =
    let few_uses : length problem.uses ≤ 2048 = let count = limits.count in omega arith in
    let as_many : length t.list ≡ length (protocols problem) = ap length are.list in
    let few : length (protocols problem) ≤ 64 = let most = are.few_protocols in omega (arith, as_many) in
    subst (AllByRecursion (NamesUse problem)) (sym same) (usual_named problem shifts is few_uses few small)
tables_named problem shifts (Err e) is small limits are same = tt
