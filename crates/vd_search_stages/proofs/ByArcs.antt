-- What the search by arcs answers, as a selection.
use Rattle.std.proofs.Common.{◌≡◌, ℕ, ◌+◌, ◌≤◌, true, Option, Some, None, Result, Ok, Err, List, [], ◌∷◌, length, refl, sym, ◌∙◌, subst, arith}
use Rattle.std.specs.Prelude.{IfOk, nat_lt}
use Rattle.std.specs.List.{AllByRecursion}
use Rattle.std.proofs.lemmas.Int.{ints}
use Rattle.std.proofs.lemmas.Bool.{lt-ltb, and_from}
use Rattle.vd_base.specs.Limits.{most_certificate_shifts}
use Rattle.vd_search_tree.specs.declared.shift.Shift.{Shift}
use Rattle.vd_search_tree.specs.Trees.{IsWhole, IsChoice, IsEmpty}
use Rattle.vd_search_tree.specs.declared.search_certificate.certificate.Mark.{Mark}
use Rattle.vd_search_tree.specs.declared.search_certificate.certificate.Certificate.{Certificate}
use Rattle.vd_search_tree.specs.Texts.{IsShift}
use Rattle.vd_bound.specs.Marks.{IsSound, count_of, is_expanded}
use Rattle.vd_bound.specs.Checking.{checked}
use Rattle.vd_bound.specs.Shifts.{first_bad}
use Rattle.vd_bound.proofs.Front.{sound_also, sound_is_yes}
use Rattle.vd_search.specs.Answers.{Answers, IsLeast}
use Rattle.vd_search.specs.declared.answers.Answer.TheVariants as answer
use Rattle.vd_space.specs.declared.problem.Problem.{Problem}
use Rattle.vd_space.specs.Labelled.{IsLabelled}
use Rattle.vd_space.specs.Validity.{is_valid, protocols}
use Rattle.vd_space.specs.Costs.{cost}
use Rattle.vd_space.specs.Spaces.{IsProblem, tree_of}
use Rattle.vd_space.proofs.Front.{high_whole, few_in}
use Rattle.vd_space.specs.Arcs.{arcs}
use Rattle.vd_space.specs.Network.{network_high, network_tree}
use Rattle.vd_space.proofs.Front.{network_high_whole, network_tree_bounded}
use Rattle.vd_cost_network_prefix.specs.declared.made.NetworkTables.{NetworkTables}
use Rattle.vd_cost_network_prefix.specs.Tables.{AreNetworkTables}
use Rattle.vd_space.specs.Shifts.{AreArcShifts, IsShiftOf}
use Rattle.vd_search_stages.specs.Confirming.{confirmed}
use Rattle.vd_search_stages.specs.Network.{CanUseArcs, NamesArc}
use Rattle.vd_search_stages.specs.Selecting.{Selects, refuted}
use Rattle.vd_search_stages.specs.declared.selecting.Selection.TheVariants.{Found, NoAssignment}
use Rattle.vd_search_stages.proofs.Accepted.{refuted_is_accepted}

-- ---- shifts that name arcs

none_bad : (problem : Problem) (at : ℕ) (shifts : List Shift) → AllByRecursion (NamesArc problem) shifts → first_bad (length (arcs problem)) (length (protocols problem)) at shifts ≡ None
none_bad problem at [] named = refl
none_bad problem at (shift ∷ shifts) named =
    let good = and_from (nat_lt shift.at (length (arcs problem))) (nat_lt shift.proto (length (protocols problem))) (lt-ltb _ _ (named.0).at) (lt-ltb _ _ (named.0).proto) in
    let rest = none_bad problem (at + 1) shifts named.1 in
    rw good rest

without_bad : (problem : Problem) (stated : Option ℕ) (shifts : List Shift) (marks : List Mark) → first_bad (length (arcs problem)) (length (protocols problem)) 0 shifts ≡ None
    → confirmed problem (record { cost = stated; by_arcs = true; shifts = shifts; marks = marks }) ≡ checked (network_tree problem shifts) stated marks
without_bad problem stated shifts marks none = rw none refl

are_shifts : (problem : Problem) (shifts : List Shift) → AllByRecursion (NamesArc problem) shifts → AllByRecursion IsShift shifts
are_shifts problem [] named = tt
are_shifts problem (shift ∷ shifts) named = ((named.0).is, are_shifts problem shifts named.1)

-- ---- the tree by arcs, and that without shifts

module _ (problem : Problem) (is : IsProblem problem) (shifts : List Shift) where
  plain_whole : (list : List ℕ) → IsWhole (network_tree problem shifts) list → IsWhole (tree_of problem []) list
  plain_whole list whole = record { full = whole.full; valid = whole.valid }

  network_whole : (list : List ℕ) → IsWhole (tree_of problem []) list → IsWhole (network_tree problem shifts) list
  network_whole list whole = record { full = whole.full; valid = whole.valid }

  costs : (list : List ℕ) → IsWhole (network_tree problem shifts) list → (network_tree problem shifts).bound list ≡ cost problem list
  costs list whole = network_high_whole problem is shifts list whole.full whole.valid

  same_bound : (list : List ℕ) → IsWhole (network_tree problem shifts) list → (network_tree problem shifts).bound list ≡ (tree_of problem []).bound list
  same_bound list whole = costs list whole ∙ sym (high_whole problem is [] list whole.full whole.valid)

  choice_of : (list : List ℕ) → IsChoice (network_tree problem shifts) list → IsChoice (tree_of problem []) list
  choice_of list choice = record {
    whole = plain_whole list choice.whole;
    least = λ other whole.
        let a = same_bound list choice.whole in
        let b = same_bound other (network_whole other whole) in
        let low = choice.least other (network_whole other whole) in
        omega (arith, ints, a, b, low);
    first = λ other whole e. choice.first other (network_whole other whole) (same_bound other (network_whole other whole) ∙ e ∙ sym (same_bound list choice.whole));
  }

  empty_of : IsEmpty (network_tree problem shifts) → IsEmpty (tree_of problem [])
  empty_of empty list whole = empty list (network_whole list whole)

  -- ---- what the search answers

  found_selects : (budget least : ℕ) (list : List ℕ) (marks : List Mark) → AllByRecursion (NamesArc problem) shifts → length shifts ≤ most_certificate_shifts → 1 ≤ length shifts
      → IsLeast (network_tree problem shifts) list least → IsSound (network_tree problem shifts) (Some least) marks → count_of is_expanded marks ≤ budget
      → Selects problem budget (Found list least (record { cost = Some least; by_arcs = true; shifts = shifts; marks = marks }))
  found_selects budget least list marks named few some choice sound within = (
    choice_of list choice.choice,
    sym (costs list choice.choice.whole) ∙ choice.costs,
    record {
      proved = (sound_is_yes (network_tree problem shifts) (Some least) marks sound).0;
      accepted = without_bad problem (Some least) shifts marks (none_bad problem 0 shifts named) ∙ (sound_is_yes (network_tree problem shifts) (Some least) marks sound).1;
      has_text = record { cost = fits; few = few; shifts = are_shifts problem shifts named; none = λ e. absurd (cc e); some = λ e number is. some };
      within = within;
    },
    refl,
  )
    where
      fits : least ≤ 4294967295
      fits =
          let number = (network_tree_bounded problem is shifts).fits list choice.choice.whole in
          let small = number.1 in
          let one = number.2 in
          let two = choice.costs in
          omega (arith, ints, small, one, two)

  none_selects : (budget : ℕ) (marks : List Mark) → IsEmpty (network_tree problem shifts) → IsSound (network_tree problem shifts) None marks → count_of is_expanded marks ≤ budget
      → Selects problem budget (NoAssignment (refuted marks))
  none_selects budget marks empty sound within = (
    empty_of empty,
    refuted_is_accepted problem budget marks
        (sound_also (length problem.slots) (length (protocols problem)) (is_valid problem) (network_high problem shifts) (network_high problem []) marks sound) within,
    refl,
  )

-- ---- on a path that is the problem's, under the shifts of tables

pub found : (problem p : Problem) (tables t : NetworkTables) (budget least : ℕ) (list : List ℕ) (marks : List Mark) (c : Certificate) → p ≡ problem → t ≡ tables → IsProblem problem → CanUseArcs problem tables
    → Answers (network_tree p t.shifts) budget (answer.Found list least marks) → c ≡ record { cost = Some least; by_arcs = true; shifts = tables.shifts; marks = marks } → Selects problem budget (Found list least c)
found problem p tables t budget least list marks c same_problem same_tables holds can answers is =
    let a : Answers (network_tree problem tables.shifts) budget (answer.Found list least marks)
    = subst (λ (x : NetworkTables). Answers (network_tree problem x.shifts) budget (answer.Found list least marks)) same_tables (subst (λ (q : Problem). Answers (network_tree q t.shifts) budget (answer.Found list least marks)) same_problem answers) in
    subst (λ (k : Certificate). Selects problem budget (Found list least k)) (sym is) (found_selects problem holds tables.shifts budget least list marks can.named can.few can.some a.0 a.1 a.2)

pub empty : (problem p : Problem) (t : NetworkTables) (budget : ℕ) (marks : List Mark) (c : Certificate) → p ≡ problem → c ≡ refuted marks → IsProblem problem → Answers (network_tree p t.shifts) budget (answer.Empty marks)
    → Selects problem budget (NoAssignment c)
empty problem p t budget marks c same_problem is holds answers =
    let a : Answers (network_tree problem t.shifts) budget (answer.Empty marks) = subst (λ (q : Problem). Answers (network_tree q t.shifts) budget (answer.Empty marks)) same_problem answers in
    subst (λ (k : Certificate). Selects problem budget (NoAssignment k)) (sym is) (none_selects problem holds t.shifts budget marks a.0 a.1 a.2)

-- ---- better shifts

names : (problem : Problem) (shift : Shift) → length (protocols problem) ≤ 42 → IsShiftOf (length (arcs problem)) (length (protocols problem)) shift → NamesArc problem shift
names problem shift places is = record {
  at = is.at;
  proto = is.proto;
  is = record {
    at = is.number;
    side = is.side;
    proto = let low = is.proto in omega (arith, low, places);
    some = is.some;
    amount = is.amount;
  };
}

all_named : (problem : Problem) (shifts : List Shift) → length (protocols problem) ≤ 42 → AllByRecursion (IsShiftOf (length (arcs problem)) (length (protocols problem))) shifts → AllByRecursion (NamesArc problem) shifts
all_named problem [] places all = tt
all_named problem (shift ∷ shifts) places all = (names problem shift places all.0, all_named problem shifts places all.1)

better : (problem : Problem) (shifts : List Shift) (tables : NetworkTables) → IsLabelled problem → AreArcShifts problem shifts → 1 ≤ length shifts → AreNetworkTables problem tables → tables.shifts ≡ shifts → CanUseArcs problem tables
better problem shifts tables labelled are some tabled same = record {
  tabled = tabled;
  named = subst (AllByRecursion (NamesArc problem)) (sym same) (all_named problem shifts (few_in problem labelled) are.each);
  few = subst (λ (s : List Shift). length s ≤ most_certificate_shifts) (sym same) are.few;
  some = subst (λ (s : List Shift). 1 ≤ length s) (sym same) some;
}

-- the tables that a call made
pub better_result : {E : Type 0} (problem : Problem) (shifts : List Shift) (result : Result NetworkTables E) → IsLabelled problem → AreArcShifts problem shifts → 1 ≤ length shifts → IfOk result (AreNetworkTables problem) → IfOk result (λ t. t.shifts ≡ shifts) → IfOk result (CanUseArcs problem)
better_result problem shifts (Ok tables) labelled are some tabled same = better problem shifts tables labelled are some tabled same
better_result problem shifts (Err cause) labelled are some tabled same = tt
