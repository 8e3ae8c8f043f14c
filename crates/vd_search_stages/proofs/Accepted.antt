-- What a search answers, as a selection.
use Rattle.std.proofs.Common.{◌≡◌, ℕ, ◌+◌, ◌<◌, ◌≤◌, Bool, true, false, ap, Err, Ok, Option, Some, None, List, [], ◌∷◌, length, refl, sym, ◌∙◌, subst, arith, ℤ, pos}
use Rattle.std.specs.Prelude.{nat_lt}
use Rattle.std.specs.List.{AllByRecursion}
use Rattle.std.specs.Option.{option_map_or}
use Rattle.std.proofs.lemmas.Int.{ints}
use Rattle.std.proofs.lemmas.Bool.{true≢false, lt-ltb, and_from}
use Rattle.vd_base.specs.Limits.{most_certificate_shifts}
use Rattle.vd_search_tree.specs.declared.shift.Shift.{Shift}
use Rattle.vd_search_tree.specs.Trees.{IsWhole, IsChoice, IsEmpty, Tree}
use Rattle.vd_search_tree.specs.declared.search_certificate.certificate.Mark.{Mark}
use Rattle.vd_search_tree.specs.Texts.{IsShift}
use Rattle.vd_bound.specs.Marks.{IsSound, IsLeastCost, count_of, is_expanded}
use Rattle.vd_bound.specs.Checking.{checked}
use Rattle.vd_bound.specs.Shifts.{first_bad}
use Rattle.vd_bound.specs.declared.checking.CheckFault.TheVariants.{BadShift}
use Rattle.vd_bound.specs.declared.checking.Proved.{Proved}
use Rattle.vd_bound.proofs.Front.{sound_also, sound_is_yes, yes_is_sound}
use Rattle.vd_search.specs.Answers.{IsLeast}
use Rattle.vd_space.specs.declared.problem.Problem.{Problem}
use Rattle.vd_space.specs.Bounds.{high}
use Rattle.vd_space.specs.Validity.{is_bare, is_valid, protocols}
use Rattle.vd_space.specs.Network.{network_high, network_tree}
use Rattle.vd_space.specs.Costs.{cost}
use Rattle.vd_space.specs.Spaces.{IsProblem, tree_of}
use Rattle.vd_space.specs.Usual.{usual, firm}
use Rattle.vd_space.proofs.Front.{high_whole, tree_bounded}
use Rattle.vd_search_stages.specs.Choices.{IsChosen, needed}
use Rattle.vd_search_stages.specs.Confirming.{confirmed}
use Rattle.vd_search_stages.specs.Naming.{NamesUse}
use Rattle.vd_search_stages.specs.Selecting.{IsAccepted, IsOver, Selects, refuted}
use Rattle.vd_search_stages.specs.SoFar.{so_far_tree}
use Rattle.vd_search_stages.specs.declared.selecting.Selection.TheVariants.{Found, NoAssignment}
use Rattle.vd_search_stages.proofs.SoFar.{full_tree, full_where}

-- ---- shifts that name something

none_bad : (problem : Problem) (at : ℕ) (shifts : List Shift) → AllByRecursion (NamesUse problem) shifts → first_bad (length problem.uses) (length (protocols problem)) at shifts ≡ None
none_bad problem at [] named = refl
none_bad problem at (shift ∷ shifts) named =
    let good = and_from (nat_lt shift.at (length problem.uses)) (nat_lt shift.proto (length (protocols problem))) (lt-ltb _ _ (named.0).at) (lt-ltb _ _ (named.0).proto) in
    let rest = none_bad problem (at + 1) shifts named.1 in
    rw good rest

-- the checker answers of the marks, where all shifts name something and each slot has a candidate
without_bad : (problem : Problem) (stated : Option ℕ) (shifts : List Shift) (marks : List Mark) → is_bare problem ≡ false → first_bad (length problem.uses) (length (protocols problem)) 0 shifts ≡ None
    → confirmed problem (record { cost = stated; by_arcs = false; shifts = shifts; marks = marks }) ≡ checked (tree_of problem shifts) stated marks
without_bad problem stated shifts marks full none =
    ap (λ (bad : Option ℕ). option_map_or (λ shift. Err (BadShift shift)) bad (checked (so_far_tree problem shifts) stated marks)) none
    ∙ ap (λ (tree : Tree). checked tree stated marks) (full_tree problem (high problem shifts) full)

are_shifts : (problem : Problem) (shifts : List Shift) → AllByRecursion (NamesUse problem) shifts → AllByRecursion IsShift shifts
are_shifts problem [] named = tt
are_shifts problem (shift ∷ shifts) named = ((named.0).is, are_shifts problem shifts named.1)

-- ---- that no list is valid

pub refuted_is_accepted : (problem : Problem) (budget : ℕ) (marks : List Mark) → IsSound (network_tree problem []) None marks → count_of is_expanded marks ≤ budget → IsAccepted problem budget (refuted marks)
refuted_is_accepted problem budget marks sound within = record {
  proved = (sound_is_yes (network_tree problem []) None marks sound).0;
  accepted = (sound_is_yes (network_tree problem []) None marks sound).1;
  has_text = record { cost = tt; few = omega arith; shifts = tt; none = λ e. refl; some = λ e number is. absurd (cc is) };
  within = within;
}

-- and in the first form, where each slot has a candidate
pub form_accepted : (problem : Problem) (budget : ℕ) (marks : List Mark) → IsAccepted problem budget (refuted marks) → (bare : Bool) → is_bare problem ≡ bare
    → IsAccepted problem budget (record { cost = None; by_arcs = bare; shifts = []; marks = marks })
form_accepted problem budget marks is true bare = is
form_accepted problem budget marks is false full = record {
  proved = yes.0;
  accepted = without_bad problem None [] marks full refl ∙ yes.1;
  has_text = record { cost = tt; few = omega arith; shifts = tt; none = λ e. refl; some = λ e number is. absurd (true≢false (sym e)) };
  within = is.within;
}
  where
    yes : (proved : Proved) × (checked (tree_of problem []) None marks ≡ Ok proved)
    yes =
        sound_is_yes (tree_of problem []) None marks
        (sound_also (length problem.slots) (length (protocols problem)) (is_valid problem) (network_high problem []) (high problem []) marks (yes_is_sound (network_tree problem []) None marks is.proved is.accepted))

-- ---- trees under other shifts

module _ (problem : Problem) (is : IsProblem problem) where
  whole_under : (one two : List Shift) (list : List ℕ) → IsWhole (tree_of problem one) list → IsWhole (tree_of problem two) list
  whole_under one two list whole = record { full = whole.full; valid = whole.valid }

  costs : (shifts : List Shift) (list : List ℕ) → IsWhole (tree_of problem shifts) list → (tree_of problem shifts).bound list ≡ cost problem list
  costs shifts list whole = high_whole problem is shifts list whole.full whole.valid

  same_bound : (one two : List Shift) (list : List ℕ) → IsWhole (tree_of problem one) list → (tree_of problem one).bound list ≡ (tree_of problem two).bound list
  same_bound one two list whole = costs one list whole ∙ sym (costs two list (whole_under one two list whole))

  choice_under : (one two : List Shift) (list : List ℕ) → IsChoice (tree_of problem one) list → IsChoice (tree_of problem two) list
  choice_under one two list choice = record {
    whole = whole_under one two list choice.whole;
    least = λ other whole.
        let a = same_bound one two list choice.whole in
        let b = same_bound one two other (whole_under two one other whole) in
        let low = choice.least other (whole_under two one other whole) in
        omega (arith, ints, a, b, low);
    first = λ other whole e. choice.first other (whole_under two one other whole) (same_bound one two other (whole_under two one other whole) ∙ e ∙ sym (same_bound one two list choice.whole));
  }

  empty_under : (one two : List Shift) → IsEmpty (tree_of problem one) → IsEmpty (tree_of problem two)
  empty_under one two empty list whole = empty list (whole_under two one list whole)

  -- ---- what a search answers

  pub found_selects : (shifts : List Shift) (budget least : ℕ) (list : List ℕ) (marks : List Mark) → AllByRecursion (NamesUse problem) shifts → length shifts ≤ most_certificate_shifts
      → IsLeast (tree_of problem shifts) list least → IsSound (tree_of problem shifts) (Some least) marks → count_of is_expanded marks ≤ budget
      → Selects problem budget (Found list least (record { cost = Some least; by_arcs = false; shifts = shifts; marks = marks }))
  found_selects shifts budget least list marks named few choice sound within = (
    choice_under shifts [] list choice.choice,
    sym (costs shifts list choice.choice.whole) ∙ choice.costs,
    record {
      proved = (sound_is_yes (tree_of problem shifts) (Some least) marks sound).0;
      accepted = without_bad problem (Some least) shifts marks (full_where problem list choice.choice.whole.valid) (none_bad problem 0 shifts named) ∙ (sound_is_yes (tree_of problem shifts) (Some least) marks sound).1;
      has_text = record { cost = fits; few = few; shifts = are_shifts problem shifts named; none = λ e. absurd (cc e); some = λ e number is. absurd (true≢false (sym e)) };
      within = within;
    },
    refl,
  )
    where
      fits : least ≤ 4294967295
      fits =
          let number = (tree_bounded problem is shifts).fits list choice.choice.whole in
          let small = number.1 in
          let one = number.2 in
          let two = choice.costs in
          omega (arith, ints, small, one, two)

  pub none_selects : (shifts : List Shift) (budget : ℕ) (marks : List Mark) → IsEmpty (tree_of problem shifts) → IsSound (tree_of problem shifts) None marks → count_of is_expanded marks ≤ budget
      → Selects problem budget (NoAssignment (refuted marks))
  none_selects shifts budget marks empty sound within = (
    empty_under shifts [] empty,
    refuted_is_accepted problem budget marks
        (sound_also (length problem.slots) (length (protocols problem)) (is_valid problem) (high problem shifts) (network_high problem []) marks sound) within,
    refl,
  )

  -- ---- a budget that is spent

  least_cost : (shifts : List Shift) (list : List ℕ) (least : ℕ) → IsChoice (tree_of problem []) list → cost problem list ≡ pos least → IsLeastCost (tree_of problem shifts) least
  least_cost shifts list least choice is_least = (
    (list, whole_under [] shifts list choice.whole, costs shifts list (whole_under [] shifts list choice.whole) ∙ is_least),
    λ other whole.
        let low = choice.least other (whole_under shifts [] other whole) in
        let a = costs [] list choice.whole in
        let b = same_bound shifts [] other whole in
        omega (arith, ints, low, a, b, is_least),
  )

  pub spent_needs : (budget : ℕ) (choice : Option (List ℕ)) → IsOver problem (usual problem) budget → IsChosen problem choice → budget < needed problem choice
  spent_needs budget (Some list) over chosen =
      let fits = (tree_bounded problem is []).fits list chosen.whole in
      let own = sym (costs [] list chosen.whole) ∙ fits.2 in
      subst (λ (z : ℤ). budget < firm problem z) (sym own) (over.within fits.0 (least_cost (usual problem) list fits.0 chosen own))
  spent_needs budget None over chosen = over.valid (empty_under [] (usual problem) chosen)
