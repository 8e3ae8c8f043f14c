-- A tree and the same with its ties broken: whole lists cost the same in both, and so do their choices.
use Rattle.std.proofs.Common.{◌≡◌, ℕ, suc, ◌&&◌, true, false, Some, None, List, [], ◌∷◌, ◌++◌, sym, ap, ◌∙◌, subst, arith, append-nil, ℤ, pos, ◌≤ℤ◌, inl, inr, ◌⊎◌, nat_eq}
use Rattle.std.specs.List.{All}
use Rattle.std.specs.Ordering.{int_eq}
use Rattle.std.specs.Cmp.Lexicographic.{pointwise, same_text}
use Rattle.std.proofs.lemmas.Int.{ints}
use Rattle.std.proofs.lemmas.Bool.{true≢false, cases_Bool, and_parts, cond-true, cond-false, eqb-true, eqb-false}
use Rattle.std.proofs.lemmas.List.Elements.{All-contains}
use Rattle.std.proofs.lemmas.Map.Views.{Contains-from_any}
use Rattle.vd_search_tree.specs.Trees.{Tree, IsWhole, IsBounded, AtLeast}
use Rattle.vd_search_tree.specs.declared.search_certificate.certificate.Mark.{Mark}
use Rattle.vd_search_tree.specs.declared.search_certificate.certificate.Mark.TheVariants.{Expanded, Violated, Bounded, Best}
use Rattle.vd_bound.specs.Marks.{children, AreTrees, IsSound}
use Rattle.vd_search.specs.Answers.{Answers, IsLeast}
use Rattle.vd_search.specs.declared.answers.Answer.{Answer}
use Rattle.vd_search.specs.declared.answers.Answer.TheVariants.{Found, Empty}
use Rattle.vd_search.specs.Untied.{is_among, untied, WhySpent, is_at_cost}

same_cost : (a b : ℤ) → int_eq a b ≡ true → a ≡ b
same_cost a b test = grind (arith, ints, test)

holds_among : (P : List ℕ → Type 0) (prefixes : List (List ℕ)) (prefix : List ℕ) → All P prefixes → is_among prefixes prefix ≡ true → P prefix
holds_among P prefixes prefix all among = All-contains P prefixes prefix all (Contains-from_any {eq = λ a b. pointwise nat_eq b a} (λ a b same. sym (same_text b a (sym same))) prefix prefixes among)

module _ (tree : Tree) (most : ℕ) (passed : List (List ℕ)) (costly : All (AtLeast tree (pos (suc most))) passed) where
  -- a bound is raised where each list costs more, or is as it was
  Raised : List ℕ → Type 0
  Raised prefix = (tree.bound prefix ≡ pos most) × AtLeast tree (pos (suc most)) prefix × ((untied tree most passed).bound prefix ≡ pos (suc most))

  raised : (prefix : List ℕ) → Raised prefix ⊎ ((untied tree most passed).bound prefix ≡ tree.bound prefix)
  unfolding Raised
  raised prefix = elim (cases_Bool (int_eq (tree.bound prefix) (pos most) && is_among passed prefix)) [
    | inl yes_it_is ↦
        let parts = and_parts (int_eq (tree.bound prefix) (pos most)) (is_among passed prefix) yes_it_is in
        inl (
          same_cost (tree.bound prefix) (pos most) parts.0,
          holds_among (AtLeast tree (pos (suc most))) passed prefix costly parts.1,
          cond-true (int_eq (tree.bound prefix) (pos most) && is_among passed prefix) (pos (suc most)) (tree.bound prefix) yes_it_is,
        )
    | inr it_is_not ↦ inr (cond-false (int_eq (tree.bound prefix) (pos most) && is_among passed prefix) (pos (suc most)) (tree.bound prefix) it_is_not)
  ]

  whole_before : (list : List ℕ) → IsWhole (untied tree most passed) list → IsWhole tree list
  whole_before list whole = record { full = whole.full; valid = whole.valid }

  whole_after : (list : List ℕ) → IsWhole tree list → IsWhole (untied tree most passed) list
  whole_after list whole = record { full = whole.full; valid = whole.valid }

  costs_same : (list : List ℕ) → IsWhole tree list → (untied tree most passed).bound list ≡ tree.bound list
  unfolding Raised
  costs_same list whole = elim (raised list) [
    | inl up ↦
        let is = up.0 in
        let itself = ap tree.bound (append-nil list) in
        let more = up.1 [] (subst (IsWhole tree) (sym (append-nil list)) whole) in
        absurd (omega (arith, ints, is, itself, more))
    | inr same ↦ same
  ]

  bounds_less : (prefix rest : List ℕ) → IsBounded tree → IsWhole tree (prefix ++ rest) → (untied tree most passed).bound prefix ≤ℤ (untied tree most passed).bound (prefix ++ rest)
  unfolding Raised
  bounds_less prefix rest bounded whole =
      let same = costs_same (prefix ++ rest) whole in
      elim (raised prefix) [
        | inl up ↦ let is = up.2 in let more = up.1 rest whole in omega (arith, ints, same, is, more)
        | inr as_it_was ↦ let low = bounded.below prefix rest whole in omega (arith, ints, same, as_it_was, low)
      ]

  pub untied_bounded : IsBounded tree → IsBounded (untied tree most passed)
  untied_bounded bounded = record {
    closed = bounded.closed;
    listed = bounded.listed;
    below = λ prefix rest whole. bounds_less prefix rest bounded (whole_before (prefix ++ rest) whole);
    fits = λ list whole.
        let cost = bounded.fits list (whole_before list whole) in
        (cost.0, cost.1, costs_same list (whole_before list whole) ∙ cost.2);
  }

  -- ---- certificates
  bound_reaches : (prefix : List ℕ) → pos most ≤ℤ (untied tree most passed).bound prefix → pos most ≤ℤ tree.bound prefix
  unfolding Raised
  bound_reaches prefix high = elim (raised prefix) [
    | inl up ↦ let is = up.0 in omega (arith, ints, is)
    | inr same ↦ omega (arith, ints, same, high)
  ]

  trees_at : (waiting : List (List ℕ)) (marks : List Mark) → AreTrees (untied tree most passed) (Some most) waiting marks → AreTrees tree (Some most) waiting marks
  trees_at [] [] trees = tt
  trees_at [] (mark ∷ marks) trees = absurd trees
  trees_at (prefix ∷ waiting) [] trees = absurd trees
  trees_at (prefix ∷ waiting) (Expanded ∷ marks) trees = (trees.0, trees_at (children tree prefix ++ waiting) marks trees.1)
  trees_at (prefix ∷ waiting) (Violated ∷ marks) trees = (trees.0, trees_at waiting marks trees.1)
  trees_at (prefix ∷ waiting) (Bounded ∷ marks) trees = (λ valid. bound_reaches prefix (trees.0 valid), trees_at waiting marks trees.1)
  trees_at (prefix ∷ waiting) (Best ∷ marks) trees =
      let whole = whole_before prefix trees.0.0 in
      ((whole, sym (costs_same prefix whole) ∙ trees.0.1), trees_at waiting marks trees.1)

  trees_of_none : (waiting : List (List ℕ)) (marks : List Mark) → AreTrees (untied tree most passed) None waiting marks → AreTrees tree None waiting marks
  trees_of_none [] [] trees = tt
  trees_of_none [] (mark ∷ marks) trees = absurd trees
  trees_of_none (prefix ∷ waiting) [] trees = absurd trees
  trees_of_none (prefix ∷ waiting) (Expanded ∷ marks) trees = (trees.0, trees_of_none (children tree prefix ++ waiting) marks trees.1)
  trees_of_none (prefix ∷ waiting) (Violated ∷ marks) trees = (trees.0, trees_of_none waiting marks trees.1)
  trees_of_none (prefix ∷ waiting) (Bounded ∷ marks) trees = absurd trees.0
  trees_of_none (prefix ∷ waiting) (Best ∷ marks) trees = absurd trees.0

  sound_at : (marks : List Mark) → IsSound (untied tree most passed) (Some most) marks → IsSound tree (Some most) marks
  sound_at marks sound = record { trees = trees_at ([] ∷ []) marks sound.trees; one_best = sound.one_best }

  sound_of_none : (marks : List Mark) → IsSound (untied tree most passed) None marks → IsSound tree None marks
  sound_of_none marks sound = record { trees = trees_of_none ([] ∷ []) marks sound.trees; one_best = sound.one_best }

  -- ---- choices
  least_same : (list : List ℕ) (cost : ℕ) → IsLeast (untied tree most passed) list cost → IsLeast tree list cost
  least_same list cost is =
      let whole = whole_before list is.choice.whole in
      let here = costs_same list whole in
      record {
        choice = record {
          whole = whole;
          least = λ other there.
              let low = is.choice.least other (whole_after other there) in
              let same = costs_same other there in
              omega (arith, ints, low, same, here);
          first = λ other there equal. is.choice.first other (whole_after other there) (costs_same other there ∙ equal ∙ sym here);
        };
        costs = sym here ∙ is.costs;
      }

  found_same : (budget : ℕ) (list : List ℕ) (cost : ℕ) (marks : List Mark) → cost ≡ most → Answers (untied tree most passed) budget (Found list cost marks) → Answers tree budget (Found list cost marks)
  found_same budget list cost marks at found = (
    least_same list cost found.0,
    subst (λ n. IsSound tree (Some n) marks) (sym at) (sound_at marks (subst (λ n. IsSound (untied tree most passed) (Some n) marks) at found.1)),
    found.2,
  )

  pub answers_same : (budget : ℕ) (answer : Answer) → is_at_cost most answer ≡ true → Answers (untied tree most passed) budget answer → Answers tree budget answer
  answers_same budget (Found list cost marks) at found = found_same budget list cost marks (eqb-true cost most at) found
  answers_same budget (Empty marks) at empty = (λ list whole. empty.0 list (whole_after list whole), sound_of_none marks empty.1, empty.2)

  pub another_cost : (budget : ℕ) (answer : Answer) → is_at_cost most answer ≡ false → Answers (untied tree most passed) budget answer → WhySpent tree most passed budget
  another_cost budget (Found list cost marks) other found =
      let is = least_same list cost found.0 in
      inr (cost, ((list, is.choice.whole, is.costs), λ other_list whole. subst (λ b. b ≤ℤ tree.bound other_list) is.costs (is.choice.least other_list whole)), eqb-false cost most other)
  another_cost budget (Empty marks) other empty = absurd (true≢false other)
