-- Each problem has one choice, and no second.
use Rattle.std.proofs.Common.{◌≡◌, ℕ, ◌<◌, ◌⊎◌, inl, inr, Option, Some, None, List, [], ◌∷◌, refl, sym, ap, ◌∙◌, arith, ℤ, pos, negsuc, ◌≤ℤ◌}
use Rattle.std.proofs.lemmas.Int.{ints}
use Rattle.vd_search_tree.specs.Trees.{Tree, IsChoice, IsEmpty, InOrder}
use Rattle.vd_space.specs.declared.problem.Problem.{Problem}
use Rattle.vd_space.specs.Spaces.{tree_of}
use Rattle.vd_space.proofs.Front.{valid_listed}
use Rattle.vd_search_stages.specs.Choices.{IsChosen, ChoiceOutcomes, HasOneChoice}
use Rattle.vd_search_stages.proofs.Chosen.{chosen}

in_order_both : (xs ys : List ℕ) → InOrder xs ys → InOrder ys xs → xs ≡ ys
in_order_both [] [] a b = refl
in_order_both [] (y ∷ ys) a b = absurd b
in_order_both (x ∷ xs) [] a b = absurd a
in_order_both (x ∷ xs) (y ∷ ys) (inl a) (inl b) = absurd (omega arith)
in_order_both (x ∷ xs) (y ∷ ys) (inl a) (inr b) = let e = b.0 in absurd (omega (arith, e))
in_order_both (x ∷ xs) (y ∷ ys) (inr a) (inl b) = let e = a.0 in absurd (omega (arith, e))
in_order_both (x ∷ xs) (y ∷ ys) (inr a) (inr b) = let rest = in_order_both xs ys a.1 b.1 in let e = a.0 in cc (e, rest)

same_ℤ : (a b : ℤ) → a ≤ℤ b → b ≤ℤ a → a ≡ b
same_ℤ (pos m) (pos n) one two = let e : m ≡ n = omega (arith, ints, one, two) in ap pos e
same_ℤ (pos m) (negsuc n) one two = absurd (omega (arith, ints, one))
same_ℤ (negsuc m) (pos n) one two = absurd (omega (arith, ints, two))
same_ℤ (negsuc m) (negsuc n) one two = let e : m ≡ n = omega (arith, ints, one, two) in ap negsuc e

choice_once : (tree : Tree) (a b : List ℕ) → IsChoice tree a → IsChoice tree b → a ≡ b
choice_once tree a b is_a is_b =
    let same = same_ℤ (tree.bound a) (tree.bound b) (is_a.least b is_b.whole) (is_b.least a is_a.whole) in
    in_order_both a b (is_a.first b is_b.whole (sym same)) (is_b.first a is_a.whole same)

pub chosen_once : (problem : Problem) (a b : Option (List ℕ)) → IsChosen problem a → IsChosen problem b → a ≡ b
chosen_once problem (Some a) (Some b) is_a is_b = ap Some (choice_once (tree_of problem []) a b is_a is_b)
chosen_once problem (Some a) None is_a is_b = absurd (is_b a is_a.whole)
chosen_once problem None (Some b) is_a is_b = absurd (is_a b is_b.whole)
chosen_once problem None None is_a is_b = refl

pub has_one : (problem : Problem) → HasOneChoice problem
has_one problem = from (chosen (tree_of problem []) (valid_listed problem))
  where
    from : ((list : List ℕ) × IsChoice (tree_of problem []) list) ⊎ IsEmpty (tree_of problem []) → HasOneChoice problem
    from (inl some) = record { choice = Some some.0; is = some.1; single = λ other chosen. chosen_once problem other (Some some.0) chosen some.1 }
    from (inr none) = record { choice = None; is = none; single = λ other chosen. chosen_once problem other None chosen none }

-- the function that gives each problem its choice
pub some_choices : ChoiceOutcomes
some_choices = record { choose = λ problem. (has_one problem).choice; choose_is = λ problem. (has_one problem).is }
