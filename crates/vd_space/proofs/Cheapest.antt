-- The choice of a tree and the cheapest valid list are the same.
use Rattle.std.proofs.Common.{◌≡◌, ℕ, List, [], IsTrue, length, ◌∙◌, sym}
use Rattle.vd_search_tree.specs.Trees.{IsChoice, IsWhole}
use Rattle.vd_space.specs.Spaces.{IsProblem, tree_of}
use Rattle.vd_space.specs.declared.problem.Problem.{Problem}
use Rattle.vd_space.specs.Bounds.{high}
use Rattle.vd_space.specs.Costs.{cost}
use Rattle.vd_space.proofs.Bounded.{high_whole}
use Rattle.vd_space.specs.Cheapest.{IsCheapest, IsValid}

is_whole : (problem : Problem) (list : List ℕ) → IsValid problem list → IsWhole (tree_of problem []) list
is_whole problem list v = record { full = v.whole; valid = v.valid }

is_valid_of : (problem : Problem) (list : List ℕ) → IsWhole (tree_of problem []) list → IsValid problem list
is_valid_of problem list w = record { whole = w.full; valid = w.valid }

at_cost : (problem : Problem) (list : List ℕ) → IsProblem problem → IsValid problem list → high problem [] list ≡ cost problem list
at_cost problem list p v = high_whole problem p [] list v.whole v.valid

pub cheapest : (problem : Problem) (list : List ℕ) → IsProblem problem → IsChoice (tree_of problem []) list → IsCheapest problem list
cheapest problem list p c =
    let v = is_valid_of problem list c.whole in
    let e = at_cost problem list p v in
    record {
      is_valid = v;
      least = λ other o. let h = c.least other (is_whole problem other o) in let d = at_cost problem other p o in rw (sym e, sym d) h;
      first = λ other o same. c.first other (is_whole problem other o) (at_cost problem other p o ∙ same ∙ sym e);
    }

pub back : (problem : Problem) (list : List ℕ) → IsProblem problem → IsCheapest problem list → IsChoice (tree_of problem []) list
back problem list p c =
    let e = at_cost problem list p c.is_valid in
    record {
      whole = is_whole problem list c.is_valid;
      least = λ other o. let v = is_valid_of problem other o in let d = at_cost problem other p v in rw (e, d) (c.least other v);
      first = λ other o same. let v = is_valid_of problem other o in c.first other v (sym (at_cost problem other p v) ∙ same ∙ e);
    }
