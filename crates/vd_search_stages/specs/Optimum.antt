-- The assignment of a problem: the protocols of its choice.
use Rattle.std.specs.Prelude.{◌≡◌, ℕ, IsTrue, Option, Some, None, option_map, List, map, pos, IfSome}
use Rattle.vd_search.specs.Answers.{nat_or_zero}
use Rattle.vd_search_tree.specs.declared.search_certificate.certificate.Certificate.{Certificate}
use Rattle.vd_space.specs.declared.problem.Problem.{Problem}
use Rattle.vd_space.specs.Costs.{cost}
use Rattle.vd_space.specs.Validity.{is_bare, protocol}
use Rattle.vd_space.specs.Cheapest.{IsCheapestAssignment, cost_of}
use Rattle.vd_search_stages.specs.Choices.{ChoiceOutcomes, IsChosen}
use Rattle.vd_search_stages.specs.Selecting.{IsAccepted}
use Rattle.vd_search_stages.specs.SoFar.{has_own_form}
use Rattle.vd_search_stages.specs.declared.optimum.Assignment.{Assignment}
use Rattle.vd_search_stages.specs.declared.optimum.Optimum.{Optimum}
use Rattle.vd_search_stages.specs.declared.selecting.Selection.{Selection}
use Rattle.vd_search_stages.specs.declared.selecting.Selection.TheVariants.{Found, NoAssignment}

-- the valid assignment of least cost, and among these the first in order; and its cost
pub record IsOptimal (problem : Problem) (a : Assignment) : Type 0 where
  pub cheapest : IsCheapestAssignment problem a.protocols
  pub costs : cost_of problem a.protocols cheapest.valid ≡ pos a.cost

-- the protocols at these places of the list of all, and what they cost together
abbrev pub assigned : Problem → List ℕ → Assignment
assigned problem places = record { protocols = map (protocol problem) places; cost = nat_or_zero (cost problem places) }

-- the assignment of the choice of a problem, if it has one
abbrev pub assignment_of : ChoiceOutcomes → Problem → Option Assignment
assignment_of choices problem = option_map (assigned problem) (choices.choose problem)

-- the assignment of the choice, or that there is none; and a certificate of that
pub record IsOptimum (problem : Problem) (budget : ℕ) (optimum : Optimum) : Type 0 where
  pub choice : Option (List ℕ)
  pub chosen : IsChosen problem choice
  pub assignment : optimum.assignment ≡ option_map (assigned problem) choice
  pub costs : IfSome choice (λ places. cost problem places ≡ pos (nat_or_zero (cost problem places)))
  pub accepted : IsAccepted problem budget optimum.certificate
  pub form : IsTrue (has_own_form problem optimum.certificate)

-- a certificate that no list is valid, in the third form only where some slot has no candidate
abbrev pub in_form : Problem → Certificate → Certificate
in_form problem c = record { cost = c.cost; by_arcs = is_bare problem; shifts = c.shifts; marks = c.marks }

-- a selection, with the protocols at the places that it names
abbrev pub optimum_of : Problem → Selection → Optimum
optimum_of problem (Found places least c) =
    record { assignment = Some (record { protocols = map (protocol problem) places; cost = least }); certificate = c }
optimum_of problem (NoAssignment c) = record { assignment = None; certificate = in_form problem c }
