-- The optimal assignment is that at the places of the cheapest valid list.
use Rattle.std.proofs.Common.{◌≡◌, ℕ, List, sym, ap, ap₂, pos}
use Rattle.vd_base.specs.declared.protocols.Proto.{Proto}
use Rattle.vd_search.specs.Answers.{nat_or_zero}
use Rattle.vd_space.specs.declared.problem.Problem.{Problem}
use Rattle.vd_space.specs.Costs.{cost}
use Rattle.vd_space.specs.Cheapest.{IsCheapest}
use Rattle.vd_space.proofs.Front.{cheapest_at, places_cheapest}
use Rattle.vd_search_stages.specs.Optimum.{IsOptimal, assigned}
use Rattle.vd_search_stages.specs.declared.optimum.Assignment.{Assignment}

pub optimal_at : (problem : Problem) (list : List ℕ) → IsCheapest problem list → cost problem list ≡ pos (nat_or_zero (cost problem list)) → IsOptimal problem (assigned problem list)
optimal_at problem list is costs = record { cheapest = cheapest_at problem list is; costs = costs }

-- the places of its protocols
pub record HasPlaces (problem : Problem) (a : Assignment) : Type 0 where
  pub places : List ℕ
  pub cheapest : IsCheapest problem places
  pub is : a ≡ assigned problem places

abbrev with_cost : List Proto → ℕ → Assignment
with_cost protocols n = record { protocols = protocols; cost = n }

pub has_places : (problem : Problem) (a : Assignment) → IsOptimal problem a → HasPlaces problem a
has_places problem a is =
    let valid = is.cheapest.valid in
    let number : a.cost ≡ nat_or_zero (cost problem valid.places) = sym (ap nat_or_zero is.costs) in
    record { places = valid.places; cheapest = places_cheapest problem a.protocols is.cheapest; is = ap₂ with_cost valid.named number }
