-- The cheapest valid assignment has the protocols at the places of the cheapest valid list.
use Rattle.std.proofs.Common.{ℕ, List, map, refl}
use Rattle.vd_base.specs.declared.protocols.Proto.{Proto}
use Rattle.vd_space.specs.declared.problem.Problem.{Problem}
use Rattle.vd_space.specs.Validity.{protocol}
use Rattle.vd_space.specs.Cheapest.{IsAssignment, IsCheapest, IsCheapestAssignment, IsValid}

abbrev pub assignment_at : (problem : Problem) (list : List ℕ) → IsValid problem list → IsAssignment problem (map (protocol problem) list)
assignment_at problem list valid = record { places = list; is_valid = valid; named = refl }

abbrev pub cheapest_at : (problem : Problem) (list : List ℕ) → IsCheapest problem list → IsCheapestAssignment problem (map (protocol problem) list)
cheapest_at problem list is = record {
  valid = assignment_at problem list is.is_valid;
  least = λ others are. is.least are.places are.is_valid;
  first = λ others are same. is.first are.places are.is_valid same;
}

pub places_cheapest : (problem : Problem) (protocols : List Proto) → (is : IsCheapestAssignment problem protocols) → IsCheapest problem is.valid.places
places_cheapest problem protocols is = record {
  is_valid = is.valid.is_valid;
  least = λ other valid. is.least (map (protocol problem) other) (assignment_at problem other valid);
  first = λ other valid same. is.first (map (protocol problem) other) (assignment_at problem other valid) same;
}
