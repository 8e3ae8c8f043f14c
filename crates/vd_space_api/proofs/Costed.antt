-- The bound of a whole valid list is its cost.
use Rattle.std.proofs.Common.{◌≡◌, ℕ, List, length, ap, ◌∙◌, pos}
use Rattle.std.proofs.lemmas.List.{length-map}
use Rattle.vd_base.specs.declared.protocols.Proto.{Proto}
use Rattle.vd_space.specs.declared.problem.Problem.{Problem}
use Rattle.vd_space.specs.Validity.{protocols}
use Rattle.vd_space.specs.Costs.{cost}
use Rattle.vd_space.specs.Bounds.{low}
use Rattle.vd_space.specs.WellFormed.{IsWellFormed}
use Rattle.vd_space.proofs.Front.{low_whole}
use Rattle.vd_space.specs.Cheapest.{IsAssignment}
use Rattle.vd_space_api.specs.Places.{place_of, places_of, places_in}
use Rattle.vd_space_api.proofs.Assigned.{has_all, valid_places}

pub whole_cost : (problem : Problem) (list : List Proto) → IsAssignment problem list → (p : Problem) (slice : List Proto) (n : ℕ) → p ≡ problem → slice ≡ protocols p → IsWellFormed problem
    → pos n ≡ low p (places_of slice list) → pos n ≡ cost problem (places_in problem list)
whole_cost problem list assigned p slice n same listed formed is =
    let few = formed.labelled.few_hosts in
    let size = length-map list (place_of (protocols problem)) in
    is ∙ ap (λ l. low p (places_of l list)) listed ∙ ap (λ q. low q (places_in q list)) same
    ∙ low_whole problem formed.holds (places_in problem list) (size ∙ has_all problem list assigned) (valid_places problem few list assigned)
