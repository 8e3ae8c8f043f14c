-- Where some list is valid, each slot has a candidate.
use Rattle.std.proofs.Common.{ℕ, ◌&&◌, List, [], ◌∷◌}
use Rattle.std.specs.Prelude.{All, IsTrue}
use Rattle.std.specs.List.{list_all}
use Rattle.std.proofs.lemmas.Bool.{and_parts}
use Rattle.std.proofs.lemmas.List.Elements.{All-nil, All-cons}
use Rattle.vd_space.specs.declared.problem.Problem.{Problem}
use Rattle.vd_space.specs.declared.problem.Making.{Making}
use Rattle.vd_space.specs.Validity.{has_candidate, is_valid}
use Rattle.vd_space.proofs.Front.{stands_have, parts_of}
use Rattle.vd_diag_terminal.specs.Bare.{HasCandidate}

each_has : (problem : Problem) (makings : List Making) → IsTrue (list_all (has_candidate problem) makings) → All (HasCandidate problem) makings
each_has problem [] have = All-nil (HasCandidate problem)
each_has problem (making ∷ makings) have =
    let parts = and_parts (has_candidate problem making) (list_all (has_candidate problem) makings) have in
    All-cons (HasCandidate problem) making makings parts.0 (each_has problem makings parts.1)

pub valid_stands : (problem : Problem) (list : List ℕ) → IsTrue (is_valid problem list) → All (HasCandidate problem) problem.slots
valid_stands problem list valid = each_has problem problem.slots (stands_have problem problem.slots list (parts_of problem list valid).stands)
