-- Slots that have a candidate.
use Rattle.std.specs.Prelude.{IsTrue}
use Rattle.vd_space.specs.declared.problem.Problem.{Problem}
use Rattle.vd_space.specs.declared.problem.Making.{Making}
use Rattle.vd_space.specs.Validity.{has_candidate}

abbrev pub HasCandidate : Problem → Making → Type 0
HasCandidate problem making = IsTrue (has_candidate problem making)
