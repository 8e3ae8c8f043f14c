-- What is known of the problem of a program, and of the list of its protocols.
use Rattle.std.specs.Prelude.{◌≡◌, ◌≤◌, List, length}
use Rattle.vd_base.specs.declared.protocols.Proto.{Proto}
use Rattle.vd_space.specs.declared.problem.Problem.{Problem}
use Rattle.vd_space.specs.Labelled.{IsLabelled}
use Rattle.vd_space.specs.Sizes.{IsWithinLimits}
use Rattle.vd_space.specs.Spaces.{IsProblem}
use Rattle.vd_space.specs.Validity.{protocols}

-- the problem of a program within the limits, with a label for each slot
pub record IsWellFormed (problem : Problem) : Type 0 where
  pub holds : IsProblem problem
  pub labelled : IsLabelled problem
  pub limits : IsWithinLimits problem

-- all protocols over the hosts of the problem, which are few, so that labels tell where a slot may stand
pub record AreProtocols (problem : Problem) (list : List Proto) : Type 0 where
  pub labelled : IsLabelled problem
  pub all : list ≡ protocols problem
  pub few : length list ≤ 64
