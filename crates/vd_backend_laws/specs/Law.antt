-- What is proved of the suite.
use Rattle.std.specs.Prelude.{ℕ, List}
use Rattle.vd_execution.specs.World.{Tape}
use Rattle.vd_execution.specs.Deals.{IsValidDeal}
use Rattle.vd_split.specs.Suite.{Laws}
use Rattle.vd_backend_laws.specs.Machine.{machine}
use Rattle.vd_backend_laws.specs.Suite.{suite, AreGiven}

-- with every valid deal, and all inputs
abbrev pub SuiteMeetsItsLaws : Type 0
SuiteMeetsItsLaws = (t : Tape) → IsValidDeal t → (inputs : ℕ → List ℕ) → AreGiven inputs t → (hosts : ℕ) → Laws (machine t inputs) (suite t inputs hosts)
