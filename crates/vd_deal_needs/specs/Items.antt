-- How many items the hosts of a program take at most, by how often its statements are executed.
use Rattle.std.specs.Prelude.{ℕ, ◌*◌, ◌≤◌, List, length}
use Rattle.vd_base.specs.declared.protocols.Proto.{Proto}
use Rattle.vd_core.specs.declared.normal.NormalForm.{NormalForm}
use Rattle.vd_core.specs.Facts.{IsWellMade, weight_sum}
use Rattle.vd_tape.specs.Made.{AreCounts}
use Rattle.vd_execution.specs.Step.{Source}
use Rattle.vd_deal_needs.specs.DealNeedsLawsNeeds.{takes}
use Rattle.vd_backend_laws.specs.Suite.{IsOver}
use Rattle.vd_backend_laws.specs.Whole.{code_at}
use Rattle.vd_projection.specs.Programs.{CanRunAt}
use Rattle.vd_deal_needs.specs.Enough.{sizes_for}

-- the items that a host takes of a list each time that a statement is executed, at most
abbrev pub most_items : ℕ
most_items = 1024

-- at each protocol over the hosts of the program
abbrev pub ItemsAreFew : Type 0
ItemsAreFew = (program : NormalForm) (proto : ℕ → Proto) → IsWellMade program → ((x : ℕ) → IsOver (length program.hosts) (proto x))
    → (h : ℕ) (r : Source) → takes (code_at proto program) h r ≤ most_items * weight_sum program.body

-- how often the statements of a program are executed altogether, at most, for `deal` to make what its hosts take
abbrev pub most_executed : ℕ
most_executed = 1024

abbrev pub SmallProgramsCanBeDealt : Type 0
SmallProgramsCanBeDealt =
    (program : NormalForm) (list : List Proto) → CanRunAt program list → weight_sum program.body ≤ most_executed → AreCounts (sizes_for program list)
