-- What a search by arcs is made with.
use Rattle.std.specs.Prelude.{◌≡◌, ℕ, ◌≤◌, ◌<◌, List, [], length}
use Rattle.std.specs.List.{AllByRecursion}
use Rattle.vd_base.specs.Limits.{most_certificate_shifts}
use Rattle.vd_search_tree.specs.Texts.{IsShift}
use Rattle.vd_space.specs.Network.{network_tree}
use Rattle.vd_space.specs.Arcs.{arcs}
use Rattle.vd_cost_network_prefix.specs.declared.made.NetworkTables.{NetworkTables}
use Rattle.vd_cost_network_prefix.specs.Tables.{AreNetworkTables}
use Rattle.vd_space.specs.Shifts.{AreArcShifts}
use Rattle.vd_space_prefix.specs.declared.tables.Tables.{Tables}
use Rattle.vd_space_prefix.specs.Tables.{AreTables}
use Rattle.vd_search_tree.specs.declared.shift.Shift.{Shift}
use Rattle.vd_search.specs.Answers.{Answers}
use Rattle.vd_search.specs.declared.answers.Answer.{Answer}
use Rattle.vd_search_stages.specs.Selecting.{Selects}
use Rattle.vd_search_stages.specs.declared.selecting.Selection.{Selection}
use Rattle.vd_space.specs.Spaces.{IsProblem}
use Rattle.vd_space.specs.declared.problem.Problem.{Problem}
use Rattle.vd_space.specs.Validity.{protocols}

-- an arc and a protocol of the problem; and the shift can stand in a certificate
pub record NamesArc (problem : Problem) (shift : Shift) : Type 0 where
  pub at : shift.at < length (arcs problem)
  pub proto : shift.proto < length (protocols problem)
  pub is : IsShift shift

-- the tables of some shifts of arcs that a certificate can have
pub record CanUseArcs (problem : Problem) (tables : NetworkTables) : Type 0 where
  pub tabled : AreNetworkTables problem tables
  pub named : AllByRecursion (NamesArc problem) tables.shifts
  pub few : length tables.shifts ≤ most_certificate_shifts
  pub some : 1 ≤ length tables.shifts

-- the tables without shifts, and those of such shifts of arcs
pub record CanSelectByArcs (problem : Problem) (tables : Tables) (by_arcs : NetworkTables) : Type 0 where
  pub tabled : AreTables problem tables
  pub plain : tables.shifts ≡ []
  pub can_arc : CanUseArcs problem by_arcs

-- shifts of arcs that a certificate can have, at least one
pub record HasArcShifts (problem : Problem) (shifts : List Shift) : Type 0 where
  pub are : AreArcShifts problem shifts
  pub some : 1 ≤ length shifts

-- what an answer of the search by arcs comes to, whatever the problem and the budget are
abbrev pub Tells : NetworkTables → Answer → Selection → Type 0
Tells by_arcs answer selection =
    (problem : Problem) (budget : ℕ) → IsProblem problem → CanUseArcs problem by_arcs
    → Answers (network_tree problem by_arcs.shifts) budget answer → Selects problem budget selection
