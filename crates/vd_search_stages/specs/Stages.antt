-- What a search is made with.
use Rattle.std.specs.Prelude.{ℕ, ◌≤◌, length}
use Rattle.std.specs.List.{AllByRecursion}
use Rattle.vd_base.specs.Limits.{most_certificate_shifts}
use Rattle.vd_space_prefix.specs.declared.tables.Tables.{Tables}
use Rattle.vd_space_prefix.specs.Tables.{AreTables}
use Rattle.vd_space.specs.declared.problem.Problem.{Problem}
use Rattle.vd_search_stages.specs.Naming.{NamesUse}
use Rattle.vd_search_stages.specs.Selecting.{CostsAtLeast, Selects}
use Rattle.vd_search_stages.specs.declared.trying.Tried.{Tried}
use Rattle.vd_search_stages.specs.declared.trying.Tried.TheVariants.{Selected, Unended}

-- the tables of shifts that a certificate can have
pub record CanSelect (problem : Problem) (tables : Tables) : Type 0 where
  pub tabled : AreTables problem tables
  pub named : AllByRecursion (NamesUse problem) tables.shifts
  pub few : length tables.shifts ≤ most_certificate_shifts

-- what searches came to: a selection, or what each valid list costs at least
abbrev pub Tries : Problem → ℕ → Tried → Type 0
Tries problem budget (Selected selection) = Selects problem budget selection
Tries problem budget (Unended floor) = CostsAtLeast problem floor
