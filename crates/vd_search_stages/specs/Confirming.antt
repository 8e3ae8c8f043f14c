-- What a checker answers of a certificate for a problem.
use Rattle.std.specs.Prelude.{◌≡◌, ◌≢◌, ◌<◌, ◌≤◌, ℕ, if◌then◌else◌, Result, Err, IfOk, IsFalse, IsTrue, [], length}
use Rattle.vd_base.specs.Limits.{most_certificate_shifts}
use Rattle.vd_search_tree.specs.Trees.{Tree}
use Rattle.vd_search_tree.specs.declared.search_certificate.certificate.Certificate.{Certificate}
use Rattle.vd_bound.specs.declared.checking.CheckFault.{CheckFault}
use Rattle.vd_bound.specs.declared.checking.CheckFault.TheVariants.{Memory}
use Rattle.vd_bound.specs.declared.checking.Proved.{Proved}
use Rattle.vd_bound.specs.Checking.{Proves}
use Rattle.vd_bound.specs.Shifts.{certificate_checked}
use Rattle.vd_space.specs.Arcs.{arcs}
use Rattle.vd_space.specs.Network.{network_tree}
use Rattle.vd_cost_network_prefix.specs.declared.made.NetworkTables.{NetworkTables}
use Rattle.vd_cost_network_prefix.specs.Tables.{AreNetworkTables}
use Rattle.vd_space_prefix.specs.declared.tables.Tables.{Tables}
use Rattle.vd_space_prefix.specs.Tables.{AreTables}
use Rattle.vd_space.specs.declared.problem.Problem.{Problem}
use Rattle.vd_search_stages.specs.SoFar.{so_far_tree}

-- The bounds are those under the shifts that the certificate has, which name uses, or by its form arcs. In this third form
-- alone a prefix is not valid before a slot that has no candidate.
abbrev pub tree_by : Problem → Certificate → Tree
tree_by problem c = if c.by_arcs then network_tree problem c.shifts else so_far_tree problem c.shifts

abbrev pub names_by : Problem → Certificate → ℕ
names_by problem c = if c.by_arcs then length (arcs problem) else length problem.uses

abbrev pub confirmed : Problem → Certificate → Result Proved CheckFault
confirmed problem c = certificate_checked (names_by problem c) (tree_by problem c) c

-- the answer is that one, unless memory runs out; and a yes shows what it says
pub record Confirms (problem : Problem) (c : Certificate) (result : Result Proved CheckFault) : Type 0 where
  pub exact : result ≢ Err Memory → result ≡ confirmed problem c
  pub proved : IfOk result (Proves (tree_by problem c))

-- ---- what a checker is given

-- few enough shifts and marks
pub record IsSmallCertificate (c : Certificate) : Type 0 where
  pub few_shifts : length c.shifts ≤ most_certificate_shifts
  pub few_marks : length c.marks < 4294967296

-- the tables of the certificate's shifts, which name uses
pub record AreTablesFor (problem : Problem) (tables : Tables) (c : Certificate) : Type 0 where
  pub tabled : AreTables problem tables
  pub shifts : tables.shifts ≡ c.shifts
  pub by_uses : IsFalse c.by_arcs

-- the tables without shifts, and those of the certificate's shifts, which name arcs
pub record AreNetworkTablesFor (problem : Problem) (tables : Tables) (by_arcs : NetworkTables) (c : Certificate) : Type 0 where
  pub tabled : AreTables problem tables
  pub plain : tables.shifts ≡ []
  pub arc_tabled : AreNetworkTables problem by_arcs
  pub shifts : by_arcs.shifts ≡ c.shifts
  pub with_arcs : IsTrue c.by_arcs
