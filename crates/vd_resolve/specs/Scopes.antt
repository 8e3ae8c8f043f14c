-- The scope that declarations make.
use Rattle.std.specs.Prelude.{ℕ, List, []}
use Rattle.vd_resolve.specs.declared.declarations.Declarations.{Declarations}
use Rattle.vd_resolve.specs.declared.size.Size.{Size}
use Rattle.vd_base.specs.Names.{Named}
use Rattle.vd_resolve.specs.Rules.{Scope, function_names}
use Rattle.vd_resolve.specs.Sizes.{function_sizes}
use Rattle.vd_resolve.specs.Tables.{names}
use Rattle.vd_resolve.specs.Walks.{signatures}

abbrev pub scope_of : Declarations → Scope
scope_of d = record { principals = names d.principals.now; hosts = names d.hosts.now; functions = signatures (names d.callees.now); later = function_names d.later.now }

-- the exact sizes of the functions before this place
abbrev pub sizes_of : Declarations → Named Size
sizes_of d = function_sizes [] d.earlier.now
