use Rattle.std.proofs.Common.{◌≡◌, Some, rules}
use Rattle.vd_base.specs.Names.{Named, at_name}
use Rattle.vd_resolve.specs.Scopes.{sizes_of}
use Rattle.vd_resolve.specs.Tables.{names}
use Rattle.vd_resolve.specs.declared.symbol.Callee.{Callee}
use Rattle.vd_resolve.proofs.Lookups.{size_at}
use Rattle.vd_resolve.proofs.declarations.Declarations.callee.Goals as goal

pub returns-in_ok-check_arguments-in-Some-clause-size : goal.returns-in_ok-check_arguments-in-Some-clause-size
returns-in_ok-check_arguments-in-Some-clause-size c =
    let callees : Named Callee = names c.args.self.now.callees.now in
    let found : at_name callees c.args.name.now.name ≡ Some c.in-Some.callee.now = search rules in
    let s = size_at callees (sizes_of c.args.self.now) c.args.name.now.name c.in-Some.callee.now c.args.self.now.sized found in
    rw s.1 (c.inlined.ensures s.0 s.2)
