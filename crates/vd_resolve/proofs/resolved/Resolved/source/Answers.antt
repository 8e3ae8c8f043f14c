use Rattle.std.proofs.Common.{◌≡◌, subst, Result, Ok}
use Rattle.std.proofs.Math.Logic.{∥∥₁_elim}
use Rattle.std.specs.Coded.{Coded, Coded-set, codes}
use Rattle.vd_base.specs.contracts.ids.Span as span
use Rattle.vd_resolve.specs.contracts.fault.Quantity as quantity
use Rattle.vd_resolve.specs.Faults.{Fault}
use Rattle.vd_resolve.specs.Limits.{resolution, IsResolved}
use Rattle.vd_resolve.proofs.resolved.Resolved.source.Goals as goal

pub returns-clause-resolved : goal.returns-clause-resolved
returns-clause-resolved c =
    let code : Coded (Result (Unit {0}) Fault) = hlevel (codes, span.the_row.coded, quantity.the_row.coded) in
    subst IsResolved c.self.view_is (∥∥₁_elim c.self.invariant.0 (Coded-set code (resolution c.self.inside.source) (Ok tt)) (λ x. x))
