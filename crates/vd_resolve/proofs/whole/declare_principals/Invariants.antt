use Rattle.std.proofs.Common.{◌≡◌, [], drop}
use Rattle.vd_resolve.specs.Causes.{distinct_told}
use Rattle.vd_resolve.specs.Rules.{distinct}
use Rattle.vd_resolve.specs.Tables.{names}
use Rattle.vd_resolve.proofs.whole.declare_principals.Given as goal

abbrev pub invariant-loop-ident : goal.invariant-loop-ident
invariant-loop-ident l =
    (distinct (names l.principals) (drop l.ident-index l.idents) ≡ distinct [] l.idents)
    × (distinct_told l.principals (drop l.ident-index l.idents) ≡ distinct_told ([], []) l.idents)
