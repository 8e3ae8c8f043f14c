use Rattle.std.proofs.Common.{◌-◌, ◌<◌, ◌≤◌, length, sym, subst, arith}
use Rattle.std.proofs.lemmas.List.{length-take-le}
use Rattle.vd_space_prefix.specs.Tables.{IsPath}
use Rattle.vd_space_prefix.proofs.Paths.{left, front_of}
use Rattle.vd_space_prefix.proofs.path.PathPrefixes.leave.Goals as goal

pub invariant_of-self-clause-kept : goal.invariant_of-self-clause-kept
invariant_of-self-clause-kept c =
    let p = c.args.self.now in
    let size = p.kept.room in
    let deep = p.kept.depth in
    let low : p.depth ≤ length p.room = omega (arith, size, deep) in
    let taken = length-take-le p.depth p.room low in
    let some : 0 < p.depth = omega (arith, taken, c.requires) in
    subst (IsPath p.problem.now p.tables.now p.room p.sums (p.depth - 1)) (sym c.min-self.ensures) (left p.problem.now p.tables.now p.room p.sums p.depth p.valid p.kept some)

pub returns-clause-path : goal.returns-clause-path
returns-clause-path c = λ front last is.
    let p = c.args.self.now in
    let size = p.kept.room in
    let deep = p.kept.depth in
    let low : p.depth ≤ length p.room = omega (arith, size, deep) in
    let taken = length-take-le p.depth p.room low in
    let some : 0 < p.depth = omega (arith, taken, c.requires) in
    front_of p.room front last p.depth some low is
