use Rattle.std.proofs.Common.{◌<◌, ◌≤◌, length, arith}
use Rattle.std.proofs.lemmas.List.{length-take-le}
use Rattle.vd_space_prefix.proofs.Front.{front_of}
use Rattle.vd_search_stages.proofs.so_far.DecidedPrefixes.leave.Goals as goal

pub returns-clause-path : goal.returns-clause-path
returns-clause-path c = λ front last is.
    let p = c.args.self.now in
    let size = p.size in
    let deep = p.within in
    let low : p.depth ≤ length p.room = omega (arith, size, deep) in
    let taken = length-take-le p.depth p.room low in
    let some : 0 < p.depth = omega (arith, taken, c.requires) in
    front_of p.room front last p.depth some low is
