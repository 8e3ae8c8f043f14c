use Rattle.std.proofs.Common.{◌≡◌, IsTrue}
use Rattle.vd_edge.specs.Store.{Same}
use Rattle.vd_edge.proofs.store.create_beside.Given as goal

abbrev pub invariant-loop-number : goal.invariant-loop-number
invariant-loop-number g l =
    (IsTrue g.D.Directory.tells → Same (g.D.Directory.holds l.initial.directory) (g.D.Directory.holds l.directory))
    × (g.D.Directory.began l.directory ≡ g.D.Directory.began l.initial.directory)
