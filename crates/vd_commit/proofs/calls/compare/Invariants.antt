use Rattle.std.proofs.Common.{◌≡◌, drop}
use Rattle.vd_duet.specs.Calls.{appended}
use Rattle.vd_commit.specs.Commit.{same_each}
use Rattle.vd_commit.proofs.calls.compare.Given as goal

abbrev pub invariant-loop-place : goal.invariant-loop-place
invariant-loop-place l =
    appended (same_each l.host (drop l.place l.xs) (drop l.place l.ys)) l.code ≡ appended (same_each l.host l.xs l.ys) l.initial.code
