use Rattle.std.proofs.Common.{◌≡◌, drop}
use Rattle.vd_edge.specs.KeptFiles.{stores_at}
use Rattle.vd_edge.proofs.kept_files.stores_at.Given as goal

abbrev pub invariant-loop-call : goal.invariant-loop-call
invariant-loop-call l = stores_at l.name (drop l.call-index l.calls) ≡ stores_at l.name l.calls
