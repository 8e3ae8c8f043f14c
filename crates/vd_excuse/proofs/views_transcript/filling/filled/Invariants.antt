use Rattle.std.proofs.Common.{◌≡◌, map}
use Rattle.std.specs.List.{range_with_len}
use Rattle.vd_excuse.specs.Filling.{filled_at}
use Rattle.vd_excuse.proofs.views_transcript.filling.filled.Given as goal

abbrev pub invariant-loop-host : goal.invariant-loop-host
invariant-loop-host l = l.all ≡ map (filled_at l.inputs l.needs) (range_with_len 0 l.host)
