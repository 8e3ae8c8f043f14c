use Rattle.std.proofs.Common.{◌≡◌, drop}
use Rattle.vd_split.specs.Places.{acting}
use Rattle.vd_split.proofs.acting.+acts.Given as goal

abbrev pub invariant-any_acts-loop-stmt : goal.invariant-any_acts-loop-stmt
invariant-any_acts-loop-stmt g l = acting (g.P.Protocols.offer l.protocols).calls l.protos (drop l.stmt-index l.body) l.host.0 ≡ acting (g.P.Protocols.offer l.protocols).calls l.protos l.body l.host.0
