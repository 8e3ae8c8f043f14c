use Rattle.std.proofs.Common.{◌≡◌, take, map}
use Rattle.vd_diag_source.proofs.follow.kinds_of.Given as goal

abbrev pub invariant-loop-token : goal.invariant-loop-token
invariant-loop-token l = l.kinds ≡ map (λ t. t.kind) (take l.token-index l.tokens)
