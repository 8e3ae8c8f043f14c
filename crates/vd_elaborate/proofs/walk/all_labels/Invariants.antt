use Rattle.std.proofs.Common.{◌≡◌, map, take}
use Rattle.vd_elaborate.specs.Normal.{written}
use Rattle.vd_elaborate.proofs.walk.all_labels.Given as goal

abbrev pub invariant-loop-host : goal.invariant-loop-host
invariant-loop-host l = l.labels ≡ map (λ h. written h.label) (take l.host-index l.hosts)
