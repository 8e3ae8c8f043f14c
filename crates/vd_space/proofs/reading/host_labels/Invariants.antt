use Rattle.std.proofs.Common.{◌≡◌, map, take}
use Rattle.vd_constraints.specs.Rules.{label}
use Rattle.vd_space.proofs.reading.host_labels.Given as goal

abbrev pub invariant-loop-written : goal.invariant-loop-written
invariant-loop-written l = l.labels ≡ map (label l.form) (take l.written-index l.form.labels)
