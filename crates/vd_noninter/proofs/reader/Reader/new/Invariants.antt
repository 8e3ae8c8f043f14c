use Rattle.std.proofs.Common.{◌≡◌, map, take}
use Rattle.vd_constraints.specs.Rules.{host_label}
use Rattle.vd_formula.specs.TruthTable.{acts}
use Rattle.vd_noninter.proofs.reader.Reader.new.Given as goal

abbrev pub invariant-loop-label : goal.invariant-loop-label
invariant-loop-label l = l.slots ≡ map (λ label. acts (host_label l.form l.host).conf label.conf) (take l.label-index l.labels)
