use Rattle.std.proofs.Common.{◌≡◌, length, take}
use Rattle.vd_mux.specs.Hidden.{hidden_from}
use Rattle.vd_mux.proofs.hidden.all_hidden.Given as goal

abbrev pub invariant-loop-label : goal.invariant-loop-label
invariant-loop-label l = l.marks ≡ hidden_from l.form (length l.form.hosts) (take l.label-index l.labels)
