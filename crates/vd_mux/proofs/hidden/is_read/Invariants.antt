use Rattle.std.proofs.Common.{◌≡◌, false}
use Rattle.vd_mux.specs.Hidden.{some_reads}
use Rattle.vd_mux.proofs.hidden.is_read.Given as goal

abbrev pub invariant-loop-number : goal.invariant-loop-number
invariant-loop-number l = some_reads l.form l.number l.label ≡ false
