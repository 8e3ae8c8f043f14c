use Rattle.std.proofs.Common.{◌≡◌, ◌++◌, drop}
use Rattle.vd_diag_terminal.specs.StuckSentences.{ifs_in}
use Rattle.vd_diag_terminal.proofs.diag_choice.branches.+ifs.Given as goal

abbrev pub invariant-add_all_ifs-loop-stmt : goal.invariant-add_all_ifs-loop-stmt
invariant-add_all_ifs-loop-stmt l = l.offsets ++ ifs_in (drop l.stmt-index l.body) ≡ l.initial.offsets ++ ifs_in l.body
