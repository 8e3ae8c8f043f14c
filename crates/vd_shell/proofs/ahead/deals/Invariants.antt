use Rattle.std.proofs.Common.{◌≡◌, ◌++◌, take}
use Rattle.vd_shell.specs.Ahead.{deals_of}
use Rattle.vd_shell.proofs.ahead.deals.Given as goal

abbrev pub invariant-loop-number : goal.invariant-loop-number
invariant-loop-number l = l.files ≡ l.fn.files ++ take l.number (deals_of l.prefix)
