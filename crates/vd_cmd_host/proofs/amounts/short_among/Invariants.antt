use Rattle.std.proofs.Common.{◌≡◌, drop}
use Rattle.vd_cmd_host.specs.Checking.{short_among}
use Rattle.vd_cmd_host.proofs.amounts.short_among.Given as goal

abbrev pub invariant-loop-amounts : goal.invariant-loop-amounts
invariant-loop-amounts l = short_among (drop l.amounts-index l.list) ≡ short_among l.list
