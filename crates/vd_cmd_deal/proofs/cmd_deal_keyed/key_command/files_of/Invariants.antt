use Rattle.std.proofs.Common.{◌≡◌, take}
use Rattle.vd_cmd_deal.specs.KeyDealing.{secret_files}
use Rattle.vd_cmd_deal.proofs.cmd_deal_keyed.key_command.files_of.Given as goal

abbrev pub invariant-loop-number : goal.invariant-loop-number
invariant-loop-number l = l.files ≡ secret_files l.counts l.key l.prefix (take l.number l.deals)
