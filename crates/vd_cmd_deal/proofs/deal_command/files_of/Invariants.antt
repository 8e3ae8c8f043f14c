use Rattle.std.proofs.Common.{◌≡◌, take}
use Rattle.vd_cmd_deal.specs.Dealing.{deal_files}
use Rattle.vd_cmd_deal.proofs.deal_command.files_of.Given as goal

abbrev pub invariant-loop-number : goal.invariant-loop-number
invariant-loop-number l = l.files ≡ deal_files l.prefix (take l.number l.deals)
