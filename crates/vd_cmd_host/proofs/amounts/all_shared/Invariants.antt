use Rattle.std.proofs.Common.{◌≡◌, map}
use Rattle.std.specs.List.{range_with_len}
use Rattle.vd_deal_needs.specs.Counted.{code_in}
use Rattle.vd_deal_needs.specs.DealNeedsLawsNeeds.{counts}
use Rattle.vd_machine.specs.Wants.{count_of}
use Rattle.vd_cmd_host.specs.Checking.{peer_amounts}
use Rattle.vd_cmd_host.specs.Serving.{lists_of}
use Rattle.vd_cmd_host.proofs.amounts.all_shared.Given as goal

abbrev pub invariant-loop-number : goal.invariant-loop-number
invariant-loop-number l = l.list ≡ map (peer_amounts (counts (code_in l.code)) (count_of (lists_of l.loaded))) (range_with_len 0 l.number)
