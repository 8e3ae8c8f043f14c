use Rattle.std.proofs.Common.{◌++◌, List, [], ◌∷◌, sym, ap₂, ◌∙◌, arith}
use Rattle.std.proofs.lemmas.List.FromFn.{map-range_with_len_more}
use Rattle.vd_deal_needs.specs.Counted.{code_in}
use Rattle.vd_deal_needs.specs.DealNeedsLawsNeeds.{counts}
use Rattle.vd_machine.specs.Wants.{count_of}
use Rattle.vd_cmd_host.specs.Checking.{peer_amounts}
use Rattle.vd_cmd_host.specs.Serving.{lists_of}
use Rattle.vd_cmd_host.specs.declared.amounts.PeerAmounts.{PeerAmounts}
use Rattle.vd_cmd_host.proofs.amounts.all_shared.Goals as goal

pub loop-number-preserved : goal.loop-number-preserved
loop-number-preserved c =
    let n = c.loop-number.number in
    c.in_ok-push.ensures.ok
    ∙ ap₂ (λ (front : List PeerAmounts) (last : PeerAmounts). front ++ last ∷ []) c.loop-number.invariant c.in_ok-amounts.ensures
    ∙ sym (map-range_with_len_more (peer_amounts (counts (code_in c.args.code.now)) (count_of (lists_of c.args.loaded.now))) 0 n n (omega arith))
