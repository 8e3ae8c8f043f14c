use Rattle.std.proofs.Common.{◌++◌, List, [], ◌∷◌, sym, ap₂, ◌∙◌, arith}
use Rattle.std.proofs.lemmas.List.FromFn.{map-range_with_len_more}
use Rattle.vd_deal_needs.specs.DealNeedsLawsNeeds.{counts}
use Rattle.vd_deal_needs.specs.declared.taking.Shared.{Shared}
use Rattle.vd_deal_needs.specs.Counted.{code_in}
use Rattle.vd_deal_needs.specs.Needs.{shared_by}
use Rattle.vd_deal_needs.proofs.taking.shared_with_all.Goals as goal

pub loop-number-preserved : goal.loop-number-preserved
loop-number-preserved c =
    let n = c.loop-number.number in
    c.in_ok-push.ensures.ok
    ∙ ap₂ (λ (front : List Shared) (last : Shared). front ++ last ∷ []) c.loop-number.invariant c.in_ok-shared.ensures
    ∙ sym (map-range_with_len_more (shared_by (counts (code_in c.args.code.now))) 0 n n (omega arith))
