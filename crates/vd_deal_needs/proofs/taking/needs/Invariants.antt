use Rattle.std.proofs.Common.{◌≡◌, map, length, take}
use Rattle.vd_deal_needs.specs.DealNeedsLawsNeeds.{counts}
use Rattle.vd_deal_needs.specs.Counted.{code_in}
use Rattle.vd_deal_needs.specs.Needs.{needs_by}
use Rattle.vd_deal_needs.proofs.taking.needs.Given as goal

abbrev pub invariant-loop-code : goal.invariant-loop-code
invariant-loop-code l = l.list ≡ map (λ code. needs_by (length l.codes) (counts (code_in code))) (take l.code-index l.codes)
