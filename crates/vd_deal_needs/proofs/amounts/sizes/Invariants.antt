use Rattle.std.proofs.Common.{◌≡◌, drop, max}
use Rattle.std.specs.List.{fold}
use Rattle.vd_deal_needs.specs.Sizes.{greater, most_of, most_own, most_shared}
use Rattle.vd_deal_needs.proofs.amounts.sizes.Given as goal

abbrev pub invariant-loop-host : goal.invariant-loop-host
invariant-loop-host l = record {
  own : fold (λ n host. max n host.own) l.own (drop l.host-index l.needs) ≡ most_own l.needs;
  shared : fold (λ s host. greater s (most_shared host.shared)) l.most (drop l.host-index l.needs) ≡ most_of l.needs;
}
