use Rattle.std.proofs.Common.{◌≡◌, drop}
use Rattle.std.specs.List.{fold}
use Rattle.vd_deal_needs.specs.Sizes.{greater, most_shared}
use Rattle.vd_deal_needs.proofs.amounts.most_shared.Given as goal

abbrev pub invariant-loop-shared : goal.invariant-loop-shared
invariant-loop-shared l = fold greater l.most (drop l.shared-index l.list) ≡ most_shared l.list
