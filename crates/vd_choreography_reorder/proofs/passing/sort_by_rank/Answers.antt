use Rattle.std.proofs.Common.{rules}
use Rattle.std.proofs.lemmas.List.Sorted.{answers_always, IsNonDecreasingBy-from_sort}
use Rattle.std.proofs.lemmas.Result.{on_ok_weaker}
use Rattle.vd_choreography_reorder.specs.declared.ranks.Ranked.{Ranked}
use Rattle.vd_choreography_reorder.proofs.Stable.{in_order_from_sort}
use Rattle.vd_choreography_reorder.proofs.passing.sort_by_rank.Goals as goal

pub returns : goal.returns
returns c =
    let keys = answers_always _ _ _ (λ f a r next called. search rules) in
    let stable = c.sort_by_key.ensures.stable (λ (x : Ranked). x.rank) keys in
    on_ok_weaker c.sort_by_key.result
    (λ sorted. in_order_from_sort _ _ (IsNonDecreasingBy-from_sort (λ (x : Ranked). x.rank) _ (sorted (λ (x : Ranked). x.rank) keys)) stable)
    c.sort_by_key.ensures.sorted
