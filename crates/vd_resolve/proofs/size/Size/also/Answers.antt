use Rattle.std.proofs.Common.{◌≡◌, max, rules, ap}
use Rattle.vd_resolve.specs.declared.size.Size.{Size}
use Rattle.vd_resolve.specs.Sizes.{also, capped_size, IsCapped}
use Rattle.vd_resolve.proofs.Capped.{capped_sum, capped_max}
use Rattle.vd_resolve.proofs.size.Size.also.Goals as goal

pub returns : goal.returns
unfolding also capped_size IsCapped
returns c x y p q =
    let larger : c.max.result ≡ max c.args.self.nesting c.args.next.nesting = search rules in
    let s = capped_sum _ _ _ _ _ (ap (λ (z : Size). z.statements) p) (ap (λ (z : Size). z.statements) q) c.saturating_add.ensures in
    let w = capped_sum _ _ _ _ _ (ap (λ (z : Size). z.weights) p) (ap (λ (z : Size). z.weights) q) c.saturating_add-2.ensures in
    let n = capped_max _ _ _ _ _ (ap (λ (z : Size). z.nesting) p) (ap (λ (z : Size). z.nesting) q) larger in
    let t = capped_sum _ _ _ _ _ (ap (λ (z : Size). z.cells) p) (ap (λ (z : Size). z.cells) q) c.saturating_add-3.ensures in
    cc
