use Rattle.std.proofs.Common.{◌≡◌, ◌+◌, arith, ap}
use Rattle.vd_resolve.specs.declared.size.Size.{Size}
use Rattle.vd_resolve.specs.Sizes.{repeated, capped, capped_size, IsCapped}
use Rattle.vd_resolve.proofs.Capped.{capped_product}
use Rattle.vd_resolve.proofs.size.Size.repeated.Goals as goal

pub returns : goal.returns
unfolding repeated capped_size IsCapped
returns c x p =
    let s = ap (λ (z : Size). z.statements) p in
    let w = capped_product _ _ _ _ (ap (λ (z : Size). z.weights) p) c.saturating_mul.ensures in
    let n = ap (λ (z : Size). z.nesting) p in
    let n' : c.saturating_add.result ≡ capped (x.nesting + 1) = omega (arith, n, c.saturating_add.ensures) in
    let t = ap (λ (z : Size). z.cells) p in
    cc
