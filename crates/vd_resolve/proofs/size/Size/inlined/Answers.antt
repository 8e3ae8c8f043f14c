use Rattle.std.proofs.Common.{◌≡◌, ◌+◌, arith, ap}
use Rattle.vd_resolve.specs.declared.size.Size.{Size}
use Rattle.vd_resolve.specs.Sizes.{inlined, capped, capped_size, IsCapped}
use Rattle.vd_resolve.proofs.size.Size.inlined.Goals as goal

pub returns : goal.returns
unfolding inlined capped_size IsCapped
returns c x p =
    let s = ap (λ (z : Size). z.statements) p in
    let s' : c.saturating_add.result ≡ capped (x.statements + 1) = omega (arith, s, c.saturating_add.ensures) in
    let w = ap (λ (z : Size). z.weights) p in
    let n = ap (λ (z : Size). z.nesting) p in
    let t = ap (λ (z : Size). z.cells) p in
    cc
