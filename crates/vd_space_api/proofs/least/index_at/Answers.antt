use Rattle.std.proofs.Common.{◌≤◌, ◌*◌, arith, mul-le-mul}
use Rattle.vd_space_api.proofs.least.index_at.Goals as goal

pub overflow_mul-result : goal.overflow_mul-result
overflow_mul-result c =
    let low : c.from.result ≤ 65536 = omega (arith, c.from.ensures, c.requires.weight) in
    let product : c.from.result * c.in-Some.price ≤ 65536 * 17179869180 = mul-le-mul low c.in-Some.ensures.small in
    omega (arith, product)
