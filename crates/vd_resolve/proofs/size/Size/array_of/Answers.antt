use Rattle.std.proofs.Common.{◌≡◌, arith}
use Rattle.vd_resolve.specs.Sizes.{array_of, capped, capped_size, IsCapped}
use Rattle.vd_resolve.proofs.size.Size.array_of.Goals as goal

pub returns : goal.returns
unfolding array_of capped_size IsCapped
returns c = let e : c.args.cells ≡ capped c.args.cells = omega arith in cc
