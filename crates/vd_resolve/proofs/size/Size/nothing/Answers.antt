use Rattle.std.proofs.Common.{refl}
use Rattle.vd_resolve.specs.Sizes.{capped_size, IsCapped}
use Rattle.vd_resolve.proofs.size.Size.nothing.Goals as goal

pub returns : goal.returns
unfolding capped_size IsCapped
returns c = refl
