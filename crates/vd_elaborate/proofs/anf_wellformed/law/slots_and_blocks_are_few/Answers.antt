use Rattle.std.proofs.Common.{arith}
use Rattle.vd_elaborate.proofs.AnfWellformedGrowth.{main_size}
use Rattle.vd_elaborate.proofs.anf_wellformed.law.slots_and_blocks_are_few.Goals as goal

pub returns : goal.returns
returns c = λ source. let size = main_size source in omega arith
