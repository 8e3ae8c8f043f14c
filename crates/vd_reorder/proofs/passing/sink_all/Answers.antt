use Rattle.std.proofs.Common.{◌-◌, arith}
use Rattle.vd_reorder.specs.Careful.{careful}
use Rattle.vd_reorder.specs.Packets.{stays_by}
use Rattle.vd_reorder.specs.Passing.{window}
use Rattle.vd_reorder.proofs.Sinking.{all_more}
use Rattle.vd_reorder.proofs.passing.sink_all.Goals as goal

pub instructions-preserved : goal.instructions-preserved
instructions-preserved c = (
  omega arith,
  all_more (careful (stays_by c.args.opened.now)) window c.args.code.now c.instructions.code c.sink.new.code c.instructions.left (c.instructions.left - 1) (omega arith) c.instructions.invariant.0
      c.instructions.invariant.1 c.sink.ensures,
)
