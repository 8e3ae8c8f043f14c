use Rattle.vd_cmd_plan.proofs.LinesRead.{numbers_in_order}
use Rattle.vd_cmd_plan.proofs.codes.numbers_are_in_order.Goals as goal

pub returns : goal.returns
returns c = numbers_in_order
