use Rattle.std.proofs.Common.{◌∙◌}
use Rattle.vd_cmd_plan.proofs.DealLines.{deal_written}
use Rattle.vd_cmd_plan.proofs.lines.write_deal_fault.Goals as goal

pub returns : goal.returns
returns g c = deal_written _ _ _ _ _ _ (c.as_bytes-number.ensures.value ∙ c.format.ensures.text) c.write_named.ensures
