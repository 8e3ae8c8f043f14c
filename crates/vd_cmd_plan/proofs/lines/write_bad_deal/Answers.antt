use Rattle.std.proofs.Common.{◌∙◌}
use Rattle.vd_cmd_plan.proofs.DealLines.{bad_written}
use Rattle.vd_cmd_plan.proofs.lines.write_bad_deal.Goals as goal

pub returns : goal.returns
returns g c =
    bad_written c.args.bad _ _ _ _ _ _ _ _ _ c.kind_name.ensures (c.as_bytes-first.ensures.value ∙ c.format.ensures.text) (c.as_bytes-second.ensures.value ∙ c.format-2.ensures.text)
    (c.as_bytes-index.ensures.value ∙ c.format-3.ensures.text) (c.as_bytes-left.ensures.value ∙ c.format-4.ensures.text) (c.as_bytes-right.ensures.value ∙ c.format-5.ensures.text) c.write_parts.ensures
