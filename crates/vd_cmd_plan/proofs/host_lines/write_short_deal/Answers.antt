use Rattle.std.proofs.Common.{◌∙◌}
use Rattle.vd_cmd_plan.proofs.DealLines.{short_written}
use Rattle.vd_cmd_plan.proofs.host_lines.write_short_deal.Goals as goal

pub returns : goal.returns
returns g c =
    short_written c.args.kind _ _ _ _ _ _ _ _ c.kind_name.ensures (c.as_bytes-cursor.ensures.value ∙ c.format.ensures.text) (c.as_bytes-count.ensures.value ∙ c.format-2.ensures.text) c.write_parts.ensures
