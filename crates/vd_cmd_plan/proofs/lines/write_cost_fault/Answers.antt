use Rattle.std.proofs.Common.{◌∙◌, ap, w64}
use Rattle.std.specs.Fmt.{signed_decimal}
use Rattle.std.proofs.lemmas.Int.{to_z-of_z}
use Rattle.vd_cmd_plan.proofs.SignedLines.{cost_written}
use Rattle.vd_cmd_plan.proofs.lines.write_cost_fault.Goals as goal

pub returns : goal.returns
returns g c =
    cost_written _ _ _ _ _ _ _ (c.as_bytes-stated.ensures.value ∙ c.format.ensures.text) (c.as_bytes-own.ensures.value ∙ c.format-2.ensures.text ∙ ap signed_decimal (to_z-of_z w64 c.args.own c.ranges.own)) c.write_parts.ensures
