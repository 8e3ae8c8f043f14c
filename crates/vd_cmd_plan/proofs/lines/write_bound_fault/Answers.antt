use Rattle.std.proofs.Common.{◌∙◌, ap, w64}
use Rattle.std.specs.Fmt.{signed_decimal}
use Rattle.std.proofs.lemmas.Int.{to_z-of_z}
use Rattle.vd_cmd_plan.proofs.SignedLines.{bound_written}
use Rattle.vd_cmd_plan.proofs.lines.write_bound_fault.Goals as goal

pub returns : goal.returns
returns g c =
    bound_written _ _ _ _ _ _ _ _ _ (c.as_bytes-mark.ensures.value ∙ c.format.ensures.text) (c.as_bytes-bound.ensures.value ∙ c.format-2.ensures.text ∙ ap signed_decimal (to_z-of_z w64 c.args.bound c.ranges.bound))
    (c.as_bytes-cost.ensures.value ∙ c.format-3.ensures.text) c.write_parts.ensures
