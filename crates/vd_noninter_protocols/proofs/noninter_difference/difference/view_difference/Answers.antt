use Rattle.std.proofs.Common.{ap₂, ◌∙◌}
use Rattle.vd_noninter_protocols.specs.Difference.{first_difference}
use Rattle.vd_noninter_protocols.proofs.noninter_difference.difference.view_difference.Goals as goal

pub returns : goal.returns
returns c l =
    c.first_difference.ensures
    ∙ ap₂ first_difference (c.as_slice.ensures ∙ c.in_ok-known.ensures l) (c.as_slice-2.ensures ∙ c.in_ok-known_too.ensures l)
