use Rattle.std.proofs.Common.{sym, ap, ◌∙◌}
use Rattle.vd_reorder.specs.Careful.{careful}
use Rattle.vd_reorder.specs.Packets.{stays_by}
use Rattle.vd_reorder.specs.Passing.{mark_passes}
use Rattle.vd_reorder.proofs.Turns.{turns_alike}
use Rattle.vd_reorder.proofs.passing.mark_passes.Goals as goal

pub returns-in-For : goal.returns-in-For
returns-in-For c =
    c.may_pass-in-For.ensures
    ∙ sym (turns_alike c.args.opened.now c.in-For.counter c.in-For.field-1 c.args.second.now)
    ∙ ap (λ i. mark_passes (careful (stays_by c.args.opened.now)) i c.args.second.now) (sym c.in-For.is)
