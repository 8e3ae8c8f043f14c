use Rattle.std.proofs.Common.{◌<◌, ◌≤◌, length, ap, ◌∙◌}
use Rattle.vd_elaborate.proofs.Renamed.{anew, renamed_at, renamed_past}
use Rattle.vd_elaborate.proofs.made.rename_slot.Goals as goal

pub returns-in_ok-slot : goal.returns-in_ok-slot
returns-in_ok-slot c =
    let lt : c.args.at < length c.args.slots.now = rw (← c.as_slice.ensures) c.if-at-as_slice.true in
    c.set.ensures ∙ renamed_at c.args.slots.now c.as_slice-then-at-as_slice.result.now c.args.at c.index-as_slice-at.result c.in_ok-slot.slot c.args.ident.now c.args.label.now c.as_slice-then-at-as_slice.ensures lt
    (c.in_ok-slot.ensures ∙ ap (λ z. anew z c.args.ident.now c.args.label.now) c.index-as_slice-at.is)

pub returns-else-at-as_slice : goal.returns-else-at-as_slice
returns-else-at-as_slice c =
    let le : length c.args.slots.now ≤ c.args.at = rw (← c.as_slice.ensures) c.if-at-as_slice.false in
    renamed_past c.args.slots.now c.args.at c.args.ident.now c.args.label.now le
