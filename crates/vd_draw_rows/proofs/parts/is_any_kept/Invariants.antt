use Rattle.std.proofs.Common.{◌≡◌, drop}
use Rattle.std.specs.List.{list_any}
use Rattle.vd_draw_rows.specs.Moves.{kept_at}
use Rattle.vd_draw_rows.proofs.parts.is_any_kept.Given as goal

-- none so far
abbrev pub invariant-loop-slot : goal.invariant-loop-slot
invariant-loop-slot l = list_any (kept_at l.list l.host) (drop l.slot-index l.slots) ≡ list_any (kept_at l.list l.host) l.slots
