use Rattle.std.proofs.Common.{◌≡◌}
use Rattle.vd_base.specs.Holders.{is_holder}
use Rattle.vd_draw_rows.specs.Moves.{told_to}
use Rattle.vd_draw_rows.proofs.moves.index_moves.Given as goal

-- those of the hosts so far
abbrev pub invariant-loop-host : goal.invariant-loop-host
invariant-loop-host l = l.moves ≡ told_to l.list l.index (is_holder l.protocol) l.host
