use Rattle.std.proofs.Common.{◌≡◌, ◌||◌, map}
use Rattle.vd_draw_rows.specs.Moves.{told_to}
use Rattle.vd_draw_rows.specs.Parts.{part_of_all}
use Rattle.vd_draw_rows.specs.Rows.{drawn}
use Rattle.vd_draw_rows.proofs.rows.guard_moves.Given as goal

-- those of the hosts so far
abbrev pub invariant-loop-host : goal.invariant-loop-host
invariant-loop-host l =
    let block = map (drawn l.placed.source.now l.placed.form.now l.placed.list.now) in
    l.moves ≡ told_to l.placed.list.now l.guard (λ h. part_of_all l.placed.list.now h (block l.first) || part_of_all l.placed.list.now h (block l.other)) l.host
