use Rattle.std.proofs.Common.{◌≡◌, take, flat_map}
use Rattle.vd_cmd_draw.specs.Reveals.{kept_at}
use Rattle.vd_cmd_draw.proofs.reveals_lines.still_open.Given as goal

abbrev pub invariant-loop-branch : goal.invariant-loop-branch
invariant-loop-branch l = l.kept ≡ flat_map (kept_at l.depth) (take l.branch-index l.branches)
