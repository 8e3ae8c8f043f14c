use Rattle.std.proofs.Common.{◌≡◌, take, flat_map}
use Rattle.vd_cmd_draw.specs.Reveals.{branch_text}
use Rattle.vd_cmd_draw.proofs.reveals_lines.branches_text.Given as goal

abbrev pub invariant-loop-branch : goal.invariant-loop-branch
invariant-loop-branch l = l.text ≡ flat_map (branch_text l.source) (take l.branch-index l.around)
