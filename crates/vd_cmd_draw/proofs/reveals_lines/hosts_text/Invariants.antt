use Rattle.std.proofs.Common.{◌≡◌, [], take, flat_map}
use Rattle.vd_cmd_draw.specs.Reveals.{rows_lines}
use Rattle.vd_cmd_draw.proofs.reveals_lines.hosts_text.Given as goal

-- those of the hosts so far
abbrev pub invariant-loop-host : goal.invariant-loop-host
invariant-loop-host l = l.text ≡ flat_map (λ h. rows_lines l.source l.form h [] l.rows) (take l.host-index l.hosts)
