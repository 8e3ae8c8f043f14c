use Rattle.std.proofs.Common.{◌≡◌, ◌++◌, map, take}
use Rattle.vd_cmd_plan.specs.Shown.{shown_byte}
use Rattle.vd_shell.proofs.reasons.push_shown.Given as goal

abbrev pub invariant-loop-byte : goal.invariant-loop-byte
invariant-loop-byte l = l.line ≡ l.initial.line ++ map shown_byte (take l.byte-index l.text)
