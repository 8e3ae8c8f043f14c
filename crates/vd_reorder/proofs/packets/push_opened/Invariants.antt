use Rattle.std.proofs.Common.{◌≡◌, ◌++◌, reverse, take, not}
use Rattle.std.specs.List.{filter}
use Rattle.vd_reorder.specs.Packets.{is_blind}
use Rattle.vd_reorder.proofs.packets.push_opened.Given as goal

abbrev pub invariant-loop-register : goal.invariant-loop-register
invariant-loop-register l = l.opened ≡ l.initial.opened ++ filter (λ r. not (is_blind (reverse l.before) r)) (take l.register-index l.sent)
