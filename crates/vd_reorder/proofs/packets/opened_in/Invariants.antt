use Rattle.std.proofs.Common.{◌≡◌, ◌++◌, [], reverse, take, drop}
use Rattle.vd_reorder.specs.Packets.{opened_in}
use Rattle.vd_reorder.proofs.packets.opened_in.Given as goal

abbrev pub invariant-loop-place : goal.invariant-loop-place
invariant-loop-place l = l.opened ++ opened_in (reverse (take l.place l.code)) (drop l.place l.code) ≡ opened_in [] l.code
