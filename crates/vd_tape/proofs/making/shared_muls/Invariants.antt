use Rattle.std.proofs.Common.{◌≡◌}
use Rattle.vd_tape.specs.Validity.{peer_at}
use Rattle.vd_tape.specs.Made.{first_of, mul_item}
use Rattle.vd_tape.proofs.making.shared_muls.Given as goal

abbrev pub invariant-loop-place : goal.invariant-loop-place
invariant-loop-place l = l.lists ≡ first_of l.place (λ place. first_of l.count (mul_item l.key l.me (peer_at l.me place)))
