-- The registers that gates take.
use Rattle.std.proofs.Common.{ℕ, ◌+◌, ◌<◌, ◌≤◌, List, [], ◌∷◌, length, lit≤, arith}
use Rattle.vd_base.specs.declared.ids.HostId.{HostId}
use Rattle.vd_duet.specs.Builder.{taken, TakesAtMost}
use Rattle.vd_duet.proofs.Front.{taken_known, taken_bounds}
use Rattle.vd_backend_sharing.specs.Gates.{Gate, And, Xor, Shl, Shr, Not, Flip, Lowest, Mask}
use Rattle.vd_backend_sharing.specs.declared.shares.PartRegisters.{PartRegisters}
use Rattle.vd_backend_sharing.specs.PairCalls.{product_shares}
use Rattle.vd_backend_sharing.proofs.Front.{both_few}
use Rattle.vd_bits.specs.BitCalls.{gate_shares}

one_few : (a : HostId) (i : ℕ) (next : List ℕ) → a.0 < length next → i ≤ 32 → TakesAtMost 32 next (taken a i next)
one_few a i next known few = (taken_known a i next, λ h. let p = (taken_bounds a i next known h).1 in omega (arith, p, few))

pub gate_few : (a b : HostId) (g : Gate) (words : List PartRegisters) (next : List ℕ) → a.0 < length next → b.0 < length next
    → TakesAtMost 32 next (gate_shares a b g words next).next
unfolding product_shares
gate_few a b (And x y) words next p q = both_few a b 15 13 next p q (lit≤ tt) (lit≤ tt)
gate_few a b (Xor x y) words next p q = both_few a b 1 1 next p q (lit≤ tt) (lit≤ tt)
gate_few a b (Shl k x) words next p q = both_few a b 1 1 next p q (lit≤ tt) (lit≤ tt)
gate_few a b (Shr k x) words next p q = both_few a b 1 1 next p q (lit≤ tt) (lit≤ tt)
gate_few a b (Not x) words next p q = one_few a 2 next p (lit≤ tt)
gate_few a b (Flip x) words next p q = one_few a 2 next p (lit≤ tt)
gate_few a b (Lowest x) words next p q = both_few a b 2 2 next p q (lit≤ tt) (lit≤ tt)
gate_few a b (Mask x) words next p q = both_few a b 4 4 next p q (lit≤ tt) (lit≤ tt)
