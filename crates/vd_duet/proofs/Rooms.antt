-- Registers that no host has taken yet.
use Rattle.std.proofs.Common.{◌≡◌, ℕ, zero, suc, ◌+◌, ◌-◌, List, [], ◌∷◌, slice_index, replicate, refl, subst, sym, arith}
use Rattle.vd_duet.specs.Builder.{HasRoom, register_bound}

none_taken : (n h : ℕ) → slice_index (replicate n 0) h ≡ 0
none_taken zero h = refl
none_taken (suc n) zero = refl
none_taken (suc n) (suc h) = none_taken n h

pub all_room : (n : ℕ) (next : List ℕ) → next ≡ replicate n 0 → HasRoom (register_bound - 1) next
all_room n next e = subst (HasRoom (register_bound - 1)) (sym e) (λ h. let z = none_taken n h in omega (arith, z))
