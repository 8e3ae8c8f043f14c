-- Registers that both hosts take.
use Rattle.std.proofs.Common.{ℕ, ◌<◌, ◌≤◌, List, length, sym, subst, ◌∙◌, arith}
use Rattle.vd_base.specs.declared.ids.HostId.{HostId}
use Rattle.vd_duet.specs.Builder.{taken, TakesAtMost}
use Rattle.vd_duet.proofs.Front.{taken_known, taken_bounds}

pub both_few : (a b : HostId) (i j : ℕ) (next : List ℕ) → a.0 < length next → b.0 < length next → i ≤ 16 → j ≤ 16 → TakesAtMost 32 next (taken b j (taken a i next))
both_few a b i j next a_known b_known i_few j_few = (
  taken_known b j (taken a i next) ∙ taken_known a i next,
  λ h.
      let p = (taken_bounds a i next a_known h).1 in
      let q = (taken_bounds b j (taken a i next) (subst (λ n. b.0 < n) (sym (taken_known a i next)) b_known) h).1 in
      omega (arith, p, q, i_few, j_few),
)
