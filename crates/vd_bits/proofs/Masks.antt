-- The code of a mask, host by host.
use Rattle.std.proofs.Common.{◌≡◌, ℕ, ◌+◌, sym, ap, subst, ◌∙◌, append_assoc}
use Rattle.vd_base.specs.declared.ids.HostId.{HostId}
use Rattle.vd_duet.specs.Builder.{Builder}
use Rattle.vd_duet.specs.Calls.{Makes, appended, called}
use Rattle.vd_backend_sharing.specs.declared.shares.PartRegisters.{PartRegisters}
use Rattle.vd_backend_sharing.specs.PairCalls.{two, reserved_both}
use Rattle.vd_bits.specs.BitCalls.{mask_at, masked_shares}

pub mask_code : (a b : HostId) (x at : PartRegisters) (c c0 c1 c2 : Builder) → (at, c0) ≡ reserved_both a 4 b 4 c → c1 ≡ appended (mask_at a x.first at.first.0) c0
    → c2 ≡ appended (mask_at b x.second at.second.0) c1 → Makes (masked_shares a b x) c (two (at.first.0 + 3) (at.second.0 + 3)) c2
mask_code a b x at c c0 c1 c2 d e f =
    ap (λ (z : Builder). let p : PartRegisters × Builder = (two (at.first.0 + 3) (at.second.0 + 3), z) in p) (f ∙ ap (appended (mask_at b x.second at.second.0)) e)
    ∙ subst (λ (z : PartRegisters × Builder). let p : PartRegisters × Builder = (
      two (z.0.first.0 + 3) (z.0.second.0 + 3),
      appended (mask_at b x.second z.0.second.0) (appended (mask_at a x.first z.0.first.0) z.1),
    ) in
    p ≡ called (masked_shares a b x c.next) c) (sym d) all
  where
    all : let z : PartRegisters × Builder = reserved_both a 4 b 4 c in
        let p : PartRegisters × Builder = (
          two (z.0.first.0 + 3) (z.0.second.0 + 3),
          appended (mask_at b x.second z.0.second.0) (appended (mask_at a x.first z.0.first.0) z.1),
        ) in
        p ≡ called (masked_shares a b x c.next) c
    all = simp append_assoc
