-- The code of a product, piece by piece.
use Rattle.std.proofs.Common.{◌≡◌, ℕ, ◌+◌, [], ◌∷◌, sym, ap, subst, ◌∙◌, append_assoc}
use Rattle.vd_base.specs.declared.ids.HostId.{HostId}
use Rattle.vd_execution.specs.declared.instructions.Reg.{Reg}
use Rattle.vd_execution.specs.Gadgets.{Sharing, Masked, masking}
use Rattle.vd_duet.specs.Builder.{Builder}
use Rattle.vd_duet.specs.Calls.{Makes, appended, called}
use Rattle.vd_backend_sharing.specs.declared.shares.PartRegisters.{PartRegisters}
use Rattle.vd_backend_sharing.specs.PairCalls.{two, reserved_both, masking_from, unmasked, completed, product_shares, with_acts, masked_told}

-- a masked product: what each host does, and what each tells
pub masked_code : (s : Sharing) (a b : HostId) (x x' y y' : Reg) (n m : ℕ) (c c1 c2 c3 c4 : Builder)
    → c1 ≡ with_acts (masking s (masking_from a x y n) b) c → c2 ≡ with_acts (masking s (masking_from b x' y' m) a) c1
    → c3 ≡ with_acts (masked_told a n b m) c2 → c4 ≡ with_acts (masked_told b m a n) c3
    → c4 ≡ appended (Masked s (masking_from a x y n) (masking_from b x' y' m) ∷ []) c
masked_code s a b x x' y y' n m c c1 c2 c3 c4 e f g h =
    h ∙ ap (with_acts (masked_told b m a n)) (g ∙ ap (with_acts (masked_told a n b m)) (f ∙ ap (with_acts (masking s (masking_from b x' y' m) a)) e)) ∙ all
  where
    all : with_acts (masked_told b m a n) (with_acts (masked_told a n b m) (with_acts (masking s (masking_from b x' y' m) a) (with_acts (masking s (masking_from a x y n) b) c)))
        ≡ appended (Masked s (masking_from a x y n) (masking_from b x' y' m) ∷ []) c
    all = simp append_assoc

pub product_code : (s : Sharing) (a b : HostId) (x y : PartRegisters) (at : PartRegisters) (c c0 c1 c2 c3 c4 : Builder) → (at, c0) ≡ reserved_both a 15 b 13 c
    → c1 ≡ appended (Masked s (masking_from a x.first y.first at.first.0) (masking_from b x.second y.second at.second.0) ∷ []) c0
    → c2 ≡ appended (unmasked s a at.first.0) c1 → c3 ≡ appended (completed s a at.first.0) c2 → c4 ≡ appended (unmasked s b at.second.0) c3
    → Makes (product_shares s a b x y) c (two (at.first.0 + 14) (at.second.0 + 12)) c4
unfolding product_shares
product_code s a b x y at c c0 c1 c2 c3 c4 d e f g h =
    ap (λ (z : Builder). let p : PartRegisters × Builder = (two (at.first.0 + 14) (at.second.0 + 12), z) in p)
    (h ∙ ap (appended (unmasked s b at.second.0)) (g ∙ ap (appended (completed s a at.first.0)) (f ∙ ap (appended (unmasked s a at.first.0)) e)))
    ∙ subst (λ (z : PartRegisters × Builder). let p : PartRegisters × Builder = (
      two (z.0.first.0 + 14) (z.0.second.0 + 12),
      appended (unmasked s b z.0.second.0) (appended (completed s a z.0.first.0) (appended (unmasked s a z.0.first.0)
          (appended (Masked s (masking_from a x.first y.first z.0.first.0) (masking_from b x.second y.second z.0.second.0) ∷ []) z.1))),
    ) in
    p ≡ called (product_shares s a b x y c.next) c) (sym d) all
  where
    all : let z : PartRegisters × Builder = reserved_both a 15 b 13 c in
        let p : PartRegisters × Builder = (
          two (z.0.first.0 + 14) (z.0.second.0 + 12),
          appended (unmasked s b z.0.second.0) (appended (completed s a z.0.first.0) (appended (unmasked s a z.0.first.0)
              (appended (Masked s (masking_from a x.first y.first z.0.first.0) (masking_from b x.second y.second z.0.second.0) ∷ []) z.1))),
        ) in
        p ≡ called (product_shares s a b x y c.next) c
    all = simp append_assoc
