-- The code of committing and revealing, piece by piece.
use Rattle.std.proofs.Common.{◌≡◌, ℕ, ◌+◌, List, [], ◌∷◌, ◌++◌, sym, ap, ap₂, subst, ◌∙◌, append_assoc}
use Rattle.vd_base.specs.declared.ids.HostId.{HostId}
use Rattle.vd_execution.specs.declared.instructions.Reg.{Reg}
use Rattle.vd_execution.specs.declared.instructions.Action.TheVariants as action
use Rattle.vd_execution.specs.declared.instructions.Act.TheVariants as act
use Rattle.vd_execution.specs.Gadgets.{Tells}
use Rattle.vd_execution.specs.Text.{register}
use Rattle.vd_duet.specs.Builder.{Builder, added, reserved}
use Rattle.vd_duet.specs.Calls.{appended, called}
use Rattle.vd_commit.specs.declared.ends.Held.{Held}
use Rattle.vd_commit.specs.declared.ends.Seen.{Seen}
use Rattle.vd_commit.specs.Commit.{eight, own_each, same_each, committed, revealed}

abbrev ends_of : Reg → Reg → Reg → Held × Seen
ends_of x n m = (record { value = x; nonce = n }, record { digest = m })

pub commit_code : (p v : HostId) (x n m : Reg) (xs ys zs : List Reg) (c c0 c1 c2 c3 c4 : Builder) → (n, c0) ≡ reserved p 16 c → (m, c1) ≡ reserved v 8 c0
    → xs ≡ eight n.0 → c2 ≡ appended (own_each p xs) c1 → c3 ≡ added (act.Do p (action.Hash (register (n.0 + 8)) n x)) c2
    → ys ≡ eight (n.0 + 8) → zs ≡ eight m.0 → c4 ≡ appended (Tells p ys v zs ∷ []) c3
    → (ends_of x n m, c4) ≡ called (committed p v x c.next) c
commit_code p v x n m xs ys zs c c0 c1 c2 c3 c4 d e xs_is f g ys_is zs_is h =
    ap (λ (z : Builder). let q : (Held × Seen) × Builder = (ends_of x n m, z) in q)
    (h ∙ ap₂ (λ (i j : List Reg). appended (Tells p i v j ∷ []) c3) ys_is zs_is
    ∙ ap (appended (Tells p (eight (n.0 + 8)) v (eight m.0) ∷ [])) (g ∙ ap (added (act.Do p (action.Hash (register (n.0 + 8)) n x)))
    (f ∙ ap (λ (i : List Reg). appended (own_each p i) c1) xs_is)))
    ∙ ap (λ (z : Reg × Builder). let q : (Held × Seen) × Builder = (
      ends_of x n z.0,
      appended (Tells p (eight (n.0 + 8)) v (eight z.0.0) ∷ []) (added (act.Do p (action.Hash (register (n.0 + 8)) n x)) (appended (own_each p (eight n.0)) z.1)),
    ) in q) e
    ∙ subst (λ (z : Reg × Builder). let y : Reg × Builder = reserved v 8 z.1 in let q : (Held × Seen) × Builder = (
      ends_of x z.0 y.0,
      appended (Tells p (eight (z.0.0 + 8)) v (eight y.0.0) ∷ []) (added (act.Do p (action.Hash (register (z.0.0 + 8)) z.0 x)) (appended (own_each p (eight z.0.0)) y.1)),
    ) in
    q ≡ called (committed p v x c.next) c) (sym d) all
  where
    all : let z : Reg × Builder = reserved p 16 c in let y : Reg × Builder = reserved v 8 z.1 in let q : (Held × Seen) × Builder = (
      ends_of x z.0 y.0,
      appended (Tells p (eight (z.0.0 + 8)) v (eight y.0.0) ∷ []) (added (act.Do p (action.Hash (register (z.0.0 + 8)) z.0 x)) (appended (own_each p (eight z.0.0)) y.1)),
    ) in
        q ≡ called (committed p v x c.next) c
    all = simp append_assoc

pub reveal_code : (p v : HostId) (held : Held) (seen : Seen) (m : Reg) (xs ys : List Reg) (c c0 c1 c2 c3 : Builder) → (m, c0) ≡ reserved v 17 c
    → xs ≡ held.value ∷ eight held.nonce.0 → ys ≡ m ∷ eight (m.0 + 1) → c1 ≡ appended (Tells p xs v ys ∷ []) c0
    → c2 ≡ added (act.Do v (action.Hash (register (m.0 + 9)) (register (m.0 + 1)) m)) c1
    → c3 ≡ appended (same_each v (eight (m.0 + 9)) (eight seen.digest.0)) c2
    → (m, c3) ≡ called (revealed p v held seen c.next) c
reveal_code p v held seen m xs ys c c0 c1 c2 c3 d xs_is ys_is e f g =
    ap (λ (z : Builder). let q : Reg × Builder = (m, z) in q)
    (g ∙ ap (appended (same_each v (eight (m.0 + 9)) (eight seen.digest.0))) (f ∙ ap (added (act.Do v (action.Hash (register (m.0 + 9)) (register (m.0 + 1)) m)))
    (e ∙ ap₂ (λ (i j : List Reg). appended (Tells p i v j ∷ []) c0) xs_is ys_is)))
    ∙ subst (λ (z : Reg × Builder). let q : Reg × Builder = (
      z.0,
      appended (same_each v (eight (z.0.0 + 9)) (eight seen.digest.0)) (added (act.Do v (action.Hash (register (z.0.0 + 9)) (register (z.0.0 + 1)) z.0))
          (appended (Tells p (held.value ∷ eight held.nonce.0) v (z.0 ∷ eight (z.0.0 + 1)) ∷ []) z.1)),
    ) in
    q ≡ called (revealed p v held seen c.next) c) (sym d) all
  where
    all : let z : Reg × Builder = reserved v 17 c in let q : Reg × Builder = (
      z.0,
      appended (same_each v (eight (z.0.0 + 9)) (eight seen.digest.0)) (added (act.Do v (action.Hash (register (z.0.0 + 9)) (register (z.0.0 + 1)) z.0))
          (appended (Tells p (held.value ∷ eight held.nonce.0) v (z.0 ∷ eight (z.0.0 + 1)) ∷ []) z.1)),
    ) in
        q ≡ called (revealed p v held seen c.next) c
    all = simp append_assoc
