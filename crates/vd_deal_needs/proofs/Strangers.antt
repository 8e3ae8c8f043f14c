-- A host takes nothing that it shares with itself, or with a host that is not declared.
use Rattle.std.proofs.Common.{◌≡◌, ◌≢◌, inl, inr, ℕ, ◌+◌, ◌-◌, ◌*◌, ◌<◌, nat_eq, nat_lt, nat_le, not, Bool, true, false, ◌&&◌, if◌then◌else◌, List, [], ◌∷◌, ◌++◌, refl, sym, ap, ◌∙◌, arith, append_assoc}
use Rattle.std.specs.Prelude.{◌==◌}
use Rattle.std.specs.List.{AllByRecursion}
use Rattle.std.proofs.lemmas.Bool.{and_parts, or_parts, not-false, ltb-true}
use Rattle.std.proofs.lemmas.Bool.Decides.{eqb_tells, nat_tests}
use Rattle.vd_base.specs.Limits.{most_open_blocks}
use Rattle.vd_base.specs.declared.ids.HostId.{HostId}
use Rattle.vd_execution.specs.declared.instructions.Reg.{Reg}
use Rattle.vd_execution.specs.declared.instructions.Action.{Action}
use Rattle.vd_execution.specs.declared.instructions.Action.TheVariants as action
use Rattle.vd_execution.specs.declared.instructions.Instr.{Instr}
use Rattle.vd_execution.specs.declared.instructions.Instr.TheVariants as instr
use Rattle.vd_execution.specs.Code.{Code, Finished, Then, Send, Recv, Choose, Repeat}
use Rattle.vd_execution.specs.Step.{Source, Inputs, OwnWords, Triples, BitTriples, Pairs}
use Rattle.vd_execution.specs.Text.{text}
use Rattle.vd_hostcode.specs.Ranges.{IsWithinRanges, action_is_within, breaks, count_in, is_peer, is_register, is_share, is_within, open_in, opens}
use Rattle.vd_deal_needs.specs.DealNeedsLawsNeeds.{counts, greater, one_of, source_of}

module _ (hosts : ℕ) (me : HostId) where
  -- a list that is shared with no peer
  abbrev pub IsStranger : Source → Type 0
  IsStranger Inputs = ⊥
  IsStranger OwnWords = ⊥
  IsStranger (Triples p) = p < hosts → p ≢ me.0 → ⊥
  IsStranger (BitTriples p) = p < hosts → p ≢ me.0 → ⊥
  IsStranger (Pairs p) = p < hosts → p ≢ me.0 → ⊥

  not_me : (p : HostId) → not (p.0 == me.0) ≡ true → p.0 ≢ me.0
  not_me p e = grind (arith, nat_tests)

  -- a peer is another one
  other : (q : ℕ) (p : HostId) → (q < hosts → q ≢ me.0 → ⊥) → is_peer hosts me p ≡ true → nat_eq q p.0 ≡ false
  other q p none is =
      let parts = and_parts (nat_lt p.0 hosts) (not (p.0 == me.0)) is in
      let below = ltb-true p.0 hosts parts.0 in
      elim (eqb_tells q p.0) [
        | inl same ↦ absurd (none (omega (arith, same.1, below)) (λ e. not_me p parts.1 (sym same.1 ∙ e)))
        | inr differ ↦ differ.0
      ]

  none_of_other : (q : ℕ) (p : HostId) → (q < hosts → q ≢ me.0 → ⊥) → is_peer hosts me p ≡ true → ◌≡◌ {A = ℕ} (if nat_eq q p.0 then 1 else 0) 0
  none_of_other q p none is = ap (λ (b : Bool). let n : ℕ = if b then 1 else 0 in n) (other q p none is)

  peer_of : (p : HostId) (a b c : Reg) → is_share hosts me p a b c ≡ true → is_peer hosts me p ≡ true
  peer_of p a b c is = (and_parts (is_peer hosts me p) (is_register a && (is_register b && is_register c)) is).0

  -- an action within the ranges takes nothing from there
  none_taken : (a : Action) (r : Source) → IsStranger r → action_is_within hosts me a ≡ true → one_of (source_of a) r ≡ 0
  none_taken (action.Own q) Inputs s is = absurd s
  none_taken (action.Own q) OwnWords s is = absurd s
  none_taken (action.Own q) (Triples p) s is = refl
  none_taken (action.Own q) (BitTriples p) s is = refl
  none_taken (action.Own q) (Pairs p) s is = refl
  none_taken (action.Input q) Inputs s is = absurd s
  none_taken (action.Input q) OwnWords s is = absurd s
  none_taken (action.Input q) (Triples p) s is = refl
  none_taken (action.Input q) (BitTriples p) s is = refl
  none_taken (action.Input q) (Pairs p) s is = refl
  none_taken (action.Triple p a b c) Inputs s is = absurd s
  none_taken (action.Triple p a b c) OwnWords s is = absurd s
  none_taken (action.Triple p a b c) (Triples q) s is = none_of_other q p s (peer_of p a b c is)
  none_taken (action.Triple p a b c) (BitTriples q) s is = refl
  none_taken (action.Triple p a b c) (Pairs q) s is = refl
  none_taken (action.Bits p a b c) Inputs s is = absurd s
  none_taken (action.Bits p a b c) OwnWords s is = absurd s
  none_taken (action.Bits p a b c) (Triples q) s is = refl
  none_taken (action.Bits p a b c) (BitTriples q) s is = none_of_other q p s (peer_of p a b c is)
  none_taken (action.Bits p a b c) (Pairs q) s is = refl
  none_taken (action.Pair p a b) Inputs s is = absurd s
  none_taken (action.Pair p a b) OwnWords s is = absurd s
  none_taken (action.Pair p a b) (Triples q) s is = refl
  none_taken (action.Pair p a b) (BitTriples q) s is = refl
  none_taken (action.Pair p a b) (Pairs q) s is = none_of_other q p s (and_parts (is_peer hosts me p) (is_register a && is_register b) is).0
  none_taken (action.Const q k) r s is = refl
  none_taken (action.Copy q x) r s is = refl
  none_taken (action.Apply o q x y) r s is = refl
  none_taken (action.Shl q x k) r s is = refl
  none_taken (action.Shr q x k) r s is = refl
  none_taken (action.Mux q g x y) r s is = refl
  none_taken (action.Print q) r s is = refl
  none_taken (action.Hash d n v) r s is = refl
  none_taken (action.Same x y) r s is = refl
  none_taken (action.Zero q count) r s is = refl
  none_taken (action.Get q x count i) r s is = refl
  none_taken (action.Put x count i q) r s is = refl

  abbrev Fits : Instr → Type 0
  Fits i = is_within hosts me i ≡ true

  -- ---- a whole code

  no_greater : (a b c : ℕ) → a ≡ 0 → b ≡ 0 → c ≡ 0 → greater a b + c ≡ 0
  no_greater a b c x y z = omega (arith, x, y, z)

  no_turns : (n a c : ℕ) → a ≡ 0 → c ≡ 0 → n * a + c ≡ 0
  no_turns n a c x z = ap (λ k. n * k + c) x ∙ nothing n c z
    where
      nothing : (n c : ℕ) → c ≡ 0 → n * 0 + c ≡ 0
      nothing n c z = omega (arith, z)

  none_in : (c : Code) (behind : List Instr) (r : Source) → IsStranger r → AllByRecursion Fits (text c behind) → (counts c r ≡ 0) × AllByRecursion Fits behind
  none_in Finished behind r s all = (refl, all)
  none_in (Then a c) behind r s all =
      let i = none_in c behind r s all.1 in
      let one = none_taken a r s all.0 in
      (sum_none (one_of (source_of a) r) (counts c r) one i.0, i.1)
    where
      sum_none : (a b : ℕ) → a ≡ 0 → b ≡ 0 → a + b ≡ 0
      sum_none a b x y = omega (arith, x, y)
  none_in (Send p rs c) behind r s all = none_in c behind r s all.1
  none_in (Recv p rs c) behind r s all = none_in c behind r s all.1
  none_in (Choose g first other c) behind r s all =
      let x = none_in first (instr.Else ∷ text other (instr.End ∷ text c behind)) r s all.1 in
      let y = none_in other (instr.End ∷ text c behind) r s x.1.1 in
      let z = none_in c behind r s y.1.1 in
      (no_greater (counts first r) (counts other r) (counts c r) x.0 y.0 z.0, z.1)
  none_in (Repeat q t n body c) behind r s all =
      let x = none_in body (instr.End ∷ text c behind) r s all.1 in
      let z = none_in c behind r s x.1.1 in
      (no_turns (n - t) (counts body r) (counts c r) x.0 z.0, z.1)

  -- ---- no instruction breaks a range

  fits_by : (before : ℕ) (i : Instr) → breaks hosts me before i ≡ false → Fits i
  fits_by before i e = not-false (is_within hosts me i) (or_parts (not (is_within hosts me i)) (opens i && nat_le most_open_blocks before) e).0

  fits_unless : (before : ℕ) (i : Instr) (b : Bool) → breaks hosts me before i ≡ b → (breaks hosts me before i ≡ true → ⊥) → Fits i
  fits_unless before i true e none = absurd (none e)
  fits_unless before i false e none = fits_by before i e

  all_fit : (code front is : List Instr) → IsWithinRanges hosts me code → code ≡ front ++ is → AllByRecursion Fits is
  all_fit code front [] within e = tt
  all_fit code front (i ∷ is) within e = (
    fits_unless (open_in 0 front) i (breaks hosts me (open_in 0 front) i) refl
        (λ b. within (0 + count_in front) (inl (record { front = front; instruction = i; rest = is; split = e; number_is = refl; breaks_there = b }))),
    all_fit code (front ++ i ∷ []) is within (e ∙ sym (append_assoc front (i ∷ []) is)),
  )

  -- so a code within the ranges takes nothing from there
  pub none_of_strangers : (c : Code) (r : Source) → IsWithinRanges hosts me (text c []) → IsStranger r → counts c r ≡ 0
  none_of_strangers c r within s = (none_in c [] r s (all_fit (text c []) [] (text c []) within refl)).0
