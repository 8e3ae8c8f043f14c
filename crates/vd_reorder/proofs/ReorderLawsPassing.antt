-- The pass is exchanges.
use Rattle.std.proofs.Common.{◌≡◌, inl, inr, ℕ, zero, suc, ◌≤◌, Bool, true, false, ◌&&◌, if◌then◌else◌, refl, sym, ap, ◌∙◌, subst, arith}
use Rattle.std.proofs.lemmas.Bool.Decides.{eqb_tells}
use Rattle.vd_execution.specs.declared.instructions.Action.TheVariants as action
use Rattle.vd_execution.specs.Text.{register}
use Rattle.vd_execution.specs.Code.{Code, Finished, Then, Send, Recv, Choose, Repeat}
use Rattle.vd_reorder.specs.Hastening.{Piece, Acts, Sends, Awaits, before, MayPass, Stretch, One, Branch, Loop, stretch_before, MayPassAll, MayPassStretch, Place, Here, Behind, InFirst, InOther, InBody, BehindBranch, BehindLoop, with_code, IsExchanged, Exchanges, IsHastened}
use Rattle.vd_reorder.specs.ReorderLawsPassing.{IsSoundTest, passes_turns, passes_all, passes_stretch, sunk, hastened}

chain : (n m : ℕ) (c d e : Code) → Exchanges n c d → Exchanges m d e → IsHastened c e
chain zero m c d e x y = (m, subst (λ k. Exchanges m k e) (sym x) y)
chain (suc n) m c d e x y = let r = chain n m x.0 d e x.2 y in (suc r.0, (x.0, x.1, r.1))

pub on : (c d e : Code) → IsHastened c d → IsHastened d e → IsHastened c e
on c d e x y = chain x.0 y.0 c d e x.1 y.1

-- a code inside of another one
pub record Around (wrap : Code → Code) : Type 0 where
  pub place : Place → Place
  pub stands : (p : Place) (c : Code) → wrap (with_code p c) ≡ with_code (place p) c

lift_one : (wrap : Code → Code) → Around wrap → (c d : Code) → IsExchanged c d → IsExchanged (wrap c) (wrap d)
lift_one wrap a c d x = record {
  place = a.place x.place;
  first = x.first;
  second = x.second;
  rest = x.rest;
  may = x.may;
  old = ap wrap x.old ∙ a.stands x.place (stretch_before x.first (before x.second x.rest));
  new = ap wrap x.new ∙ a.stands x.place (before x.second (stretch_before x.first x.rest));
}

lift_all : (wrap : Code → Code) → Around wrap → (n : ℕ) (c d : Code) → Exchanges n c d → Exchanges n (wrap c) (wrap d)
lift_all wrap a zero c d x = ap wrap x
lift_all wrap a (suc n) c d x = (wrap x.0, lift_one wrap a c x.0 x.1, lift_all wrap a n x.0 d x.2)

pub lifted : (wrap : Code → Code) → Around wrap → (c d : Code) → IsHastened c d → IsHastened (wrap c) (wrap d)
lifted wrap a c d x = (x.0, lift_all wrap a x.0 c d x.1)

pub piece_first : (x : Piece) → Around (before x)
piece_first x = record { place = λ p. Behind x p; stands = λ p c. refl }

pub none : (c : Code) → IsHastened c c
none c = (0, refl)

pub exchange_stretch : (x : Stretch) (y : Piece) (c : Code) → MayPassStretch x y → IsHastened (stretch_before x (before y c)) (before y (stretch_before x c))
exchange_stretch x y c may = (1, (before y (stretch_before x c), record { place = Here; first = x; second = y; rest = c; may = may; old = refl; new = refl }, refl))

-- ---- what the tests tell

both : (a b : Bool) → (a && b) ≡ true → (a ≡ true) × (b ≡ true)
both true b e = (refl, e)
both false b e = absurd cc

module _ (test : Piece → Piece → Bool) (sound : IsSoundTest test) where
  turns_sound : (y : Piece) (r n : ℕ) → passes_turns test y r n ≡ true → (k : ℕ) → k ≤ n → MayPass (Acts (action.Const (register r) k)) y
  turns_sound y r zero e k le =
      let first : k ≡ zero = omega (arith, le) in
      subst (λ i. MayPass (Acts (action.Const (register r) i)) y) (sym first) (sound (Acts (action.Const (register r) zero)) y e)
  turns_sound y r (suc n) e k le =
      let s = both (test (Acts (action.Const (register r) (suc n))) y) (passes_turns test y r n) e in
      elim (eqb_tells k (suc n)) [
        | inl same ↦ subst (λ i. MayPass (Acts (action.Const (register r) i)) y) (sym same.1) (sound (Acts (action.Const (register r) (suc n))) y s.0)
        | inr other ↦ let ne = other.1 in turns_sound y r n s.1 k (omega (arith, le, ne))
      ]

  all_sound : (y : Piece) (c : Code) → passes_all test y c ≡ true → MayPassAll y c
  all_sound y Finished e = tt
  all_sound y (Then a c) e = let s = both (test (Acts a) y) (passes_all test y c) e in (sound (Acts a) y s.0, all_sound y c s.1)
  all_sound y (Send p rs c) e = absurd cc
  all_sound y (Recv p rs c) e = absurd cc
  all_sound y (Choose g first other c) e =
      let p : Bool = test (Acts (action.Print (register g))) y in
      let s = both (p && (passes_all test y first && passes_all test y other)) (passes_all test y c) e in
      let b = both p (passes_all test y first && passes_all test y other) s.0 in
      let w = both (passes_all test y first) (passes_all test y other) b.1 in
      ((sound (Acts (action.Print (register g))) y b.0, (all_sound y first w.0, all_sound y other w.1)), all_sound y c s.1)
  all_sound y (Repeat r t n body c) e =
      let s = both (passes_turns test y r n && passes_all test y body) (passes_all test y c) e in
      let b = both (passes_turns test y r n) (passes_all test y body) s.0 in
      ((turns_sound y r n b.0, all_sound y body b.1), all_sound y c s.1)

  pub stretch_sound : (x : Stretch) (y : Piece) → passes_stretch test x y ≡ true → MayPassStretch x y
  stretch_sound (One x) y e = sound x y e
  stretch_sound (Branch g first other) y e =
      let b = both (test (Acts (action.Print (register g))) y) (passes_all test y first && passes_all test y other) e in
      let w = both (passes_all test y first) (passes_all test y other) b.1 in
      (sound (Acts (action.Print (register g))) y b.0, (all_sound y first w.0, all_sound y other w.1))
  stretch_sound (Loop r t n body) y e =
      let b = both (passes_turns test y r n) (passes_all test y body) e in
      (turns_sound y r n b.0, all_sound y body b.1)

  -- ---- the pass

  sunk_at : (x : Stretch) (y : Piece) (c d : Code) → IsHastened (stretch_before x c) d → (b : Bool) → passes_stretch test x y ≡ b
      → IsHastened (stretch_before x (before y c)) (if b then before y d else stretch_before x (before y c))
  sunk_at x y c d ih true e =
      on _ (before y (stretch_before x c)) _ (exchange_stretch x y c (stretch_sound x y e)) (lifted (before y) (piece_first y) (stretch_before x c) d ih)
  sunk_at x y c d ih false e = none _

  sunk_leads : (n : ℕ) (x : Stretch) (c : Code) → IsHastened (stretch_before x c) (sunk test n x c)
  sunk_leads n x Finished = none _
  sunk_leads n x (Then a c) = sunk_at x (Acts a) c (sunk test n x c) (sunk_leads n x c) (passes_stretch test x (Acts a)) refl
  sunk_leads zero x (Send p rs c) = none _
  sunk_leads (suc n) x (Send p rs c) = sunk_at x (Sends p rs) c (sunk test n x c) (sunk_leads n x c) (passes_stretch test x (Sends p rs)) refl
  sunk_leads n x (Recv p rs c) = none _
  sunk_leads n x (Choose g first other c) = none _
  sunk_leads n x (Repeat r t k body c) = none _

  all_exchanges : (n : ℕ) (c : Code) → IsHastened c (hastened test n c)
  all_exchanges n Finished = none _
  all_exchanges n (Then a c) =
      let d : Code = hastened test n c in
      on _ (before (Acts a) d) _ (lifted (before (Acts a)) (piece_first (Acts a)) c d (all_exchanges n c)) (sunk_leads n (One (Acts a)) d)
  all_exchanges n (Send p rs c) = lifted (before (Sends p rs)) (piece_first (Sends p rs)) c (hastened test n c) (all_exchanges n c)
  all_exchanges n (Recv p rs c) =
      let d : Code = hastened test n c in
      on _ (before (Awaits p rs) d) _ (lifted (before (Awaits p rs)) (piece_first (Awaits p rs)) c d (all_exchanges n c)) (sunk_leads n (One (Awaits p rs)) d)
  all_exchanges n (Choose g first other c) =
      let f : Code = hastened test n first in
      let o : Code = hastened test n other in
      let d : Code = hastened test n c in
      on _ (Choose g f other c) _ (lifted (λ d. Choose g d other c) (record { place = λ p. InFirst g p other c; stands = λ p d. refl }) first f (all_exchanges n first))
      (on _ (Choose g f o c) _ (lifted (λ d. Choose g f d c) (record { place = λ p. InOther g f p c; stands = λ p d. refl }) other o (all_exchanges n other))
      (on _ (Choose g f o d) _ (lifted (λ d. Choose g f o d) (record { place = λ p. BehindBranch g f o p; stands = λ p d. refl }) c d (all_exchanges n c))
      (sunk_leads n (Branch g f o) d)))
  all_exchanges n (Repeat r t k body c) =
      let b : Code = hastened test n body in
      let d : Code = hastened test n c in
      on _ (Repeat r t k b c) _ (lifted (λ d. Repeat r t k d c) (record { place = λ p. InBody r t k p c; stands = λ p d. refl }) body b (all_exchanges n body))
      (on _ (Repeat r t k b d) _ (lifted (λ d. Repeat r t k b d) (record { place = λ p. BehindLoop r t k b p; stands = λ p d. refl }) c d (all_exchanges n c))
      (sunk_leads n (Loop r t k b) d))

pub pass_exchanges : (test : Piece → Piece → Bool) (n : ℕ) (c : Code) → IsSoundTest test → IsHastened c (hastened test n c)
pass_exchanges test n c sound = all_exchanges test sound n c
