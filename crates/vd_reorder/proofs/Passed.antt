-- Codes in which each instruction went behind some others, of which few are packets.
use Rattle.std.proofs.Common.{◌≡◌, ℕ, zero, suc, ◌+◌, ◌≤◌, Bool, true, false, if◌then◌else◌, List, [], ◌∷◌, refl, sym, ap, ◌∙◌, subst, arith}
use Rattle.vd_execution.specs.Code.{Code, Finished, Then, Send, Recv, Choose, Repeat, followed_by}
use Rattle.vd_reorder.specs.Hastening.{Piece, Acts, Sends, Awaits, before, Stretch, One, Branch, Loop, stretch_before, MayPassStretch}
use Rattle.vd_reorder.specs.ReorderLawsPassing.{IsSoundTest, passes_stretch, sunk, hastened}
use Rattle.vd_reorder.proofs.Exchanged.{followed_stretch}
use Rattle.vd_reorder.proofs.ReorderLawsPassing.{stretch_sound}

-- some pieces before a code
abbrev pub ahead : List Piece → Code → Code
ahead [] c = c
ahead (y ∷ ys) c = before y (ahead ys c)

-- how many of them are packets
abbrev pub packet : Piece → ℕ
packet (Acts a) = 0
packet (Sends p rs) = 1
packet (Awaits p rs) = 0

abbrev pub sends : List Piece → ℕ
sends [] = 0
sends (y ∷ ys) = packet y + sends ys

-- each of them may stand before this stretch
abbrev pub AllPass : Stretch → List Piece → Type 0
AllPass x [] = Unit {0}
AllPass x (y ∷ ys) = MayPassStretch x y × AllPass x ys

abbrev pub packets_of : Stretch → ℕ
packets_of (One x) = packet x
packets_of (Branch g first other) = 0
packets_of (Loop r t k body) = 0

-- a stretch went into a code behind pieces, and at most n packets are among them and itself
pub record Sunk (n : ℕ) (x : Stretch) (c d : Code) : Type 0 where
  pub pieces : List Piece
  pub rest : Code
  pub old : c ≡ ahead pieces rest
  pub new : d ≡ ahead pieces (stretch_before x rest)
  pub may : AllPass x pieces
  pub few : packets_of x + sends pieces ≤ n

-- each piece and each block of a code went behind pieces, within the block around it
pub data Passed (n : ℕ) : Code → Code → Type 0 where
  Nowhere : Passed n Finished Finished
  Behind : (x : Piece) (c d e : Code) (passed : Passed n c d) (sunk : Sunk n (One x) d e) → Passed n (before x c) e
  InBranch : (g : ℕ) (first other rest one two last e : Code) (in_first : Passed n first one) (in_other : Passed n other two) (in_rest : Passed n rest last)
      (sunk : Sunk n (Branch g one two) last e) → Passed n (Choose g first other rest) e
  InLoop : (r t k : ℕ) (body rest one last e : Code) (in_body : Passed n body one) (in_rest : Passed n rest last) (sunk : Sunk n (Loop r t k one) last e)
      → Passed n (Repeat r t k body rest) e

-- ---- the pass

none_passed : (n : ℕ) (x : Stretch) (c : Code) → packets_of x ≤ n → Sunk n x c (stretch_before x c)
none_passed n x c le = record { pieces = []; rest = c; old = refl; new = refl; may = tt; few = omega (arith, le) }

one_act : (n : ℕ) (x : Stretch) (y : Piece) (c d : Code) → MayPassStretch x y → packet y ≡ 0 → Sunk n x c d → Sunk n x (before y c) (before y d)
one_act n x y c d may none s =
    let few = s.few in
    record { pieces = y ∷ s.pieces; rest = s.rest; old = ap (before y) s.old; new = ap (before y) s.new; may = (may, s.may); few = omega (arith, few, none) }

one_packet : (n m : ℕ) (x : Stretch) (y : Piece) (c d : Code) → MayPassStretch x y → packet y ≡ 1 → suc m ≤ n → Sunk m x c d → Sunk n x (before y c) (before y d)
one_packet n m x y c d may one le s =
    let few = s.few in
    record { pieces = y ∷ s.pieces; rest = s.rest; old = ap (before y) s.old; new = ap (before y) s.new; may = (may, s.may); few = omega (arith, few, le, one) }

module _ (test : Piece → Piece → Bool) (sound : IsSoundTest test) where
  past_act : (n : ℕ) (x : Stretch) (y : Piece) (c d : Code) → packets_of x ≡ 0 → packet y ≡ 0 → Sunk n x c d → (b : Bool) → passes_stretch test x y ≡ b
      → Sunk n x (before y c) (if b then before y d else stretch_before x (before y c))
  past_act n x y c d plain none s true e = one_act n x y c d (stretch_sound test sound x y e) none s
  past_act n x y c d plain none s false e = none_passed n x (before y c) (omega (arith, plain))

  past_packet : (n m : ℕ) (x : Stretch) (y : Piece) (c d : Code) → packets_of x ≡ 0 → packet y ≡ 1 → suc m ≤ n → Sunk m x c d → (b : Bool) → passes_stretch test x y ≡ b
      → Sunk n x (before y c) (if b then before y d else stretch_before x (before y c))
  past_packet n m x y c d plain one le s true e = one_packet n m x y c d (stretch_sound test sound x y e) one le s
  past_packet n m x y c d plain one le s false e = none_passed n x (before y c) (omega (arith, plain))

  sunk_is : (n k : ℕ) (x : Stretch) (c : Code) → packets_of x ≡ 0 → k ≤ n → Sunk n x c (sunk test k x c)
  sunk_is n k x Finished plain le = none_passed n x Finished (omega (arith, plain))
  sunk_is n k x (Then a c) plain le = past_act n x (Acts a) c (sunk test k x c) plain refl (sunk_is n k x c plain le) (passes_stretch test x (Acts a)) refl
  sunk_is n zero x (Send p rs c) plain le = none_passed n x (Send p rs c) (omega (arith, plain))
  sunk_is n (suc k) x (Send p rs c) plain le =
      past_packet n k x (Sends p rs) c (sunk test k x c) plain refl le (sunk_is k k x c plain (omega arith)) (passes_stretch test x (Sends p rs)) refl
  sunk_is n k x (Recv p rs c) plain le = none_passed n x (Recv p rs c) (omega (arith, plain))
  sunk_is n k x (Choose g first other c) plain le = none_passed n x (Choose g first other c) (omega (arith, plain))
  sunk_is n k x (Repeat r t m body c) plain le = none_passed n x (Repeat r t m body c) (omega (arith, plain))

  pub hastened_passed : (n k : ℕ) (c : Code) → 1 ≤ n → k ≤ n → Passed n c (hastened test k c)
  hastened_passed n k Finished some le = Nowhere
  hastened_passed n k (Then a c) some le =
      Behind (Acts a) c (hastened test k c) (sunk test k (One (Acts a)) (hastened test k c)) (hastened_passed n k c some le) (sunk_is n k (One (Acts a)) (hastened test k c) refl le)
  hastened_passed n k (Send p rs c) some le =
      Behind (Sends p rs) c (hastened test k c) (Send p rs (hastened test k c)) (hastened_passed n k c some le) (none_passed n (One (Sends p rs)) (hastened test k c) some)
  hastened_passed n k (Recv p rs c) some le =
      Behind (Awaits p rs) c (hastened test k c) (sunk test k (One (Awaits p rs)) (hastened test k c)) (hastened_passed n k c some le)
      (sunk_is n k (One (Awaits p rs)) (hastened test k c) refl le)
  hastened_passed n k (Choose g first other c) some le =
      let f : Code = hastened test k first in
      let o : Code = hastened test k other in
      InBranch g first other c f o (hastened test k c) (sunk test k (Branch g f o) (hastened test k c)) (hastened_passed n k first some le) (hastened_passed n k other some le)
      (hastened_passed n k c some le) (sunk_is n k (Branch g f o) (hastened test k c) refl le)
  hastened_passed n k (Repeat r t m body c) some le =
      let b : Code = hastened test k body in
      InLoop r t m body c b (hastened test k c) (sunk test k (Loop r t m b) (hastened test k c)) (hastened_passed n k body some le) (hastened_passed n k c some le)
      (sunk_is n k (Loop r t m b) (hastened test k c) refl le)

-- ---- more code behind

pub followed_before : (x : Piece) (c d : Code) → followed_by (before x c) d ≡ before x (followed_by c d)
followed_before (Acts a) c d = refl
followed_before (Sends q rs) c d = refl
followed_before (Awaits q rs) c d = refl

pub followed_ahead : (ys : List Piece) (c d : Code) → followed_by (ahead ys c) d ≡ ahead ys (followed_by c d)
followed_ahead [] c d = refl
followed_ahead (y ∷ ys) c d = followed_before y (ahead ys c) d ∙ ap (before y) (followed_ahead ys c d)

-- ---- what stands first

pub first_same : (x y : Piece) (c d : Code) → before x c ≡ before y d → (x ≡ y) × (c ≡ d)
first_same (Acts a) (Acts b) c d e = (cc, cc)
first_same (Acts a) (Sends q qs) c d e = absurd cc
first_same (Acts a) (Awaits q qs) c d e = absurd cc
first_same (Sends p rs) (Acts b) c d e = absurd cc
first_same (Sends p rs) (Sends q qs) c d e = (cc, cc)
first_same (Sends p rs) (Awaits q qs) c d e = absurd cc
first_same (Awaits p rs) (Acts b) c d e = absurd cc
first_same (Awaits p rs) (Sends q qs) c d e = absurd cc
first_same (Awaits p rs) (Awaits q qs) c d e = (cc, cc)

-- no piece stands before the end or before a block
pub no_end : (y : Piece) (c : Code) → before y c ≡ Finished → ⊥
no_end (Acts a) c e = absurd cc
no_end (Sends p rs) c e = absurd cc
no_end (Awaits p rs) c e = absurd cc

pub no_branch : (y : Piece) (c : Code) (g : ℕ) (first other rest : Code) → before y c ≡ Choose g first other rest → ⊥
no_branch (Acts a) c g first other rest e = absurd cc
no_branch (Sends p rs) c g first other rest e = absurd cc
no_branch (Awaits p rs) c g first other rest e = absurd cc

pub no_loop : (y : Piece) (c : Code) (r t k : ℕ) (body rest : Code) → before y c ≡ Repeat r t k body rest → ⊥
no_loop (Acts a) c r t k body rest e = absurd cc
no_loop (Sends p rs) c r t k body rest e = absurd cc
no_loop (Awaits p rs) c r t k body rest e = absurd cc

pub end_is_end : (n : ℕ) {c d : Code} → Passed n c d → c ≡ Finished → d ≡ Finished
end_is_end n Nowhere e = refl
end_is_end n (Behind x c d f passed s) e = absurd (no_end x c e)
end_is_end n (InBranch g first other rest one two last f a b r s) e = absurd cc
end_is_end n (InLoop r t i body rest one last f a b s) e = absurd cc
