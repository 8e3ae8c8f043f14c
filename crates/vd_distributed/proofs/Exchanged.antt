-- Exchanges leave the numbers of a code.
use Rattle.std.proofs.Common.{◌≡◌, ℕ, zero, suc, ap, sym, subst}
use Rattle.vd_execution.specs.Code.{Code, Choose, Repeat}
use Rattle.vd_reorder.specs.Hastening.{Piece, Acts, Sends, Awaits, before, Stretch, One, Branch, Loop, stretch_before, Place, Here, Behind, InFirst, InOther, InBody, BehindBranch, BehindLoop, with_code, IsExchanged, Exchanges, IsHastened}
use Rattle.vd_distributed.specs.Linked.{NumberIsWord, NumbersAreWords}

abbrev PieceIsSmall : Piece → Type 0
PieceIsSmall (Acts a) = NumberIsWord a
PieceIsSmall (Sends p rs) = Unit {0}
PieceIsSmall (Awaits p rs) = Unit {0}

first_small : (x : Piece) (c : Code) → NumbersAreWords (before x c) → PieceIsSmall x
first_small (Acts a) c s = s.0
first_small (Sends p rs) c s = tt
first_small (Awaits p rs) c s = tt

rest_small : (x : Piece) (c : Code) → NumbersAreWords (before x c) → NumbersAreWords c
rest_small (Acts a) c s = s.1
rest_small (Sends p rs) c s = s
rest_small (Awaits p rs) c s = s

both_small : (x : Piece) (c : Code) → PieceIsSmall x → NumbersAreWords c → NumbersAreWords (before x c)
both_small (Acts a) c s r = (s, r)
both_small (Sends p rs) c s r = r
both_small (Awaits p rs) c s r = r

exchanged_small : (x : Stretch) (y : Piece) (c : Code) → NumbersAreWords (stretch_before x (before y c)) → NumbersAreWords (before y (stretch_before x c))
exchanged_small (One x) y c s =
    let rest = rest_small x (before y c) s in
    both_small y (before x c) (first_small y c rest) (both_small x c (first_small x (before y c) s) (rest_small y c rest))
exchanged_small (Branch g first other) y c s = both_small y (Choose g first other c) (first_small y c s.1.1) (s.0, (s.1.0, rest_small y c s.1.1))
exchanged_small (Loop r t n body) y c s = both_small y (Repeat r t n body c) (first_small y c s.1.1) (s.0, (s.1.0, rest_small y c s.1.1))

-- at any place
placed_small : (p : Place) (c d : Code) → (NumbersAreWords c → NumbersAreWords d) → NumbersAreWords (with_code p c) → NumbersAreWords (with_code p d)
placed_small Here c d f s = f s
placed_small (Behind x p) c d f s = both_small x (with_code p d) (first_small x (with_code p c) s) (placed_small p c d f (rest_small x (with_code p c) s))
placed_small (InFirst g p other rest) c d f s = (placed_small p c d f s.0, s.1)
placed_small (InOther g first p rest) c d f s = (s.0, (placed_small p c d f s.1.0, s.1.1))
placed_small (InBody r t n p rest) c d f s = (s.0, (placed_small p c d f s.1.0, s.1.1))
placed_small (BehindBranch g first other p) c d f s = (s.0, (s.1.0, placed_small p c d f s.1.1))
placed_small (BehindLoop r t n body p) c d f s = (s.0, (s.1.0, placed_small p c d f s.1.1))

one_small : (c d : Code) → IsExchanged c d → NumbersAreWords c → NumbersAreWords d
one_small c d x s =
    subst NumbersAreWords (sym x.new)
    (placed_small x.place (stretch_before x.first (before x.second x.rest)) (before x.second (stretch_before x.first x.rest)) (exchanged_small x.first x.second x.rest) (subst NumbersAreWords x.old s))

all_small : (n : ℕ) (c d : Code) → Exchanges n c d → NumbersAreWords c → NumbersAreWords d
all_small zero c d e s = subst NumbersAreWords e s
all_small (suc n) c d e s = all_small n e.0 d e.2 (one_small c e.0 e.1 s)

pub hastened_small : (c d : Code) → IsHastened c d → NumbersAreWords c → NumbersAreWords d
hastened_small c d h s = all_small h.0 c d h.1 s
