-- What is pending gets less, and exchanges leave its weight.
use Rattle.std.proofs.Common.{◌≡◌, ℕ, suc, ◌+◌, ◌-◌, ◌*◌, ◌<◌, ◌≤◌, List, refl, sym, ap, ◌∙◌, subst, arith}
use Rattle.vd_execution.specs.Code.{Code, weight}
use Rattle.vd_execution.specs.Step.{Ended, need, next, deed}
use Rattle.vd_execution.specs.World.{Local, moved_on}
use Rattle.vd_execution.proofs.Front.{done_state, weight_falls}
use Rattle.vd_reorder.specs.Hastening.{Piece, Acts, Sends, Awaits, before, Stretch, One, Branch, Loop, stretch_before, Place, Here, Behind, InFirst, InOther, InBody, BehindBranch, BehindLoop, with_code, IsExchanged}

pub moved_falls : (l : Local) (xs : List ℕ) → (need l.state ≡ Ended → ⊥) → weight (moved_on l xs).state.pending < weight l.state.pending
moved_falls l xs h =
    subst (λ m. weight m.pending < weight l.state.pending) (sym (done_state l (next l.state xs) (deed l.state))) (weight_falls l.state.registers l.state.pending h)

piece_weighs : (x : Piece) (c : Code) → weight (before x c) ≡ suc (weight c)
piece_weighs (Acts a) c = refl
piece_weighs (Sends p rs) c = refl
piece_weighs (Awaits p rs) c = refl

place_weighs : (p : Place) (c d : Code) → weight c ≡ weight d → weight (with_code p c) ≡ weight (with_code p d)
place_weighs Here c d e = e
place_weighs (Behind z p) c d e = piece_weighs z (with_code p c) ∙ ap suc (place_weighs p c d e) ∙ sym (piece_weighs z (with_code p d))
place_weighs (InFirst g p other rest) c d e = let i = place_weighs p c d e in omega arith
place_weighs (InOther g first p rest) c d e = let i = place_weighs p c d e in omega arith
place_weighs (InBody r t n p rest) c d e = ap (λ k. (n - t) * suc k + suc (weight rest)) (place_weighs p c d e)
place_weighs (BehindBranch g first other p) c d e = let i = place_weighs p c d e in omega arith
place_weighs (BehindLoop r t n body p) c d e = ap (λ k. (n - t) * suc (weight body) + suc k) (place_weighs p c d e)

more_behind : (x w : ℕ) → x + suc (suc w) ≡ suc (x + suc w)
more_behind x w = omega arith

stretch_weighs : (x : Stretch) (c d : Code) → weight d ≡ suc (weight c) → weight (stretch_before x d) ≡ suc (weight (stretch_before x c))
stretch_weighs (One x) c d e = piece_weighs x d ∙ ap suc e ∙ ap suc (sym (piece_weighs x c))
stretch_weighs (Branch g first other) c d e = omega (arith, e)
stretch_weighs (Loop r t n body) c d e = ap (λ k. (n - t) * suc (weight body) + suc k) e ∙ more_behind ((n - t) * suc (weight body)) (weight c)

pair_weighs : (x : Stretch) (y : Piece) (c : Code) → weight (stretch_before x (before y c)) ≡ weight (before y (stretch_before x c))
pair_weighs x y c = stretch_weighs x c (before y c) (piece_weighs y c) ∙ sym (piece_weighs y (stretch_before x c))

pub exchanged_weighs : (c d : Code) → IsExchanged c d → weight d ≡ weight c
exchanged_weighs c d x =
    ap weight x.new
    ∙ place_weighs x.place (before x.second (stretch_before x.first x.rest)) (stretch_before x.first (before x.second x.rest)) (sym (pair_weighs x.first x.second x.rest))
    ∙ ap weight (sym x.old)

stretch_weighs_some : (x : Stretch) (c : Code) → weight (stretch_before x c) ≤ 0 → ⊥
stretch_weighs_some (One x) c le = let e = piece_weighs x c in omega (arith, e, le)
stretch_weighs_some (Branch g first other) c le = omega (arith, le)
stretch_weighs_some (Loop r t n body) c le = omega (arith, le)

pub weighs : (p : Place) (x : Stretch) (c : Code) → weight (with_code p (stretch_before x c)) ≤ 0 → ⊥
weighs Here x c le = stretch_weighs_some x c le
weighs (Behind z p) x c le = let e = piece_weighs z (with_code p (stretch_before x c)) in omega (arith, e, le)
weighs (InFirst g p other rest) x c le = omega (arith, le)
weighs (InOther g first p rest) x c le = omega (arith, le)
weighs (InBody r t n p rest) x c le = omega (arith, le)
weighs (BehindBranch g first other p) x c le = omega (arith, le)
weighs (BehindLoop r t n body p) x c le = omega (arith, le)
