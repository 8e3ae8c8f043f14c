-- Pieces that go before a whole block, and what was brought forward in it.
use Rattle.std.proofs.Common.{◌≡◌, ℕ, suc, ◌+◌, ◌≤◌, List, [], ◌∷◌, ◌++◌, refl, sym, ap, ◌∙◌, subst, arith}
use Rattle.vd_execution.specs.Code.{Code, Finished, Then, Choose, Repeat, followed_by}
use Rattle.vd_reorder.specs.Hastening.{Piece, Acts, Sends, Awaits, before, Stretch, One, Branch, Loop, stretch_before, MayPassAll, MayPassStretch}
use Rattle.vd_reorder.proofs.Exchanged.{followed_stretch}
use Rattle.vd_reorder.proofs.Passed.{ahead, packet, sends, AllPass, packets_of, Sunk, Passed, Nowhere, Behind, InBranch, InLoop, followed_before, followed_ahead}
use Rattle.vd_reorder.proofs.Early.{ahead_append, sends_append}

-- each of them may go before all of this code
abbrev pub AllPassAll : List Piece → Code → Type 0
AllPassAll [] c = Unit {0}
AllPassAll (y ∷ ys) c = MayPassAll y c × AllPassAll ys c

-- of pieces and what stands behind them
behind_pieces : (y : Piece) (ps : List Piece) (c : Code) → MayPassAll y (ahead ps c) → MayPassAll y c
behind_pieces y [] c m = m
behind_pieces y (Acts a ∷ ps) c m = behind_pieces y ps c m.1
behind_pieces y (Sends p rs ∷ ps) c m = absurd m
behind_pieces y (Awaits p rs ∷ ps) c m = absurd m

other_behind : (y : Piece) (ps : List Piece) (c d : Code) → MayPassAll y (ahead ps c) → MayPassAll y d → MayPassAll y (ahead ps d)
other_behind y [] c d m n = n
other_behind y (Acts a ∷ ps) c d m n = (m.0, other_behind y ps c d m.1 n)
other_behind y (Sends p rs ∷ ps) c d m n = absurd m
other_behind y (Awaits p rs ∷ ps) c d m n = absurd m

none_sent : (y : Piece) (ps : List Piece) (c : Code) → MayPassAll y (ahead ps c) → sends ps ≡ 0
none_sent y [] c m = refl
none_sent y (Acts a ∷ ps) c m = let ih = none_sent y ps c m.1 in omega (arith, ih)
none_sent y (Sends p rs ∷ ps) c m = absurd m
none_sent y (Awaits p rs ∷ ps) c m = absurd m

-- of a stretch and what stands behind it
before_stretch : (y : Piece) (x : Stretch) (c : Code) → MayPassAll y (stretch_before x c) → MayPassStretch x y
before_stretch y (One (Acts a)) c m = m.0
before_stretch y (One (Sends p rs)) c m = absurd m
before_stretch y (One (Awaits p rs)) c m = absurd m
before_stretch y (Branch g first other) c m = m.0
before_stretch y (Loop r t n body) c m = m.0

behind_stretch : (y : Piece) (x : Stretch) (c : Code) → MayPassAll y (stretch_before x c) → MayPassAll y c
behind_stretch y (One (Acts a)) c m = m.1
behind_stretch y (One (Sends p rs)) c m = absurd m
behind_stretch y (One (Awaits p rs)) c m = absurd m
behind_stretch y (Branch g first other) c m = m.1
behind_stretch y (Loop r t n body) c m = m.1

stretch_sends_none : (y : Piece) (x : Stretch) (c : Code) → MayPassAll y (stretch_before x c) → packets_of x ≡ 0
stretch_sends_none y (One (Acts a)) c m = refl
stretch_sends_none y (One (Sends p rs)) c m = absurd m
stretch_sends_none y (One (Awaits p rs)) c m = absurd m
stretch_sends_none y (Branch g first other) c m = refl
stretch_sends_none y (Loop r t n body) c m = refl

-- all of them
all_before_stretch : (ys : List Piece) (x : Stretch) (ps : List Piece) (c : Code) → AllPassAll ys (ahead ps (stretch_before x c)) → AllPass x ys
all_before_stretch [] x ps c m = tt
all_before_stretch (y ∷ ys) x ps c m = (before_stretch y x c (behind_pieces y ps (stretch_before x c) m.0), all_before_stretch ys x ps c m.1)

all_behind_stretch : (ys : List Piece) (x : Stretch) (ps : List Piece) (c : Code) → AllPassAll ys (ahead ps (stretch_before x c)) → AllPassAll ys (ahead ps c)
all_behind_stretch [] x ps c m = tt
all_behind_stretch (y ∷ ys) x ps c m =
    let d : Code = stretch_before x c in
    (other_behind y ps d c m.0 (behind_stretch y x c (behind_pieces y ps d m.0)), all_behind_stretch ys x ps c m.1)

both_pass : (x : Stretch) (ys ps : List Piece) → AllPass x ys → AllPass x ps → AllPass x (ys ++ ps)
both_pass x [] ps a b = b
both_pass x (y ∷ ys) ps a b = (a.0, both_pass x ys ps a.1 b)

few_together : (n : ℕ) (ys : List Piece) (x : Stretch) (ps : List Piece) (c : Code) → AllPassAll ys (ahead ps (stretch_before x c)) → sends ys ≤ n → packets_of x + sends ps ≤ n
    → packets_of x + sends (ys ++ ps) ≤ n
few_together n [] x ps c m few le = le
few_together n (y ∷ ys) x ps c m few le =
    let d : Code = stretch_before x c in
    let all = sends_append (y ∷ ys) ps in
    let none = none_sent y ps d m.0 in
    let one = stretch_sends_none y x c (behind_pieces y ps d m.0) in
    omega (arith, all, none, one, few)

module _ (n : ℕ) (ys : List Piece) (few : sends ys ≤ n) (last : Code) where
  sunk_beside : (x : Stretch) (d e : Code) (s : Sunk n x d e) → AllPassAll ys e → Sunk n x (ahead ys (followed_by d last)) (ahead ys (followed_by e last))
  sunk_beside x d e s m =
      let ps : List Piece = s.pieces in
      let q : Code = s.rest in
      let all : AllPassAll ys (ahead ps (stretch_before x q)) = subst (AllPassAll ys) s.new m in
      record {
        pieces = ys ++ ps;
        rest = followed_by q last;
        old = ap (ahead ys) (ap (λ k. followed_by k last) s.old ∙ followed_ahead ps q last) ∙ sym (ahead_append ys ps (followed_by q last));
        new = ap (ahead ys) (ap (λ k. followed_by k last) s.new ∙ followed_ahead ps (stretch_before x q) last ∙ ap (ahead ps) (followed_stretch x q last))
            ∙ sym (ahead_append ys ps (stretch_before x (followed_by q last)));
        may = both_pass x ys ps (all_before_stretch ys x ps q all) s.may;
        few = few_together n ys x ps q all few s.few;
      }

  passed_rest : (x : Stretch) (d e : Code) (s : Sunk n x d e) → AllPassAll ys e → AllPassAll ys d
  passed_rest x d e s m = subst (AllPassAll ys) (sym s.old) (all_behind_stretch ys x s.pieces s.rest (subst (AllPassAll ys) s.new m))

  -- A code was passed by some of its own pieces, and by others that stood behind it.
  pub beside : {c d : Code} → Passed n c d → (rest : Code) → AllPassAll ys d → Passed n rest (ahead ys last) → Passed n (followed_by c rest) (ahead ys (followed_by d last))
  beside Nowhere rest m r = r
  beside (Behind x c d e passed s) rest m r =
      subst (λ z. Passed n z (ahead ys (followed_by e last))) (sym (followed_before x c rest))
      (Behind x (followed_by c rest) (ahead ys (followed_by d last)) (ahead ys (followed_by e last)) (beside passed rest (passed_rest (One x) d e s m) r) (sunk_beside (One x) d e s m))
  beside (InBranch g first other c one two d e p q o s) rest m r =
      InBranch g first other (followed_by c rest) one two (ahead ys (followed_by d last)) (ahead ys (followed_by e last)) p q
      (beside o rest (passed_rest (Branch g one two) d e s m) r) (sunk_beside (Branch g one two) d e s m)
  beside (InLoop i t k body c one d e p o s) rest m r =
      InLoop i t k body (followed_by c rest) one (ahead ys (followed_by d last)) (ahead ys (followed_by e last)) p
      (beside o rest (passed_rest (Loop i t k one) d e s m) r) (sunk_beside (Loop i t k one) d e s m)
