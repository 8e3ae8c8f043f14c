-- Where exchanged codes go on.
use Rattle.std.proofs.Common.{◌≡◌, ℕ, suc, List, Bool, true, false, nat_eq, nat_lt, if◌then◌else◌, refl, sym, ap, ◌∙◌, subst}
use Rattle.vd_execution.specs.Code.{Code, Finished, Then, Send, Recv, Choose, Repeat, followed_by}
use Rattle.vd_execution.specs.Step.{need}
use Rattle.vd_execution.specs.World.{Local, moved_on}
use Rattle.vd_reorder.specs.Hastening.{Piece, Acts, Sends, Awaits, before, at, Stretch, One, Branch, Loop, stretch_before, MayPassStretch, Place, Here, Behind, InFirst, InOther, InBody, BehindBranch, BehindLoop, with_code, IsExchanged, Exchanges}
use Rattle.vd_reorder.proofs.Turned.{piece_needs, piece_moves, piece_leaves}

-- a code that begins with a piece, or with a stretch, has not ended
pub piece_not_finished : (x : Piece) (c : Code) → before x c ≡ Finished → ⊥
piece_not_finished (Acts a) c e = absurd cc
piece_not_finished (Sends q rs) c e = absurd cc
piece_not_finished (Awaits q rs) c e = absurd cc

stretch_not_finished : (x : Stretch) (c : Code) → stretch_before x c ≡ Finished → ⊥
stretch_not_finished (One x) c e = piece_not_finished x c e
stretch_not_finished (Branch g first other) c e = absurd cc
stretch_not_finished (Loop r t n body) c e = absurd cc

pub not_finished : (p : Place) (x : Stretch) (c : Code) → with_code p (stretch_before x c) ≡ Finished → ⊥
not_finished Here x c e = stretch_not_finished x c e
not_finished (Behind z p) x c e = piece_not_finished z (with_code p (stretch_before x c)) e
not_finished (InFirst g p other rest) x c e = absurd cc
not_finished (InOther g first p rest) x c e = absurd cc
not_finished (InBody r t n p rest) x c e = absurd cc
not_finished (BehindBranch g first other p) x c e = absurd cc
not_finished (BehindLoop r t n body p) x c e = absurd cc

-- the place that is behind a code
abbrev behind : Code → Place → Place
behind Finished p = p
behind (Then a c) p = Behind (Acts a) (behind c p)
behind (Send q rs c) p = Behind (Sends q rs) (behind c p)
behind (Recv q rs c) p = Behind (Awaits q rs) (behind c p)
behind (Choose g first other c) p = BehindBranch g first other (behind c p)
behind (Repeat r t n body c) p = BehindLoop r t n body (behind c p)

stands_behind : (b : Code) (p : Place) (c : Code) → followed_by b (with_code p c) ≡ with_code (behind b p) c
stands_behind Finished p c = refl
stands_behind (Then a b) p c = ap (λ d. Then a d) (stands_behind b p c)
stands_behind (Send q rs b) p c = ap (λ d. Send q rs d) (stands_behind b p c)
stands_behind (Recv q rs b) p c = ap (λ d. Recv q rs d) (stands_behind b p c)
stands_behind (Choose g first other b) p c = ap (λ d. Choose g first other d) (stands_behind b p c)
stands_behind (Repeat r t n body b) p c = ap (λ d. Repeat r t n body d) (stands_behind b p c)

-- two neighbours that may be exchanged
pub record Pair : Type 0 where
  pub first : Stretch
  pub second : Piece
  pub rest : Code
  pub may : MayPassStretch first second

abbrev pub old_of : Pair → Code
old_of q = stretch_before q.first (before q.second q.rest)

abbrev pub new_of : Pair → Code
new_of q = before q.second (stretch_before q.first q.rest)

exchanged_at : (p : Place) (q : Pair) → IsExchanged (with_code p (old_of q)) (with_code p (new_of q))
exchanged_at p q = record { place = p; first = q.first; second = q.second; rest = q.rest; may = q.may; old = refl; new = refl }

pub exchanged_behind : (b : Code) (p : Place) (q : Pair) → IsExchanged (followed_by b (with_code p (old_of q))) (followed_by b (with_code p (new_of q)))
exchanged_behind b p q = record {
  place = behind b p;
  first = q.first;
  second = q.second;
  rest = q.rest;
  may = q.may;
  old = stands_behind b p (old_of q);
  new = stands_behind b p (new_of q);
}

followed_before : (x : Piece) (c d : Code) → followed_by (before x c) d ≡ before x (followed_by c d)
followed_before (Acts a) c d = refl
followed_before (Sends q rs) c d = refl
followed_before (Awaits q rs) c d = refl

pub followed_stretch : (x : Stretch) (c d : Code) → followed_by (stretch_before x c) d ≡ stretch_before x (followed_by c d)
followed_stretch (One x) c d = followed_before x c d
followed_stretch (Branch g first other) c d = refl
followed_stretch (Loop r t n body) c d = refl

-- more code behind both
exchanged_before : (p : Place) (q : Pair) (r : Code) → IsExchanged (followed_by (with_code p (old_of q)) r) (followed_by (with_code p (new_of q)) r)
exchanged_before Here q r = record {
  place = Here;
  first = q.first;
  second = q.second;
  rest = followed_by q.rest r;
  may = q.may;
  old = followed_stretch q.first (before q.second q.rest) r ∙ ap (stretch_before q.first) (followed_before q.second q.rest r);
  new = followed_before q.second (stretch_before q.first q.rest) r ∙ ap (before q.second) (followed_stretch q.first q.rest r);
}
exchanged_before (Behind z p) q r =
    let i = exchanged_before p q r in
    record {
      place = Behind z i.place;
      first = i.first;
      second = i.second;
      rest = i.rest;
      may = i.may;
      old = followed_before z (with_code p (old_of q)) r ∙ ap (before z) i.old;
      new = followed_before z (with_code p (new_of q)) r ∙ ap (before z) i.new;
    }
exchanged_before (InFirst g p other rest) q r =
    record { place = InFirst g p other (followed_by rest r); first = q.first; second = q.second; rest = q.rest; may = q.may; old = refl; new = refl }
exchanged_before (InOther g first p rest) q r =
    record { place = InOther g first p (followed_by rest r); first = q.first; second = q.second; rest = q.rest; may = q.may; old = refl; new = refl }
exchanged_before (InBody c t n p rest) q r =
    record { place = InBody c t n p (followed_by rest r); first = q.first; second = q.second; rest = q.rest; may = q.may; old = refl; new = refl }
exchanged_before (BehindBranch g first other p) q r =
    let i = exchanged_before p q r in
    record {
      place = BehindBranch g first other i.place;
      first = i.first;
      second = i.second;
      rest = i.rest;
      may = i.may;
      old = ap (λ d. Choose g first other d) i.old;
      new = ap (λ d. Choose g first other d) i.new;
    }
exchanged_before (BehindLoop c t n body p) q r =
    let i = exchanged_before p q r in
    record {
      place = BehindLoop c t n body i.place;
      first = i.first;
      second = i.second;
      rest = i.rest;
      may = i.may;
      old = ap (λ d. Repeat c t n body d) i.old;
      new = ap (λ d. Repeat c t n body d) i.new;
    }

-- some exchanges lead from the one to the other
abbrev pub SomeLead : Code → Code → Type 0
SomeLead c d = (n : ℕ) × Exchanges n c d

pub none_lead : (c : Code) → SomeLead c c
none_lead c = (0, refl)

one_leads : (c d : Code) → IsExchanged c d → SomeLead c d
one_leads c d e = (1, (d, e, refl))

two_lead : (c d e : Code) → IsExchanged c d → IsExchanged d e → SomeLead c e
two_lead c d e a b = (2, (d, a, (e, b, refl)))

in_first : (b : Bool) (p : Place) (other rest : Code) (q : Pair)
    → SomeLead (followed_by (if b then other else with_code p (old_of q)) rest) (followed_by (if b then other else with_code p (new_of q)) rest)
in_first true p other rest q = none_lead _
in_first false p other rest q = one_leads _ _ (exchanged_before p q rest)

in_other : (b : Bool) (first : Code) (p : Place) (rest : Code) (q : Pair)
    → SomeLead (followed_by (if b then with_code p (old_of q) else first) rest) (followed_by (if b then with_code p (new_of q) else first) rest)
in_other true first p rest q = one_leads _ _ (exchanged_before p q rest)
in_other false first p rest q = none_lead _

in_body : (b : Bool) (r t n : ℕ) (p : Place) (rest : Code) (q : Pair)
    → SomeLead (if b then followed_by (with_code p (old_of q)) (Repeat r t n (with_code p (old_of q)) rest) else rest)
    (if b then followed_by (with_code p (new_of q)) (Repeat r t n (with_code p (new_of q)) rest) else rest)
in_body true r t n p rest q =
    two_lead _ (followed_by (with_code p (new_of q)) (Repeat r t n (with_code p (old_of q)) rest)) _
    (exchanged_before p q (Repeat r t n (with_code p (old_of q)) rest))
    (exchanged_behind (with_code p (new_of q)) (InBody r t n p rest) q)
in_body false r t n p rest q = none_lead _

behind_loop : (b : Bool) (r t n : ℕ) (body : Code) (p : Place) (q : Pair)
    → SomeLead (if b then followed_by body (Repeat r t n body (with_code p (old_of q))) else with_code p (old_of q))
    (if b then followed_by body (Repeat r t n body (with_code p (new_of q))) else with_code p (new_of q))
behind_loop true r t n body p q = one_leads _ _ (exchanged_behind body (BehindLoop r t n body p) q)
behind_loop false r t n body p q = one_leads _ _ (exchanged_at p q)

-- where the neighbours are not first: both codes need the same, and with the same words they lead to codes that exchanges lead to
pub record Along (l : Local) (c d : Code) : Type 0 where
  pub needs : need (at l d).state ≡ need (at l c).state
  pub ahead : List ℕ → Code
  pub leads : (xs : List ℕ) → SomeLead (moved_on (at l c) xs).state.pending (ahead xs)
  pub moves : (xs : List ℕ) → moved_on (at l d) xs ≡ at (moved_on (at l c) xs) (ahead xs)

abbrev pub IsInside : Place → Type 0
IsInside Here = ⊥
IsInside (Behind z p) = Unit {0}
IsInside (InFirst g p other rest) = Unit {0}
IsInside (InOther g first p rest) = Unit {0}
IsInside (InBody r t n p rest) = Unit {0}
IsInside (BehindBranch g first other p) = Unit {0}
IsInside (BehindLoop r t n body p) = Unit {0}

pub along : (l : Local) (p : Place) (q : Pair) → IsInside p → Along l (with_code p (old_of q)) (with_code p (new_of q))
along l Here q i = absurd i
along l (Behind z p) q i = record {
  needs = piece_needs z l (with_code p (old_of q)) (with_code p (new_of q));
  ahead = λ xs. with_code p (new_of q);
  leads = λ xs. subst (λ c. SomeLead c (with_code p (new_of q))) (sym (piece_leaves z l (with_code p (old_of q)) xs)) (one_leads _ _ (exchanged_at p q));
  moves = λ xs. piece_moves z l (with_code p (old_of q)) (with_code p (new_of q)) xs;
}
along l (InFirst g p other rest) q i = record {
  needs = refl;
  ahead = λ xs. followed_by (if nat_eq (l.state.registers g) 0 then other else with_code p (new_of q)) rest;
  leads = λ xs. in_first (nat_eq (l.state.registers g) 0) p other rest q;
  moves = λ xs. refl;
}
along l (InOther g first p rest) q i = record {
  needs = refl;
  ahead = λ xs. followed_by (if nat_eq (l.state.registers g) 0 then with_code p (new_of q) else first) rest;
  leads = λ xs. in_other (nat_eq (l.state.registers g) 0) first p rest q;
  moves = λ xs. refl;
}
along l (InBody r t n p rest) q i = record {
  needs = refl;
  ahead = λ xs. if nat_lt t n then followed_by (with_code p (new_of q)) (Repeat r (suc t) n (with_code p (new_of q)) rest) else rest;
  leads = λ xs. in_body (nat_lt t n) r (suc t) n p rest q;
  moves = λ xs. refl;
}
along l (BehindBranch g first other p) q i = record {
  needs = refl;
  ahead = λ xs. followed_by (if nat_eq (l.state.registers g) 0 then other else first) (with_code p (new_of q));
  leads = λ xs. one_leads _ _ (exchanged_behind (if nat_eq (l.state.registers g) 0 then other else first) p q);
  moves = λ xs. refl;
}
along l (BehindLoop r t n body p) q i = record {
  needs = refl;
  ahead = λ xs. if nat_lt t n then followed_by body (Repeat r (suc t) n body (with_code p (new_of q))) else with_code p (new_of q);
  leads = λ xs. behind_loop (nat_lt t n) r (suc t) n body p q;
  moves = λ xs. refl;
}
