-- Each step makes what is pending less, so rounds end.
use Rattle.std.proofs.Common.{◌≡◌, ◌≢◌, ℕ, zero, suc, ◌+◌, ◌-◌, ◌*◌, ◌<◌, ◌≤◌, ◌⊎◌, inl, inr, Bool, true, false, cond, List, [], ◌∷◌, ◌++◌, Option, Some, None, refl, sym, ap, ◌∙◌, subst, arith}
use Rattle.std.specs.Prelude.{nat_lt, nat_eq}
use borrow.Author.Tests.{ltb-true}
use Rattle.vd_execution.specs.Registers.{Registers, put}
use Rattle.vd_execution.specs.Code.{Code, Finished, Then, Send, Recv, Choose, Repeat, followed_by, weight}
use Rattle.vd_execution.specs.Step.{Cursors, Given, Need, Ended, answer, need, need_of, pending_after, next, deed}
use Rattle.vd_execution.specs.Schedule.{after}
use Rattle.vd_execution.specs.World.{Local, World, Supply, EndedFrom, given, step, run, IsStuck, moved_on, left, each_once, rounds, all_rounds}
use Rattle.vd_execution.proofs.Puts.{same_or_not, put_same, put_other}
use Rattle.vd_execution.proofs.Diamond.{stepped}
use Rattle.vd_execution.proofs.Reached.{done_state, ended_needs}

weight_both : (c d : Code) → weight (followed_by c d) ≡ weight c + weight d
weight_both Finished d = omega arith
weight_both (Then a c) d = let h = weight_both c d in omega arith
weight_both (Send p rs c) d = let h = weight_both c d in omega arith
weight_both (Recv p rs c) d = let h = weight_both c d in omega arith
weight_both (Choose r a b c) d = let h = weight_both c d in omega arith
weight_both (Repeat r t k body c) d = let h = weight_both c d in omega arith

one_turn : (n m x y : ℕ) → n ≡ suc m → x + (m * suc x + suc y) < n * suc x + suc y
one_turn n m x y e = subst (λ z. x + (m * suc x + suc y) < z * suc x + suc y) (sym e) (omega arith)

turn_falls : (b : Bool) (r t k : ℕ) (body c : Code) → (b ≡ true → t < k) → weight (cond b (followed_by body (Repeat r (suc t) k body c)) c) < weight (Repeat r t k body c)
turn_falls true r t k body c h =
    let lt = h refl in
    let e : k - t ≡ suc (k - suc t) = omega arith in
    rw (weight_both body (Repeat r (suc t) k body c)) (one_turn (k - t) (k - suc t) (weight body) (weight c) e)
turn_falls false r t k body c h = omega arith

choice_falls : (z : Bool) (a b c : Code) → weight (followed_by (cond z b a) c) < suc (weight a + weight b + weight c)
choice_falls true a b c = let h = weight_both b c in omega arith
choice_falls false a b c = let h = weight_both a c in omega arith

pub weight_falls : (f : Registers) (c : Code) → (need_of f c ≡ Ended → ⊥) → weight (pending_after f c) < weight c
weight_falls f Finished h = absurd (h refl)
weight_falls f (Then a c) h = omega arith
weight_falls f (Send p rs c) h = omega arith
weight_falls f (Recv p rs c) h = omega arith
weight_falls f (Choose r a b c) h = choice_falls (nat_eq (f r) 0) a b c
weight_falls f (Repeat r t k body c) h = turn_falls (nat_lt t k) r t k body c (ltb-true t k)

not_ended : (g : Given) (c : Cursors) (n : Need) (xs : List ℕ) → answer g c n ≡ Some xs → n ≡ Ended → ⊥
not_ended g c n xs e h = let z = ap (answer g c) h in cc

-- the sum over hosts, where one host's record changes
left_same : (n : ℕ) (w : World) (h : ℕ) (k : Local) → n ≤ h → left n (put w h k) ≡ left n w
left_same zero w h k e = refl
left_same (suc n) w h k e =
    let other : n ≢ h = λ i. omega (arith, e, i) in
    let a = ap (λ l. weight l.state.pending) (put_other w h k n other) in
    let b = left_same n w h k (omega arith) in omega (arith, a, b)

left_falls : (n : ℕ) (w : World) (h : ℕ) (k : Local) → h < n → weight k.state.pending < weight (w h).state.pending → left n (put w h k) < left n w
left_falls zero w h k e f = absurd (omega arith)
left_falls (suc n) w h k e f =
    elim (same_or_not n h) [
      | inl i ↦
          let a = ap (λ l. weight l.state.pending) (ap (put w h k) i ∙ put_same w h k) in
          let b = left_same n w h k (omega (arith, i)) in
          let d = ap (λ q. weight (w q).state.pending) i in omega (arith, a, b, d, f)
      | inr m ↦
          let a = ap (λ l. weight l.state.pending) (put_other w h k n m) in
          let b = left_falls n w h k (omega (arith, e, m)) f in omega (arith, a, b)
    ]

below_or : (h n : ℕ) → (h < n) ⊎ (n ≤ h)
below_or h n = grind arith

step_below : (s : Supply) (n h : ℕ) (w u : World) → EndedFrom n w → step s h w ≡ Some u → h < n
step_below s n h w u ended e =
    let a = stepped s h w u e in
    elim (below_or h n) [
      | inl b ↦ b
      | inr b ↦ absurd (not_ended (given s w h (w h)) (w h).state.cursors (need (w h).state) a.words a.able (ended_needs (w h) (ended h b)))
    ]

pub step_falls : (s : Supply) (n h : ℕ) (w u : World) → EndedFrom n w → step s h w ≡ Some u → left n u < left n w
step_falls s n h w u ended e =
    let a = stepped s h w u e in
    let m = (w h).state in
    let falls = weight_falls m.registers m.pending (not_ended (given s w h (w h)) m.cursors (need m) a.words a.able) in
    let is = ap (λ q. weight q.pending) (done_state (w h) (next m a.words) (deed m)) in
    let less : weight (moved_on (w h) a.words).state.pending < weight m.pending = omega (arith, falls, is) in
    subst (λ x. left n x < left n w) (sym a.made) (left_falls n w h (moved_on (w h) a.words) (step_below s n h w u ended e) less)

still_ended : (s : Supply) (n h : ℕ) (w u : World) → EndedFrom n w → step s h w ≡ Some u → EndedFrom n u
still_ended s n h w u ended e j far =
    let a = stepped s h w u e in
    let b = step_below s n h w u ended e in
    ap (λ x. (x j).state.pending) a.made ∙ ap (λ l. l.state.pending) (put_other w h (moved_on (w h) a.words) j (λ i. omega (arith, b, far, i))) ∙ ended j far

-- a schedule: something was done, or nothing can be done by the hosts in it
abbrev NoneOf : Supply → World → List ℕ → Type 0
NoneOf s w [] = Unit {0}
NoneOf s w (h ∷ hs) = (step s h w ≡ None) × NoneOf s w hs

record After (s : Supply) (n : ℕ) (hs : List ℕ) (w : World) : Type 0 where
  ended : EndedFrom n (run s hs w)
  less : left n (run s hs w) ≤ left n w
  done : (left n (run s hs w) < left n w) ⊎ ((run s hs w ≡ w) × NoneOf s w hs)

after_turn : (s : Supply) (n h : ℕ) (hs : List ℕ) (w : World) (o : Option World) → step s h w ≡ o → EndedFrom n w → ((v : World) → EndedFrom n v → After s n hs v) → run s (h ∷ hs) w ≡ run s hs (after o w) → After s n (h ∷ hs) w
after_turn s n h hs w None e ended ih is =
    let r = ih w ended in
    record {
      ended = subst (EndedFrom n) (sym is) r.ended;
      less = subst (λ x. left n x ≤ left n w) (sym is) r.less;
      done = elim r.done [
        | inl l ↦ inl (subst (λ x. left n x < left n w) (sym is) l)
        | inr q ↦ inr (is ∙ q.0, (e, q.1))
      ];
    }
after_turn s n h hs w (Some u) e ended ih is =
    let r = ih u (still_ended s n h w u ended e) in
    let f = step_falls s n h w u ended e in
    let g = r.less in
    let less : left n (run s hs u) < left n w = omega (arith, f, g) in
    record {
      ended = subst (EndedFrom n) (sym is) r.ended;
      less = subst (λ x. left n x ≤ left n w) (sym is) (omega (arith, less));
      done = inl (subst (λ x. left n x < left n w) (sym is) less);
    }

after_all : (s : Supply) (n : ℕ) (hs : List ℕ) (w : World) → EndedFrom n w → After s n hs w
after_all s n [] w ended = record { ended = ended; less = omega arith; done = inr (refl, tt) }
after_all s n (h ∷ hs) w ended = after_turn s n h hs w (step s h w) refl ended (λ v e. after_all s n hs v e) refl

-- where none of the first n can step, none can
none_append : (s : Supply) (w : World) (xs : List ℕ) (h : ℕ) → NoneOf s w (xs ++ h ∷ []) → NoneOf s w xs × (step s h w ≡ None)
none_append s w [] h q = (tt, q.0)
none_append s w (x ∷ xs) h q = let r = none_append s w xs h q.1 in ((q.0, r.0), r.1)

none_below : (s : Supply) (w : World) (n h : ℕ) → NoneOf s w (each_once n) → h < n → step s h w ≡ None
none_below s w zero h q e = absurd (omega arith)
none_below s w (suc n) h q e =
    let r = none_append s w (each_once n) n q in
    elim (same_or_not h n) [
      | inl i ↦ ap (λ k. step s k w) i ∙ r.1
      | inr m ↦ none_below s w n h r.0 (omega (arith, e, m))
    ]

none_at : (s : Supply) (n h : ℕ) (w : World) (o : Option World) → step s h w ≡ o → EndedFrom n w → n ≤ h → o ≡ None
none_at s n h w None e ended far = refl
none_at s n h w (Some u) e ended far = let b = step_below s n h w u ended e in absurd (omega (arith, b, far))

stuck_all : (s : Supply) (n : ℕ) (w : World) → EndedFrom n w → NoneOf s w (each_once n) → IsStuck s w
stuck_all s n w ended q h =
    elim (below_or h n) [
      | inl b ↦ none_below s w n h q b
      | inr b ↦ none_at s n h w (step s h w) refl ended b
    ]

stuck_stays : (s : Supply) (hs : List ℕ) (w : World) → IsStuck s w → run s hs w ≡ w
stuck_stays s [] w stuck = refl
stuck_stays s (h ∷ hs) w stuck = ap (λ o. run s hs (after o w)) (stuck h) ∙ stuck_stays s hs w stuck

pub run_both : (s : Supply) (xs ys : List ℕ) (w : World) → run s (xs ++ ys) w ≡ run s ys (run s xs w)
run_both s [] ys w = refl
run_both s (h ∷ xs) ys w = run_both s xs ys (after (step s h w) w)

nothing_left : (s : Supply) (n h : ℕ) (w : World) (o : Option World) → step s h w ≡ o → EndedFrom n w → left n w ≤ 0 → o ≡ None
nothing_left s n h w None e ended z = refl
nothing_left s n h w (Some u) e ended z = let f = step_falls s n h w u ended e in absurd (omega (arith, f, z))

rounds_end : (s : Supply) (n count : ℕ) (w : World) → EndedFrom n w → left n w ≤ count → IsStuck s (run s (rounds n count) w)
rounds_end s n zero w ended few = λ h. nothing_left s n h w (step s h w) refl ended few
rounds_end s n (suc count) w ended few =
    let a = after_all s n (each_once n) w ended in
    let both = run_both s (each_once n) (rounds n count) w in
    elim a.done [
      | inl less ↦ subst (λ x. IsStuck s x) (sym both) (rounds_end s n count (run s (each_once n) w) a.ended (omega (arith, less, few)))
      | inr none ↦
          let stuck = stuck_all s n w ended none.1 in
          subst (λ x. IsStuck s x) (sym (both ∙ ap (run s (rounds n count)) none.0 ∙ stuck_stays s (rounds n count) w stuck)) stuck
    ]

pub all_stuck : (s : Supply) (n : ℕ) (w : World) → EndedFrom n w → IsStuck s (run s (all_rounds n w) w)
all_stuck s n w ended = rounds_end s n (left n w) w ended (omega arith)

-- a host that has ended has ended after any schedule
pub run_ended : (s : Supply) (n : ℕ) (hs : List ℕ) (w : World) → EndedFrom n w → EndedFrom n (run s hs w)
run_ended s n hs w ended = (after_all s n hs w ended).ended
