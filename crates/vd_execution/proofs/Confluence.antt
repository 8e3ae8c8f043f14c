-- Where two hosts' steps commute, every schedule that leaves no host able to step ends in the same world after equally many steps.
use Rattle.std.proofs.Common.{◌≡◌, ℕ, zero, suc, ◌+◌, List, [], ◌∷◌, ◌++◌, length, Option, Some, None, refl, sym, ap, ◌∙◌, subst, arith, zero-add, inl, inr}
use Rattle.vd_execution.specs.Schedule.{after, counted, run_by, effective_by, IsStuckBy, HasDiamond, Steps}
use Rattle.vd_execution.proofs.Puts.{same_or_not}

one_more : (n : ℕ) → 1 + n ≡ suc n
one_more n = omega arith

-- a schedule's steps
run_steps_at : {W : Type 0} (step : ℕ → W → Option W) (h : ℕ) (hs : List ℕ) (w : W) (o : Option W) → step h w ≡ o
    → ((v : W) → Steps step (effective_by step hs v) v (run_by step hs v))
    → Steps step (counted o + effective_by step hs (after o w)) w (run_by step hs (after o w))
run_steps_at step h hs w None e ih = rw (zero-add (effective_by step hs w)) (ih w)
run_steps_at step h hs w (Some u) e ih = rw (one_more (effective_by step hs u)) (h, u, e, ih u)

pub run_steps : {W : Type 0} (step : ℕ → W → Option W) (hs : List ℕ) (w : W) → Steps step (effective_by step hs w) w (run_by step hs w)
run_steps step [] w = refl
run_steps step (h ∷ hs) w = run_steps_at step h hs w (step h w) refl (run_steps step hs)

-- and back: steps are a schedule, each of whose turns is one
pub steps_run : {W : Type 0} (step : ℕ → W → Option W) (n : ℕ) (w v : W) → Steps step n w v
    → (hs : List ℕ) × (run_by step hs w ≡ v) × (effective_by step hs w ≡ n)
steps_run step zero w v e = ([], e, refl)
steps_run step (suc n) w v s =
    let r = steps_run step n s.1 v s.3 in (
      s.0 ∷ r.0,
      ap (λ o. run_by step r.0 (after o w)) s.2 ∙ r.1,
      ap (λ o. counted o + effective_by step r.0 (after o w)) s.2 ∙ one_more (effective_by step r.0 s.1) ∙ ap suc r.2,
    )

-- steps that lead to the end are one fewer after any step
pub strip : {W : Type 0} (step : ℕ → W → Option W) → HasDiamond step → (n : ℕ) (w v u : W) (h : ℕ) → Steps step n w v → IsStuckBy step v → step h w ≡ Some u
    → (m : ℕ) × (n ≡ suc m) × Steps step m u v
strip step diamond zero w v u h s stuck e = let k = stuck h in let f = ap (step h) s in cc
strip step diamond (suc n) w v u h s stuck e =
    elim (same_or_not h s.0) [
      | inl same ↦
          let one : Some s.1 ≡ Some u = sym s.2 ∙ sym (ap (λ g. step g w) same) ∙ e in
          let two : s.1 ≡ u = cc in
          (n, refl, subst (λ x. Steps step n x v) two s.3)
      | inr other ↦
          let d = diamond h s.0 w u s.1 other e s.2 in
          let r = strip step diamond n s.1 v d.0 h s.3 stuck d.2 in
          (n, refl, subst (λ k. Steps step k u v) (sym r.1) (s.0, d.0, d.1, r.2))
    ]

-- after k steps the end is n - k steps away
rest_of : {W : Type 0} (step : ℕ → W → Option W) → HasDiamond step → (k n : ℕ) (w u v : W) → Steps step k w u → Steps step n w v → IsStuckBy step v
    → (m : ℕ) × (n ≡ k + m) × Steps step m u v
rest_of step diamond zero n w u v s t stuck = (n, sym (zero-add n), subst (λ x. Steps step n x v) s t)
rest_of step diamond (suc k) n w u v s t stuck =
    let r = strip step diamond n w v s.1 s.0 t stuck s.2 in
    let q = rest_of step diamond k r.0 s.1 u v s.3 r.2 stuck in
    (q.0, omega (arith, r.1, q.1), q.2)

-- what each step keeps holds after all of them
pub steps_keep : {W : Type 0} (step : ℕ → W → Option W) (P : W → Type 0) → ((h : ℕ) (w u : W) → step h w ≡ Some u → P w → P u)
    → (n : ℕ) (w v : W) → Steps step n w v → P w → P v
steps_keep step P each zero w v s p = subst P s p
steps_keep step P each (suc n) w v s p = steps_keep step P each n s.1 v s.3 (each s.0 w s.1 s.2 p)

-- steps of hosts that may do more
pub steps_more : {W : Type 0} (step wide : ℕ → W → Option W) → ((h : ℕ) (w u : W) → step h w ≡ Some u → wide h w ≡ Some u)
    → (n : ℕ) (w v : W) → Steps step n w v → Steps wide n w v
steps_more step wide more zero w v s = s
steps_more step wide more (suc n) w v s = (s.0, s.1, more s.0 w s.1 s.2, steps_more step wide more n s.1 v s.3)

-- every schedule is on the way to the end that one reaches
pub on_the_way : {W : Type 0} (step : ℕ → W → Option W) → HasDiamond step → (w : W) (a b : List ℕ) → IsStuckBy step (run_by step a w)
    → (m : ℕ) × (effective_by step a w ≡ effective_by step b w + m) × Steps step m (run_by step b w) (run_by step a w)
on_the_way step diamond w a b stuck =
    rest_of step diamond (effective_by step b w) (effective_by step a w) w (run_by step b w) (run_by step a w) (run_steps step b w) (run_steps step a w) stuck

-- where no host can step, no step leads on
pub none_left : {W : Type 0} (step : ℕ → W → Option W) (m : ℕ) (w v : W) → IsStuckBy step w → Steps step m w v → (m ≡ 0) × (w ≡ v)
none_left step zero w v stuck s = (refl, s)
none_left step (suc m) w v stuck s = let k = stuck s.0 in let e = s.2 in absurd cc

pub one_end : {W : Type 0} (step : ℕ → W → Option W) → HasDiamond step → (w : W) (a b : List ℕ) → IsStuckBy step (run_by step a w) → IsStuckBy step (run_by step b w)
    → (run_by step b w ≡ run_by step a w) × (effective_by step b w ≡ effective_by step a w)
one_end step diamond w a b stuck also =
    let r = on_the_way step diamond w a b stuck in
    let q = none_left step r.0 (run_by step b w) (run_by step a w) also r.2 in
    (q.1, omega (arith, r.1, q.0))

-- a schedule each of whose turns is a step
abbrev pub Through : {W : Type 0} → (ℕ → W → Option W) → List ℕ → W → W → Type 0
Through step [] w v = w ≡ v
Through {W = W} step (h ∷ hs) w v = (u : W) × (step h w ≡ Some u) × Through step hs u v

pub through_run : {W : Type 0} (step : ℕ → W → Option W) (hs : List ℕ) (w v : W) → Through step hs w v → (run_by step hs w ≡ v) × (effective_by step hs w ≡ length hs)
through_run step [] w v p = (p, refl)
through_run step (h ∷ hs) w v p =
    let r = through_run step hs p.0 v p.2 in
    (ap (λ o. run_by step hs (after o w)) p.1 ∙ r.0, ap (λ o. counted o + effective_by step hs (after o w)) p.1 ∙ one_more (effective_by step hs p.0) ∙ ap suc r.1)

pub through_all : {W : Type 0} (step : ℕ → W → Option W) (first last : List ℕ) (a b c : W) → Through step first a b → Through step last b c → Through step (first ++ last) a c
through_all step [] last a b c p q = subst (λ x. Through step last x c) (sym p) q
through_all step (h ∷ first) last a b c p q = (p.0, p.1, through_all step first last p.0 b c p.2 q)
