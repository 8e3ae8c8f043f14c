-- Each packet that a step sends is counted once.
use Rattle.std.proofs.Common.{◌≡◌, ◌≢◌, ℕ, zero, suc, ◌+◌, ◌<◌, ◌≤◌, Bool, true, false, List, [], ◌∷◌, ◌++◌, length, length-append, map, refl, sym, ap, ◌∙◌, subst, inl, inr, arith, rules, ◌⊎◌}
use Rattle.std.specs.Prelude.{Option, Some, None, nat_lt, if◌then◌else◌}
use Rattle.std.specs.List.{range_with_len, sum}
use Rattle.vd_execution.specs.Joint.{Joint, started}
use Rattle.vd_execution.specs.Registers.{put}
use Rattle.vd_execution.specs.Step.{State, Deed, Quiet, Said, Heard, Printed, answer, need, next, deed}
use Rattle.vd_execution.specs.World.{World, Local, Supply, done, given, step, with_answer}
use Rattle.vd_execution.proofs.Front.{put_same, put_other, same_or_not}
use Rattle.vd_world.specs.Packets.{packets_of, said_to, sent_by}
use Rattle.vd_world.proofs.Packets.{next as one_next}

-- the sum of a function's first values
abbrev total : (ℕ → ℕ) → ℕ → ℕ
total f n = sum (map f (range_with_len 0 n))

total_next : (f : ℕ → ℕ) (n : ℕ) → total f (suc n) ≡ total f n + f n
total_next f n = let e : n + 1 ≡ suc n = omega arith in subst (λ k. total f k ≡ total f n + f n) e (one_next f n)

unchanged : (f g : ℕ → ℕ) (n : ℕ) → ((j : ℕ) → j < n → g j ≡ f j) → total g n ≡ total f n
unchanged f g zero same = refl
unchanged f g (suc n) same =
    let a = total_next f n in
    let b = total_next g n in
    let rest = unchanged f g n (λ j lt. same j (omega (arith, lt))) in
    let last = same n (omega arith) in
    omega (arith, a, b, rest, last)

-- one value grew
grown : (f g : ℕ → ℕ) (n h x : ℕ) → h < n → g h ≡ f h + x → ((j : ℕ) → j ≢ h → g j ≡ f j) → total g n ≡ total f n + x
grown f g zero h x less at same = absurd (omega (arith, less))
grown f g (suc n) h x less at same =
    let a = total_next f n in
    let b = total_next g n in
    elim (same_or_not n h) [
      | inl e ↦
          let here : g n ≡ f n + x = subst (λ k. g k ≡ f k + x) (sym e) at in
          let rest = unchanged f g n (λ j lt. same j (λ q. let z = q ∙ sym e in omega (arith, lt, z))) in
          omega (arith, a, b, rest, here)
      | inr d ↦
          let rest = grown f g n h x (below n h less d) at same in
          let last = same n d in
          omega (arith, a, b, rest, last)
    ]
  where
    below : (n h : ℕ) → h < suc n → n ≢ h → h < n
    below n h less d = grind (arith, less, d)

-- all values stay
stays : (f g : ℕ → ℕ) (n : ℕ) → ((j : ℕ) → g j ≡ f j) → total g n ≡ total f n + 0
stays f g n same = let e = unchanged f g n (λ j lt. same j) in omega (arith, e)

less_or_not : (m n : ℕ) → (m < n) ⊎ (n ≤ m)
less_or_not m n = grind arith

-- what a host sent, after a deed
sends : (n : ℕ) (l : Local) (m : State) (d : Deed) → total (λ p. length ((done l m d).sent p)) n ≡ total (λ p. length (l.sent p)) n + said_to n d
sends n l m Quiet = stays (λ p. length (l.sent p)) (λ p. length (l.sent p)) n (λ j. refl)
sends n l m (Heard p) = stays (λ p. length (l.sent p)) (λ p. length (l.sent p)) n (λ j. refl)
sends n l m (Printed x) = stays (λ p. length (l.sent p)) (λ p. length (l.sent p)) n (λ j. refl)
sends n l m (Said p words) =
    let f : ℕ → ℕ = λ q. length (l.sent q) in
    let g : ℕ → ℕ = λ q. length (put l.sent p (l.sent p ++ words ∷ []) q) in
    let other : (j : ℕ) → j ≢ p → g j ≡ f j = λ j ne. ap (λ (ps : List (List ℕ)). length ps) (put_other l.sent p (l.sent p ++ words ∷ []) j ne) in
    elim (less_or_not p n) [
      | inl less ↦
          let more = length-append (l.sent p) (words ∷ []) in
          let is = ap (λ (ps : List (List ℕ)). length ps) (put_same l.sent p (l.sent p ++ words ∷ [])) in
          let here : g p ≡ f p + 1 = omega (arith, more, is) in
          let b : nat_lt p n ≡ true = grind (arith, rules, less) in
          grown f g n p 1 less here other ∙ sym (ap (λ (t : Bool). total f n + (if t then 1 else 0)) b)
      | inr past ↦
          let b : nat_lt p n ≡ false = grind (arith, rules, past) in
          let e = unchanged f g n (λ j lt. other j (λ q. omega (arith, lt, q, past))) in
          let z : total g n ≡ total f n + 0 = omega (arith, e) in
          z ∙ sym (ap (λ (t : Bool). total f n + (if t then 1 else 0)) b)
    ]

-- the world after the deed of a host
world_sends : (n h : ℕ) (w : World) (m : State) (d : Deed) → h < n → packets_of (put w h (done (w h) m d)) n ≡ packets_of w n + said_to n d
world_sends n h w m d less =
    let l = done (w h) m d in
    let f = sent_by w n in
    let g = sent_by (put w h l) n in
    let here : g h ≡ f h + said_to n d = ap (λ (k : Local). total (λ p. length (k.sent p)) n) (put_same w h l) ∙ sends n (w h) m d in
    grown f g n h (said_to n d) less here (λ j ne. ap (λ (k : Local). total (λ p. length (k.sent p)) n) (put_other w h l j ne))

the_world : (u v : World) → Some u ≡ Some v → u ≡ v
the_world u v e = cc

pub each_counts : (s : Supply) (n h : ℕ) (w v : World) → h < n → step s h w ≡ Some v → packets_of v n ≡ packets_of w n + said_to n (deed (w h).state)
each_counts s n h w v less e = at (answer (given s w h (w h)) (w h).state.cursors (need (w h).state)) e
  where
    at : (o : Option (List ℕ)) → with_answer w h (w h) o ≡ Some v → packets_of v n ≡ packets_of w n + said_to n (deed (w h).state)
    at None q = absurd cc
    at (Some xs) q =
        let is = the_world (put w h (done (w h) (next (w h).state xs) (deed (w h).state))) v q in
        sym (ap (λ (u : World). packets_of u n) is) ∙ world_sends n h w (next (w h).state xs) (deed (w h).state) less

nothing : (f : ℕ → ℕ) (n : ℕ) → ((j : ℕ) → f j ≡ 0) → total f n ≡ 0
nothing f zero same = refl
nothing f (suc n) same = let a = total_next f n in let rest = nothing f n same in let last = same n in omega (arith, a, rest, last)

pub none_counts : (n : ℕ) (j : Joint) → packets_of (started j) n ≡ 0
none_counts n j = nothing (sent_by (started j) n) n (λ h. nothing (λ p. length ((started j h).sent p)) n (λ p. refl))
