-- A host's step leaves room on the links of others.
use Rattle.std.proofs.Common.{◌≡◌, ◌≢◌, inl, inr, ℕ, suc, ◌≤◌, Bool, true, false, if◌then◌else◌, List, length, Option, Some, None, refl, sym, ap, ◌∙◌, subst, arith}
use Rattle.std.specs.Prelude.{drop}
use Rattle.std.proofs.lemmas.List.{length-drop}
use Rattle.std.proofs.lemmas.Bool.{ltb-true, lt-ltb}
use Rattle.vd_execution.specs.Registers.{put}
use Rattle.vd_execution.specs.Step.{State, Deed, Quiet, Said, Heard, Printed, next, deed}
use Rattle.vd_execution.specs.Schedule.{HasDiamond}
use Rattle.vd_execution.specs.World.{Local, World, Supply, done, moved_on, queue, step}
use Rattle.vd_execution.proofs.Puts.{same_or_not, put_same, put_other}
use Rattle.vd_execution.proofs.Diamond.{diamond, stepped}
use Rattle.vd_execution.specs.Room.{has_room, narrow}

-- what a host took only grows
put_more : (f : ℕ → ℕ) (p q : ℕ) → f q ≤ put f p (suc (f p)) q
put_more f p q =
    elim (same_or_not q p) [
      | inl same ↦
          let e : put f p (suc (f p)) q ≡ suc (f q) = ap (put f p (suc (f p))) same ∙ put_same f p (suc (f p)) ∙ ap (λ i. suc (f i)) (sym same) in
          omega (arith, e)
      | inr other ↦ let e : put f p (suc (f p)) q ≡ f q = put_other f p (suc (f p)) q other in omega (arith, e)
    ]

done_took : (l : Local) (m : State) (d : Deed) (q : ℕ) → l.taken q ≤ (done l m d).taken q
done_took l m Quiet q = omega arith
done_took l m (Said p words) q = omega arith
done_took l m (Heard p) q = put_more l.taken p q
done_took l m (Printed x) q = omega arith

pub took : (w : World) (g p : ℕ) (xs : List ℕ) (h : ℕ) → (w p).taken h ≤ (put w g (moved_on (w g) xs) p).taken h
took w g p xs h =
    elim (same_or_not p g) [
      | inl same ↦
          let e : (put w g (moved_on (w g) xs) p).taken h ≡ (moved_on (w g) xs).taken h = ap (λ i. (put w g (moved_on (w g) xs) i).taken h) same ∙ ap (λ (l : Local). l.taken h) (put_same w g (moved_on (w g) xs)) in
          let f : (w p).taken h ≡ (w g).taken h = ap (λ i. (w i).taken h) same in
          let m = done_took (w g) (next (w g).state xs) (deed (w g).state) h in
          omega (arith, e, f, m)
      | inr other ↦
          let e : (put w g (moved_on (w g) xs) p).taken h ≡ (w p).taken h = ap (λ (l : Local). l.taken h) (put_other w g (moved_on (w g) xs) p other) in
          omega (arith, e)
    ]

fewer : (m n : ℕ) (xs : List (List ℕ)) → m ≤ n → length (drop n xs) ≤ length (drop m xs)
fewer m n xs le =
    let a = length-drop n xs in
    let b = length-drop m xs in
    omega (arith, a, b, le)

room_left : (room : ℕ) (w u : World) (h : ℕ) (d : Deed) → u h ≡ w h → ((p : ℕ) → (w p).taken h ≤ (u p).taken h) → has_room room w h d ≡ true → has_room room u h d ≡ true
room_left room w u h Quiet same more e = refl
room_left room w u h (Said p words) same more e =
    let a = fewer ((w p).taken h) ((u p).taken h) ((w h).sent p) (more p) in
    let b : length (queue u h p) ≡ length (drop ((u p).taken h) ((w h).sent p)) = ap (λ (l : Local). length (drop ((u p).taken h) (l.sent p))) same in
    let c = ltb-true (length (queue w h p)) room e in
    lt-ltb (length (queue u h p)) room (omega (arith, a, b, c))
room_left room w u h (Heard p) same more e = refl
room_left room w u h (Printed x) same more e = refl

goes_by : (b : Bool) (o : Option World) (u : World) → (if b then o else None) ≡ Some u → (b ≡ true) × (o ≡ Some u)
goes_by true o u e = (refl, e)
goes_by false o u e = absurd cc

still : (room : ℕ) (s : Supply) (g h : ℕ) (w u x : World) → g ≢ h → step s g w ≡ Some u → has_room room w h (deed (w h).state) ≡ true → step s h u ≡ Some x → narrow room s h u ≡ Some x
still room s g h w u x ne e r f =
    let a = stepped s g w u e in
    let same : u h ≡ w h = ap (λ v. v h) a.made ∙ put_other w g (moved_on (w g) a.words) h (λ q. ne (sym q)) in
    let more : (p : ℕ) → (w p).taken h ≤ (u p).taken h = λ p. subst (λ v. (w p).taken h ≤ (v p).taken h) (sym a.made) (took w g p a.words h) in
    let left : has_room room u h (deed (u h).state) ≡ true = ap (λ (l : Local). has_room room u h (deed l.state)) same ∙ room_left room w u h (deed (w h).state) same more r in
    ap (λ b. if b then step s h u else None) left ∙ f

pub commute : (room : ℕ) (s : Supply) → HasDiamond (narrow room s)
commute room s g h w u v ne e f =
    let a = goes_by (has_room room w g (deed (w g).state)) (step s g w) u e in
    let b = goes_by (has_room room w h (deed (w h).state)) (step s h w) v f in
    let d = diamond s g h w u v ne a.1 b.1 in
    (d.0, still room s g h w u d.0 ne a.1 b.0 d.1, still room s h g w v d.0 (λ q. ne (sym q)) b.1 a.0 d.2)
