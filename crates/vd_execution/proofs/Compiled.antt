-- The schedules of compiled code.
use Rattle.std.proofs.Common.{◌≡◌, ℕ, suc, List, [], ◌∷◌, ◌++◌, length, Option, Some, None, refl, sym, ap, ◌∙◌, subst, append_assoc}
use Rattle.vd_execution.specs.Code.{Finished, followed_by}
use Rattle.vd_execution.specs.Step.{answer, need}
use Rattle.vd_execution.specs.Schedule.{Steps}
use Rattle.vd_execution.specs.World.{World, Supply, Tape, step, run, effective, given, moved_on, IsStuck, IsPrefixOf, AllEnded, IsShort, words_of, followed_by_zeros}
use Rattle.vd_execution.specs.Registers.{put}
use Rattle.vd_execution.specs.Joint.{Joint, Hosts, code_of, fresh, started, at_end}
use Rattle.vd_execution.specs.Claims.{RunsWell, IsOnTheWay, Suffices, last_of, order_of, work_of}
use Rattle.vd_execution.proofs.Confluence.{Through, through_run}
use Rattle.vd_execution.proofs.Diamond.{stepped, steps_to}
use Rattle.vd_execution.proofs.Reached.{GrowsInto, grows_along, faultless, goes_on, twin, twin_steps, short_at, remaining, Enough, never_short, ended_whole, stuck_ended}
use Rattle.vd_execution.proofs.Resting.{same_resting}
use Rattle.vd_execution.proofs.Calm.{same_start, calm_steps}
use Rattle.vd_execution.proofs.Order.{calmly_in_order}
use Rattle.vd_execution.proofs.Reading.{ends_there}

all_through : (s : Supply) (j : Joint) → RunsWell s j → Through (step (twin s)) (order_of s j) (started j) (at_end (last_of s j))
all_through s j well =
    let t : Tape = followed_by_zeros s in
    calm_steps t (order_of s j) (started j) (at_end (last_of s j))
    (same_start t (order_of s j) (started j) _ (at_end (last_of s j))
    (same_resting (λ h. code_of h j) (λ h. followed_by (code_of h j) Finished) fresh fresh (λ h. sym (ends_there (code_of h j))) (λ h. refl))
    (calmly_in_order t j fresh (λ h. Finished) well.tidy well.smooth))

-- program order, on endless lists
record InOrder (s : Supply) (j : Joint) : Type 0 where
  ends : run (twin s) (order_of s j) (started j) ≡ at_end (last_of s j)
  count : effective (twin s) (order_of s j) (started j) ≡ work_of s j

in_order : (s : Supply) (j : Joint) → RunsWell s j → InOrder s j
in_order s j well =
    let r = through_run (step (twin s)) (order_of s j) (started j) (at_end (last_of s j)) (all_through s j well) in
    record { ends = r.0; count = r.1 }

end_ended : (v : Hosts) → AllEnded (at_end v)
end_ended v h = refl

order_ended : (s : Supply) (j : Joint) → (o : InOrder s j) → AllEnded (run (twin s) (order_of s j) (started j))
order_ended s j o = subst AllEnded (sym o.ends) (end_ended (last_of s j))

order_enough : (s : Supply) (j : Joint) → (o : InOrder s j) → Suffices s (last_of s j) → Enough s (run (twin s) (order_of s j) (started j))
order_enough s j o enough = subst (λ w. Enough s w) (sym o.ends) enough

-- where the lists suffice, the steps on endless lists are steps on these
enough_at : (s : Supply) (h : ℕ) (w u : World) (o : Option (List ℕ)) → answer (given s w h (w h)) (w h).state.cursors (need (w h).state) ≡ o → (IsShort s w h → ⊥)
    → step (twin s) h w ≡ Some u → step s h w ≡ Some u
enough_at s h w u None e never f =
    let a = stepped (twin s) h w u f in
    absurd (never (short_at s w h (w h) (need (w h).state) a.words e a.able))
enough_at s h w u (Some xs) e never f =
    let able : step s h w ≡ Some (put w h (moved_on (w h) xs)) = steps_to s h w (w h) xs refl e in
    let both = twin_steps s h w (put w h (moved_on (w h) xs)) able in
    able ∙ sym both ∙ f

through_steps : (s : Supply) (hs : List ℕ) (w v : World) → Through (step s) hs w v → Steps (step s) (length hs) w v
through_steps s [] w v t = t
through_steps s (h ∷ hs) w v t = (h, t.0, t.1, through_steps s hs t.0 v t.2)

enough_through : (s : Supply) (hs : List ℕ) (w v : World) → Through (step (twin s)) hs w v → AllEnded v → Enough s v → Through (step s) hs w v
enough_through s [] w v t ended enough = t
enough_through s (h ∷ hs) w v t ended enough = (
  t.0,
  enough_at s h w t.0 (answer (given s w h (w h)) (w h).state.cursors (need (w h).state)) refl
      (never_short s (suc (length hs)) w v (through_steps (twin s) (h ∷ hs) w v t) ended enough h) t.1,
  enough_through s hs t.0 v t.2 ended enough,
)

pub in_program_order : (s : Supply) (j : Joint) → RunsWell s j → Suffices s (last_of s j)
    → (run s (order_of s j) (started j) ≡ at_end (last_of s j)) × (effective s (order_of s j) (started j) ≡ work_of s j)
in_program_order s j well enough =
    through_run (step s) (order_of s j) (started j) (at_end (last_of s j))
    (enough_through s (order_of s j) (started j) (at_end (last_of s j)) (all_through s j well) (end_ended (last_of s j)) enough)

-- a prefix of the packets has a prefix of the words
words_append : (xs ys : List (List ℕ)) → words_of (xs ++ ys) ≡ words_of xs ++ words_of ys
words_append [] ys = refl
words_append (x ∷ xs) ys = ap (λ l. x ++ l) (words_append xs ys) ∙ sym (append_assoc x (words_of xs) (words_of ys))

words_front : (xs ys : List (List ℕ)) → IsPrefixOf xs ys → IsPrefixOf (words_of xs) (words_of ys)
words_front xs ys p = (words_of p.0, sym (words_append xs p.0) ∙ ap words_of p.1)

pub on_the_way : (s : Supply) (j : Joint) (b : List ℕ) → RunsWell s j → IsOnTheWay s (run s b (started j)) (last_of s j)
on_the_way s j b well =
    let o = in_order s j well in
    let ended = order_ended s j o in
    let r = remaining s (started j) (order_of s j) b ended in
    let last : World = run (twin s) (order_of s j) (started j) in
    let into : GrowsInto (run s b (started j)) last = grows_along (twin s) r.0 (run s b (started j)) last r.2 in
    let grows : GrowsInto (run s b (started j)) (at_end (last_of s j)) = subst (λ w. GrowsInto (run s b (started j)) w) o.ends into in
    record {
      printed = λ h. (grows h).printed;
      sent = λ h p. (grows h).sent p;
      talk = λ h p. words_front ((run s b (started j) h).sent p) ((last_of s j h).sent p) ((grows h).sent p);
      faultless = faultless (twin s) r.0 (run s b (started j)) last r.2 ended;
      goes_on = goes_on s r.0 (run s b (started j)) last r.2 ended;
      whole = λ all. (ended_whole s (started j) (order_of s j) b ended all).0 ∙ o.ends;
    }

pub counted : (s : Supply) (j : Joint) (b : List ℕ) → RunsWell s j → AllEnded (run s b (started j)) → effective s b (started j) ≡ work_of s j
counted s j b well all =
    let o = in_order s j well in
    (ended_whole s (started j) (order_of s j) b (order_ended s j o) all).1 ∙ o.count

pub never_short_on_the_way : (s : Supply) (j : Joint) (b : List ℕ) → RunsWell s j → Suffices s (last_of s j) → (h : ℕ) → IsShort s (run s b (started j)) h → ⊥
never_short_on_the_way s j b well enough h short =
    let o = in_order s j well in
    let ended = order_ended s j o in
    let r = remaining s (started j) (order_of s j) b ended in
    never_short s r.0 (run s b (started j)) (run (twin s) (order_of s j) (started j)) r.2 ended (order_enough s j o enough) h short

pub whole : (s : Supply) (j : Joint) (b : List ℕ) → RunsWell s j → Suffices s (last_of s j) → IsStuck s (run s b (started j))
    → (run s b (started j) ≡ at_end (last_of s j)) × (effective s b (started j) ≡ work_of s j)
whole s j b well enough stuck =
    let o = in_order s j well in
    let all = stuck_ended s (started j) (order_of s j) b (order_ended s j o) (order_enough s j o enough) stuck in
    ((on_the_way s j b well).whole all, counted s j b well all)
