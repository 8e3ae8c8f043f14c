-- All hosts get codes that exchanges lead to.
use Rattle.std.proofs.Common.{◌≡◌, ◌⊎◌, inl, inr, ℕ, zero, suc, ◌≤◌, ◌<◌, List, [], ◌∷◌, ◌++◌, refl, sym, ap, ◌∙◌, subst, append_assoc, arith}
use mathlib.Core.Path.{fun_ext}
use Rattle.vd_execution.specs.Registers.{put}
use Rattle.vd_execution.specs.Code.{Code}
use Rattle.vd_execution.specs.Schedule.{Steps}
use Rattle.vd_execution.specs.World.{World, Supply, Tape, step, run, effective, AllEnded, IsShort, IsStuck, IsPrefixOf, words_of, followed_by_zeros, endless}
use Rattle.vd_execution.specs.Joint.{Joint, Hosts, code_of, fresh, resting, started, at_end}
use Rattle.vd_execution.specs.Claims.{RunsWell, RunsToItsEnd, IsOnTheWay, Suffices, last_of, order_of}
use Rattle.vd_execution.proofs.Front.{same_or_not, put_same, put_other}
use Rattle.vd_execution.proofs.Front.{run_steps, steps_run, GrowsInto, grows_along, faultless, goes_on, twin, remaining, Enough, never_short, ended_whole, stuck_ended, in_program_order}
use Rattle.vd_reorder.specs.Hastening.{at, Exchanges, IsHastened, AreHastened}
use Rattle.vd_reorder.proofs.Turned.{turned}
use Rattle.vd_reorder.proofs.Ending.{keeps}

-- the first i hosts have their new codes
abbrev mixed : (ℕ → Code) → (ℕ → Code) → ℕ → ℕ → Code
mixed old new zero = old
mixed old new (suc i) = put (mixed old new i) i (new i)

mixed_above : (old new : ℕ → Code) (i h : ℕ) → i ≤ h → mixed old new i h ≡ old h
mixed_above old new zero h le = refl
mixed_above old new (suc i) h le = put_other (mixed old new i) i (new i) h (omega (arith, le)) ∙ mixed_above old new i h (omega (arith, le))

mixed_below : (old new : ℕ → Code) (i h : ℕ) → h < i → mixed old new i h ≡ new h
mixed_below old new zero h lt = absurd (omega (arith, lt))
mixed_below old new (suc i) h lt =
    elim (same_or_not h i) [
      | inl same ↦ ap (put (mixed old new i) i (new i)) same ∙ put_same (mixed old new i) i (new i) ∙ ap new (sym same)
      | inr other ↦ put_other (mixed old new i) i (new i) h other ∙ mixed_below old new i h (omega (arith, lt, other))
    ]

below_or_not : (h n : ℕ) → (h < n) ⊎ (n ≤ h)
below_or_not h zero = inr (omega arith)
below_or_not zero (suc n) = inl (omega arith)
below_or_not (suc h) (suc n) = elim (below_or_not h n) [ inl a ↦ inl (omega (arith, a)) | inr b ↦ inr (omega (arith, b)) ]

mixed_all : (old new : ℕ → Code) (n : ℕ) → ((h : ℕ) → n ≤ h → old h ≡ new h) → mixed old new n ≡ new
mixed_all old new n others =
    fun_ext (λ h. elim (below_or_not h n) [ inl lt ↦ mixed_below old new n h lt | inr le ↦ mixed_above old new n h le ∙ others h le ])

-- one host of a world at its start gets another code
turned_resting : (codes : ℕ → Code) (w : Hosts) (i : ℕ) (d : Code) → turned (resting codes w) i d ≡ resting (put codes i d) w
turned_resting codes w i d =
    fun_ext (λ h. elim (same_or_not h i) [
      | inl same ↦
          ap (turned (resting codes w) i d) same
          ∙ put_same (resting codes w) i (at (resting codes w i) d)
          ∙ ap (λ c. at (resting codes w i) c) (sym (put_same codes i d))
          ∙ ap (resting (put codes i d) w) (sym same)
      | inr other ↦
          put_other (resting codes w) i (at (resting codes w i) d) h other
          ∙ ap (λ c. at (resting codes w h) c) (sym (put_other codes i d h other))
    ])

some_hosts : (t : Tape) (n : ℕ) (v : World) (w : Hosts) (old new : ℕ → Code) → ((h : ℕ) → IsHastened (old h) (new h)) → AllEnded v
    → Steps (step (endless t)) n (resting old w) v → (i : ℕ) → Steps (step (endless t)) n (resting (mixed old new i) w) v
some_hosts t n v w old new each ended s zero = s
some_hosts t n v w old new each ended s (suc i) =
    let r = some_hosts t n v w old new each ended s i in
    let x = each i in
    let y : Exchanges x.0 (mixed old new i i) (new i) = subst (λ c. Exchanges x.0 c (new i)) (sym (mixed_above old new i i (omega arith))) x.1 in
    subst (λ u. Steps (step (endless t)) n u v) (turned_resting (mixed old new i) w i (new i)) (keeps t n x.0 i (resting (mixed old new i) w) v (new i) y r ended)

-- a schedule that leads them to the end of the joint run, on endless lists
pub record Comes (s : Supply) (j : Joint) (codes : ℕ → Code) : Type 0 where
  pub hosts : List ℕ
  pub ends : run (twin s) hosts (resting codes fresh) ≡ at_end (last_of s j)
  pub ended : AllEnded (run (twin s) hosts (resting codes fresh))

end_ended : (v : Hosts) → AllEnded (at_end v)
end_ended v h = refl

never_none : (s : Supply) (v : Hosts) → Suffices (twin s) v
never_none s v h source i less is = absurd cc

pub comes : (s : Supply) (j : Joint) (n : ℕ) (codes : ℕ → Code) → RunsWell s j → AreHastened n j codes → Comes s j codes
comes s j n codes well are =
    let t : Tape = followed_by_zeros s in
    let order : List ℕ = order_of s j in
    let old : ℕ → Code = λ h. code_of h j in
    let v : World = at_end (last_of s j) in
    let well_too : RunsWell (twin s) j = record { tidy = well.tidy; smooth = well.smooth } in
    let o = in_program_order (twin s) j well_too (never_none s (last_of s j)) in
    let through : Steps (step (twin s)) (effective (twin s) order (started j)) (started j) v =
    subst (λ u. Steps (step (twin s)) (effective (twin s) order (started j)) (started j) u) o.0 (run_steps (step (twin s)) order (started j)) in
    let mixed_steps = some_hosts t (effective (twin s) order (started j)) v fresh old codes are.each (end_ended (last_of s j)) through n in
    let all_steps : Steps (step (twin s)) (effective (twin s) order (started j)) (resting codes fresh) v =
    subst (λ c. Steps (step (twin s)) (effective (twin s) order (started j)) (resting c fresh) v) (mixed_all old codes n are.others) mixed_steps in
    let r = steps_run (step (twin s)) (effective (twin s) order (started j)) (resting codes fresh) v all_steps in
    record { hosts = r.0; ends = r.1; ended = subst AllEnded (sym r.1) (end_ended (last_of s j)) }

words_append : (xs ys : List (List ℕ)) → words_of (xs ++ ys) ≡ words_of xs ++ words_of ys
words_append [] ys = refl
words_append (x ∷ xs) ys = ap (λ l. x ++ l) (words_append xs ys) ∙ sym (append_assoc x (words_of xs) (words_of ys))

words_front : (xs ys : List (List ℕ)) → IsPrefixOf xs ys → IsPrefixOf (words_of xs) (words_of ys)
words_front xs ys p = (words_of p.0, sym (words_append xs p.0) ∙ ap words_of p.1)

pub hastened_on_the_way : (s : Supply) (j : Joint) (n : ℕ) (codes : ℕ → Code) (b : List ℕ) → RunsWell s j → AreHastened n j codes
    → IsOnTheWay s (run s b (resting codes fresh)) (last_of s j)
hastened_on_the_way s j n codes b well are =
    let start : World = resting codes fresh in
    let c = comes s j n codes well are in
    let r = remaining s start c.hosts b c.ended in
    let last : World = run (twin s) c.hosts start in
    let into : GrowsInto (run s b start) last = grows_along (twin s) r.0 (run s b start) last r.2 in
    let grows : GrowsInto (run s b start) (at_end (last_of s j)) = subst (λ w. GrowsInto (run s b start) w) c.ends into in
    record {
      printed = λ h. (grows h).printed;
      sent = λ h p. (grows h).sent p;
      talk = λ h p. words_front ((run s b start h).sent p) ((last_of s j h).sent p) ((grows h).sent p);
      faultless = faultless (twin s) r.0 (run s b start) last r.2 c.ended;
      goes_on = goes_on s r.0 (run s b start) last r.2 c.ended;
      whole = λ all. (ended_whole s start c.hosts b c.ended all).0 ∙ c.ends;
    }

pub hastened_end : (s : Supply) (j : Joint) (n : ℕ) (codes : ℕ → Code) (b : List ℕ) → RunsToItsEnd s j → AreHastened n j codes
    → IsStuck s (run s b (resting codes fresh)) → run s b (resting codes fresh) ≡ at_end (last_of s j)
hastened_end s j n codes b runs are stuck =
    let start : World = resting codes fresh in
    let c = comes s j n codes runs.well are in
    let enough : Enough s (run (twin s) c.hosts start) = subst (λ w. Enough s w) (sym c.ends) runs.enough in
    let all = stuck_ended s start c.hosts b c.ended enough stuck in
    (hastened_on_the_way s j n codes b runs.well are).whole all

pub hastened_never_short : (s : Supply) (j : Joint) (n : ℕ) (codes : ℕ → Code) (b : List ℕ) (h : ℕ) → RunsToItsEnd s j → AreHastened n j codes
    → IsShort s (run s b (resting codes fresh)) h → ⊥
hastened_never_short s j n codes b h runs are short =
    let start : World = resting codes fresh in
    let c = comes s j n codes runs.well are in
    let r = remaining s start c.hosts b c.ended in
    let enough : Enough s (run (twin s) c.hosts start) = subst (λ w. Enough s w) (sym c.ends) runs.enough in
    never_short s r.0 (run s b start) (run (twin s) c.hosts start) r.2 c.ended enough h short
