-- Steps of a host that nobody sees.
use Rattle.std.proofs.Common.{◌≡◌, ℕ, zero, suc, ◌+◌, ◌<◌, ◌≤◌, true, false, List, [], ◌∷◌, length, refl, sym, ap, ◌∙◌, subst, inl, inr, arith}
use Rattle.std.specs.Prelude.{Option, Some, None, slice_get, slice_set}
use mathlib.Core.Path.{fun_ext}
use Rattle.vd_execution.specs.Registers.{put}
use Rattle.vd_execution.specs.Schedule.{after}
use Rattle.vd_execution.specs.Step.{State, need, need_of, next}
use Rattle.vd_execution.specs.World.{Local, World, Supply, EndedFrom, given, step, with_answer, done, left}
use Rattle.vd_execution.proofs.Front.{put_same, put_other, same_or_not}
use Rattle.vd_execution.proofs.Front.{step_falls}
use Rattle.vd_machine.specs.declared.lists.Lists.{Lists}
use Rattle.vd_machine.specs.Kept.{state_of}
use Rattle.vd_machine.specs.Machines.{items_of, words_for}
use Rattle.vd_machine.specs.Quietly.{IsQuiet, QuietSteps, Quietly}
use Rattle.vd_machine.proofs.Front.{not_ended}
use Rattle.vd_world.specs.Hosts.{HostKept, gone_unseen, local_of, local_or_nobody, lists_of, world_of, supply_of, steps_left, Reaches, is_step, can_step, turned}
use Rattle.vd_world.proofs.Hearing.{goes_alone}
use Rattle.vd_world.proofs.Rounds.{ended_past, reach_on, reach_refl, reach_trans}
use Rattle.vd_world.proofs.Worlds.{world_set}

-- a host in another state, of which nothing was seen
abbrev standing : Local → State → Local
standing l t = record l { state = t }

-- the state after a quiet step
abbrev after_one : Lists → State → State
after_one l s = next s (words_for l s.cursors [] (need s))

put_self : (w : World) (h : ℕ) → put w h (w h) ≡ w
put_self w h = fun_ext (λ j. elim (same_or_not j h) [ inl s ↦ ap (put w h (w h)) s ∙ put_same w h (w h) ∙ sym (ap w s) | inr d ↦ put_other w h (w h) j d ])

put_again : (w : World) (h : ℕ) (a b : Local) → put (put w h a) h b ≡ put w h b
put_again w h a b =
    fun_ext (λ j. elim (same_or_not j h) [
      | inl s ↦ ap (put (put w h a) h b) s ∙ put_same (put w h a) h b ∙ sym (ap (put w h b) s ∙ put_same w h b)
      | inr d ↦ put_other (put w h a) h b j d ∙ put_other w h a j d ∙ sym (put_other w h b j d)
    ])

quiet_step : (s : Supply) (w : World) (h : ℕ) (l : Lists) → s h ≡ items_of l → IsQuiet l (w h).state → step s h w ≡ Some (put w h (standing (w h) (after_one l (w h).state)))
quiet_step s w h l items q =
    let m = (w h).state in
    let given_is = (goes_alone (given s w h (w h)) l m.cursors (need m) items (sym q.wants)).given in
    ap (with_answer w h (w h)) given_is ∙ ap (λ d. Some (put w h (done (w h) (after_one l m) d))) q.unseen

ended_on : (n : ℕ) (w : World) (h : ℕ) (l : Lists) (k : Local) → EndedFrom n w → IsQuiet l (w h).state → EndedFrom n (put w h k)
ended_on n w h l k ended q j far =
    elim (same_or_not j h) [
      | inl e ↦ absurd (not_ended l (w h).state q (ap (need_of (w h).state.registers) (ap (λ i. (w i).state.pending) (sym e) ∙ ended j far)))
      | inr d ↦ ap (λ x. x.state.pending) (put_other w h k j d) ∙ ended j far
    ]

-- what so many quiet steps of a host come to
record Quieter (s : Supply) (n k : ℕ) (w v : World) : Type 0 where
  reached : Reaches s w v
  falls : left n v + k ≤ left n w

quieter : (k : ℕ) (s : Supply) (n h : ℕ) (w : World) (l : Lists) (t : State) → s h ≡ items_of l → EndedFrom n w → QuietSteps l k (w h).state t → Quieter s n k w (put w h (standing (w h) t))
quieter zero s n h w l t items ended e =
    let same : put w h (standing (w h) t) ≡ w = ap (λ x. put w h (standing (w h) x)) e ∙ put_self w h in
    let less = ap (left n) same in
    record { reached = ([], same); falls = omega (arith, less) }
quieter (suc k) s n h w l t items ended p =
    let m = after_one l (w h).state in
    let u = put w h (standing (w h) m) in
    let one : step s h w ≡ Some u = quiet_step s w h l items p.0 in
    let here : u h ≡ standing (w h) m = put_same w h (standing (w h) m) in
    let more = quieter k s n h u l t items (ended_on n w h l (standing (w h) m) ended p.0) (subst (λ x. QuietSteps l k x t) (sym (ap (λ (x : Local). x.state) here)) p.1) in
    let same : put u h (standing (u h) t) ≡ put w h (standing (w h) t) = ap (λ x. put u h (standing x t)) here ∙ put_again w h (standing (w h) m) (standing (w h) t) in
    let fell : left n u < left n w = step_falls s n h w u ended one in
    let far : left n (put u h (standing (u h) t)) + k ≤ left n u = more.falls in
    let is = ap (left n) same in
    record {
      reached = reach_trans s w u (put w h (standing (w h) t)) (h ∷ [], sym (ap (λ o. after o w) one)) (subst (λ x. Reaches s u x) same more.reached);
      falls = omega (arith, fell, far, is);
    }

-- what a host's run through quiet steps makes of all hosts
pub record Ran (hosts later : List HostKept) : Type 0 where
  pub reached : Reaches (supply_of hosts) (world_of hosts) (world_of later)
  pub no_more : left (length hosts) (world_of later) ≤ left (length hosts) (world_of hosts)

pub ran_on : (hosts : List HostKept) (h : ℕ) (k new : HostKept) → slice_get hosts h ≡ Some k → new ≡ gone_unseen k new.machine → Quietly k.machine.lists (state_of k.machine) (state_of new.machine)
    → Ran hosts (slice_set hosts h new)
ran_on hosts h k new there rest ran =
    let w = world_of hosts in
    let n = length hosts in
    let l = k.machine.lists in
    let t = state_of new.machine in
    let here : w h ≡ local_of k = ap local_or_nobody there in
    let items : supply_of hosts h ≡ items_of l = ap lists_of there in
    let is : world_of (slice_set hosts h new) ≡ put w h (standing (w h) t) =
    world_set hosts h k new there ∙ ap (put w h) (ap local_of rest ∙ ap (λ x. standing x t) (sym here)) in
    let steps = subst (λ x. QuietSteps l ran.0 x t) (sym (ap (λ (x : Local). x.state) here)) ran.1 in
    let r = quieter ran.0 (supply_of hosts) n h w l t items (ended_past hosts) steps in
    let far : left n (put w h (standing (w h) t)) + ran.0 ≤ left n w = r.falls in
    let e : left n (world_of (slice_set hosts h new)) ≡ left n (put w h (standing (w h) t)) = ap (left n) is in
    record { reached = subst (λ x. Reaches (supply_of hosts) w x) (sym is) r.reached; no_more = omega (arith, far, e) }

-- ---- a step of a host, and what nobody sees behind it

pub record GoneOn (hosts later : List HostKept) : Type 0 where
  pub reached : Reaches (supply_of hosts) (world_of hosts) (world_of later)
  pub falls : steps_left later < steps_left hosts

went : (o : Option World) (s : Supply) (n at : ℕ) (w u v : World) → EndedFrom n w → step s at w ≡ o → is_step o ≡ true → u ≡ after (step s at w) w → Reaches s u v → left n v ≤ left n u
    → Reaches s w v × (left n v < left n w)
went None s n at w u v ended e moves is reached most = absurd cc
went (Some x) s n at w u v ended e moves is reached most =
    let same : u ≡ x = is ∙ ap (λ o. after o w) e in
    let fell : left n x < left n w = step_falls s n at w x ended e in
    let lu : left n u ≡ left n x = ap (left n) same in
    (reach_trans s w u v (reach_on s at w w u (reach_refl s w) is) reached, omega (arith, fell, most, lu))

pub gone_on : (at : ℕ) (hosts mid later : List HostKept) → supply_of mid ≡ supply_of hosts → length mid ≡ length hosts → length later ≡ length mid
    → world_of mid ≡ turned hosts at → can_step hosts at ≡ true → Reaches (supply_of mid) (world_of mid) (world_of later) → steps_left later ≤ steps_left mid → GoneOn hosts later
gone_on at hosts mid later supply many most is can reached no_more =
    let s = supply_of hosts in
    let n = length hosts in
    let a : steps_left later ≡ left n (world_of later) = ap (λ x. left x (world_of later)) (most ∙ many) in
    let b : steps_left mid ≡ left n (world_of mid) = ap (λ x. left x (world_of mid)) many in
    let less : left n (world_of later) ≤ left n (world_of mid) = omega (arith, a, b, no_more) in
    let r = went (step s at (world_of hosts)) s n at (world_of hosts) (world_of mid) (world_of later) (ended_past hosts) refl can is
    (subst (λ x. Reaches x (world_of mid) (world_of later)) supply reached) less in
    let fell : left n (world_of later) < left n (world_of hosts) = r.1 in
    record { reached = r.0; falls = omega (arith, a, fell) }

-- a host that can not step leaves all as it was
pub waited : (o : Option World) (w v : World) → is_step o ≡ false → v ≡ after o w → v ≡ w
waited None w v stays e = e
waited (Some x) w v stays e = absurd cc

no_step : (o : Option World) → is_step o ≡ false → o ≡ None
no_step None e = refl
no_step (Some x) e = absurd cc

pub cannot_step : (s : Supply) (at : ℕ) (w : World) → is_step (step s at w) ≡ false → step s at w ≡ None
cannot_step s at w e = no_step (step s at w) e
