-- Rounds over the hosts.
use Rattle.std.proofs.Common.{◌≡◌, ℕ, ◌+◌, ◌<◌, ◌≤◌, Bool, true, false, subst, List, [], ◌∷◌, ◌++◌, length, refl, sym, ap, ◌∙◌, ◌⊎◌, inl, inr, arith}
use Rattle.std.specs.Prelude.{Option, None, if◌then◌else◌}
use Rattle.std.proofs.lemmas.Option.{slice_get_past}
use Rattle.vd_execution.specs.Schedule.{after}
use Rattle.vd_execution.specs.World.{World, Supply, EndedFrom, step, run, left, IsStuck, all_rounds}
use Rattle.vd_execution.specs.Claims.{then_all}
use Rattle.vd_execution.proofs.Front.{one_end, diamond, all_stuck, run_both}
use Rattle.vd_world.specs.Hosts.{HostKept, local_or_nobody, world_of, supply_of, Reaches}
use Rattle.vd_world.proofs.Worlds.{absent}

pub reach_refl : (s : Supply) (w : World) → Reaches s w w
reach_refl s w = ([], refl)

pub reach_trans : (s : Supply) (w u v : World) → Reaches s w u → Reaches s u v → Reaches s w v
reach_trans s w u v p q = (p.0 ++ q.0, q.1 ∙ ap (run s q.0) p.1 ∙ sym (run_both s p.0 q.0 w))

pub reach_on : (s : Supply) (h : ℕ) (w0 w v : World) → Reaches s w0 w → v ≡ after (step s h w) w → Reaches s w0 v
reach_on s h w0 w v r e = reach_trans s w0 w v r (h ∷ [], e)

-- hosts that are not declared have ended
pub ended_past : (hosts : List HostKept) → EndedFrom (length hosts) (world_of hosts)
ended_past hosts h past = ap (λ (o : Option HostKept). (local_or_nobody o).state.pending) (slice_get_past hosts h past)

-- a round that has come to host h
pub record Round (s : Supply) (n : ℕ) (w0 : World) (moved : Bool) (h : ℕ) (w : World) : Type 0 where
  pub reached : Reaches s w0 w
  pub falls : moved ≡ true → left n w < left n w0
  pub no_more : left n w ≤ left n w0
  pub still : moved ≡ false → w ≡ w0
  pub stuck : moved ≡ false → (g : ℕ) → g < h → step s g w ≡ None

same_or_less : (h g : ℕ) → g < h + 1 → (g < h) ⊎ (g ≡ h)
same_or_less h g e = grind arith

round_waits : (s : Supply) (n : ℕ) (w0 w v : World) (moved : Bool) (h : ℕ) → Round s n w0 moved h w → step s h w ≡ None → v ≡ after (step s h w) w → Round s n w0 moved (h + 1) v
round_waits s n w0 w v moved h r e is =
    let z : v ≡ w = is ∙ ap (λ o. after o w) e in
    let lv = ap (left n) z in
    let more = r.no_more in
    record {
      reached = reach_on s h w0 w v r.reached is;
      falls = λ q. let f = r.falls q in omega arith;
      no_more = omega arith;
      still = λ q. z ∙ r.still q;
      stuck = λ q g lt. subst (λ x. step s g x ≡ None) (sym z) (elim (same_or_less h g lt) [ inl p ↦ r.stuck q g p | inr p ↦ ap (λ i. step s i w) p ∙ e ]);
    }

less_or_not : (m n : ℕ) → (m < n) ⊎ (n ≤ m)
less_or_not m n = grind arith

pub round_stuck : (s : Supply) (n : ℕ) (w0 : World) (moved : Bool) (h : ℕ) (hosts : List HostKept) → Round s n w0 moved h (world_of hosts) → supply_of hosts ≡ s → length hosts ≤ h → moved ≡ false → IsStuck s (world_of hosts)
round_stuck s n w0 moved h hosts r supply len e g =
    elim (less_or_not g h) [
      | inl p ↦ r.stuck e g p
      | inr p ↦ ap (λ t. step t g (world_of hosts)) (sym supply) ∙ absent hosts g (slice_get_past hosts g (omega (arith, len, p)))
    ]

-- where none can step, all rounds lead
pub all_are : (s : Supply) (n : ℕ) (w v : World) → EndedFrom n w → Reaches s w v → IsStuck s v → v ≡ then_all s n w
all_are s n w v ended r stuck =
    r.1 ∙ (one_end (step s) (diamond s) w (all_rounds n w) r.0 (all_stuck s n w ended) (subst (IsStuck s) r.1 stuck)).0

-- a host that went on, or that could not step
pub round_goes : (s : Supply) (n : ℕ) (w0 w v : World) (moved b new : Bool) (h : ℕ) → Round s n w0 moved h w → Reaches s w v → (b ≡ true → left n v < left n w) → (b ≡ false → v ≡ w) → (b ≡ false → step s h w ≡ None)
    → new ≡ (if b then true else moved) → Round s n w0 new (h + 1) v
round_goes s n w0 w v moved true new h r reached falls still stuck k =
    let less = falls refl in
    let more = r.no_more in
    subst (λ x. Round s n w0 x (h + 1) v) (sym k) (record { reached = reach_trans s w0 w v r.reached reached; falls = λ q. omega (arith, less, more); no_more = omega (arith, less, more); still = λ q. absurd cc; stuck = λ q. absurd cc })
round_goes s n w0 w v moved false new h r reached falls still stuck k =
    let z : v ≡ w = still refl in
    let e = stuck refl in
    let is : v ≡ after (step s h w) w = z ∙ sym (ap (λ o. after o w) e) in
    subst (λ x. Round s n w0 x (h + 1) v) (sym k) (round_waits s n w0 w v moved h r e is)
