-- A step of one host among all.
use Rattle.std.proofs.Common.{◌≡◌, ◌≢◌, ℕ, zero, suc, List, [], ◌∷◌, refl, sym, ap, ◌∙◌, subst, inl, inr}
use Rattle.std.specs.Prelude.{Option, Some, None, slice_get, slice_set}
use mathlib.Core.Path.{fun_ext}
use Rattle.vd_execution.specs.Registers.{put}
use Rattle.vd_execution.specs.Schedule.{after}
use Rattle.vd_execution.specs.World.{World, with_host, with_answer, step, moved_on}
use Rattle.vd_execution.proofs.Front.{put_same, put_other, same_or_not}
use Rattle.vd_machine.specs.Machines.{items_of}
use Rattle.vd_world.specs.Hosts.{HostKept, local_of, local_or_nobody, world_of, supply_of, lists_of, gets, given_words, gone_on}

get_set_same : {X : Type 0} (w : List X) (h : ℕ) (l k : X) → slice_get w h ≡ Some l → slice_get (slice_set w h k) h ≡ Some k
get_set_same [] h l k e = cc
get_set_same (x ∷ w) zero l k e = refl
get_set_same (x ∷ w) (suc h) l k e = get_set_same w h l k e

get_set_other : {X : Type 0} (w : List X) (g h : ℕ) (k : X) → g ≢ h → slice_get (slice_set w h k) g ≡ slice_get w g
get_set_other [] g h k ne = refl
get_set_other (x ∷ w) zero zero k ne = absurd (ne refl)
get_set_other (x ∷ w) zero (suc h) k ne = refl
get_set_other (x ∷ w) (suc g) zero k ne = refl
get_set_other (x ∷ w) (suc g) (suc h) k ne = get_set_other w g h k (λ e. ne (ap suc e))

set_at : (hosts : List HostKept) (h : ℕ) (k new : HostKept) → slice_get hosts h ≡ Some k → (j : ℕ) → world_of (slice_set hosts h new) j ≡ put (world_of hosts) h (local_of new) j
set_at hosts h k new there j =
    elim (same_or_not j h) [
      | inl s ↦ ap (λ i. world_of (slice_set hosts h new) i) s ∙ ap local_or_nobody (get_set_same hosts h k new there) ∙ sym (ap (put (world_of hosts) h (local_of new)) s ∙ put_same (world_of hosts) h (local_of new))
      | inr d ↦ ap local_or_nobody (get_set_other hosts j h new d) ∙ sym (put_other (world_of hosts) h (local_of new) j d)
    ]

pub world_set : (hosts : List HostKept) (h : ℕ) (k new : HostKept) → slice_get hosts h ≡ Some k → world_of (slice_set hosts h new) ≡ put (world_of hosts) h (local_of new)
world_set hosts h k new there = fun_ext (set_at hosts h k new there)

stays_at : (hosts : List HostKept) (h : ℕ) (k new : HostKept) → slice_get hosts h ≡ Some k → new.machine.lists ≡ k.machine.lists → (j : ℕ) → supply_of (slice_set hosts h new) j ≡ supply_of hosts j
stays_at hosts h k new there e j =
    elim (same_or_not j h) [
      | inl s ↦
          ap (λ i. supply_of (slice_set hosts h new) i) s ∙ ap lists_of (get_set_same hosts h k new there)
          ∙ ap items_of e ∙ sym (ap (λ i. supply_of hosts i) s ∙ ap lists_of there)
      | inr d ↦ ap lists_of (get_set_other hosts j h new d)
    ]

pub supply_stays : (hosts : List HostKept) (h : ℕ) (k new : HostKept) → slice_get hosts h ≡ Some k → new.machine.lists ≡ k.machine.lists → supply_of (slice_set hosts h new) ≡ supply_of hosts
supply_stays hosts h k new there e = fun_ext (stays_at hosts h k new there e)

pub absent : (hosts : List HostKept) (h : ℕ) → slice_get hosts h ≡ None → step (supply_of hosts) h (world_of hosts) ≡ None
absent hosts h there = ap (with_host (supply_of hosts) (world_of hosts) h) (ap local_or_nobody there)

can : (hosts : List HostKept) (h : ℕ) (k : HostKept) (xs : List ℕ) (new : HostKept) → slice_get hosts h ≡ Some k → gets hosts h k ≡ Some xs → local_of new ≡ moved_on (local_of k) xs
    → step (supply_of hosts) h (world_of hosts) ≡ Some (world_of (slice_set hosts h new))
can hosts h k xs new there e is =
    ap (with_host (supply_of hosts) (world_of hosts) h) (ap local_or_nobody there) ∙ ap (with_answer (world_of hosts) h (local_of k)) e
    ∙ ap Some (ap (put (world_of hosts) h) (sym is) ∙ sym (world_set hosts h k new there))

pub is_after : (w v : World) (o : Option World) → o ≡ Some v → v ≡ after o w
is_after w v o e = ap (λ z. after z w) (sym e)

the_same : (k0 k : HostKept) → Some k0 ≡ Some k → k0 ≡ k
the_same k0 k e = cc

pub same_host : (all : List HostKept) (h : ℕ) (k0 k : HostKept) → slice_get all h ≡ Some k0 → slice_get all h ≡ Some k → k0 ≡ k
same_host all h k0 k there0 there = the_same k0 k (sym there0 ∙ there)

-- the step of a host that heard these words
pub stepped_on : (all hosts : List HostKept) (h : ℕ) (k0 k new : HostKept) (xs : List ℕ) → hosts ≡ all → slice_get all h ≡ Some k0 → slice_get all h ≡ Some k → gets hosts h k0 ≡ Some (given_words k0 xs)
    → local_of new ≡ gone_on k xs → step (supply_of all) h (world_of all) ≡ Some (world_of (slice_set all h new))
stepped_on all hosts h k0 k new xs e there0 there heard is =
    let given : gets all h k ≡ Some (given_words k xs) =
    subst (λ l. gets l h k ≡ Some (given_words k xs)) e (subst (λ x. gets hosts h x ≡ Some (given_words x xs)) (same_host all h k0 k there0 there) heard) in
    can all h k (given_words k xs) new there given is
