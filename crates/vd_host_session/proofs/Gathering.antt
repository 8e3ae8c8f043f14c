-- Peers that are met one after the other.
use Rattle.std.proofs.Common.{arith, ◌≡◌, ◌≢◌, ◌<◌, ◌+◌, ◌^◌, ◌⊎◌, ⊎_elim, ℕ, Bool, true, false, cond, List, [], ◌∷◌, ◌++◌, Option, Some, None, IsSome, IfSome, nat_eq, refl, sym, ap, subst, ◌∙◌}
use Rattle.std.proofs.lemmas.Bool.Decides.{eqb_tells}
use Rattle.std.proofs.lemmas.List.FromFn.{map-range_with_len_more}
use Rattle.std.proofs.lemmas.List.{map-append}
use Rattle.vd_outside.specs.Net.{NetView}
use Rattle.vd_engine.specs.Drives.{IsSound, SessionView, Sessions}
use Rattle.vd_host_session.specs.Histories.{AreOf, Held, NoneMet, OneMet, sessions_with}
use Rattle.vd_host_session.specs.Peers.{Peer, number_at, peer_at}
use Rattle.vd_host_session.specs.Stages.{AreMet, MetOne}
use Rattle.vd_host_session.specs.declared.task.Task.{Task}
use Rattle.vd_host_session.proofs.Numbers.{number_apart, numbers_differ}

-- a session that is found stays where one more is put behind
keeps : (all : List Held) (held : Held) (n : ℕ) (x : SessionView) → sessions_with all n ≡ Some x → sessions_with (all ++ held ∷ []) n ≡ Some x
keeps [] held n x is = absurd cc
keeps (first ∷ all) held n x is = by (nat_eq first.peer.number n) is (λ found. keeps all held n x found)
  where
    by : (b : Bool) → cond b (Some (record { link = first.greeted; received = 36; failed = false })) (sessions_with all n) ≡ Some x
        → (sessions_with all n ≡ Some x → sessions_with (all ++ held ∷ []) n ≡ Some x)
        → cond b (Some (record { link = first.greeted; received = 36; failed = false })) (sessions_with (all ++ held ∷ []) n) ≡ Some x
    by true found rest = found
    by false found rest = rest found

-- one that is not found is that which is put behind, or none
adds : (all : List Held) (held : Held) (n : ℕ) → sessions_with all n ≡ None → sessions_with (all ++ held ∷ []) n ≡ sessions_with (held ∷ []) n
adds [] held n none = refl
adds (first ∷ all) held n none = by (nat_eq first.peer.number n) none (λ missing. adds all held n missing)
  where
    by : (b : Bool) → cond b (Some (record { link = first.greeted; received = 36; failed = false })) (sessions_with all n) ≡ None
        → (sessions_with all n ≡ None → sessions_with (all ++ held ∷ []) n ≡ sessions_with (held ∷ []) n)
        → cond b (Some (record { link = first.greeted; received = 36; failed = false })) (sessions_with (all ++ held ∷ []) n) ≡ sessions_with (held ∷ []) n
    by true found rest = absurd cc
    by false found rest = rest found

-- another number is looked up as before
otherwise : (all : List Held) (held : Held) (n : ℕ) (found : Option SessionView) → nat_eq held.peer.number n ≡ false → sessions_with all n ≡ found → sessions_with (all ++ held ∷ []) n ≡ found
otherwise all held n (Some x) differs is = keeps all held n x is
otherwise all held n None differs is =
    adds all held n is ∙ ap (λ (b : Bool). cond b (Some (record { link = held.greeted; received = 36; failed = false })) None) differs

are_more : (all : List Held) (held : Held) (sessions later : Sessions) → AreOf all sessions → sessions held.peer.number ≡ None
    → later held.peer.number ≡ Some (record { link = held.greeted; received = 36; failed = false }) → ((other : ℕ) → other ≢ held.peer.number → later other ≡ sessions other)
    → AreOf (all ++ held ∷ []) later
are_more all held sessions later are free added others = λ n. ⊎_elim
    (λ (h : (nat_eq held.peer.number n ≡ true) × (held.peer.number ≡ n)). subst (λ (k : ℕ). later k ≡ sessions_with (all ++ held ∷ []) k) h.1
    (added ∙ sym (adds all held held.peer.number (sym (are held.peer.number) ∙ free)
    ∙ ap (λ (b : Bool). cond b (Some (record { link = held.greeted; received = 36; failed = false })) None) (ap (nat_eq held.peer.number) h.1 ∙ h.0))))
    (λ (h : (nat_eq held.peer.number n ≡ false) × (held.peer.number ≢ n)). others n (λ e. h.1 (sym e)) ∙ sym (otherwise all held n (sessions n) h.0 (sym (are n))))
    (eqb_tells held.peer.number n)

pub none_met : (task : Task) (first : ℕ) (net : NetView) (sessions : Sessions) → ((host : ℕ) → sessions host ≡ None) → AreMet task first 0 net net sessions
none_met task first net sessions empty = record {
  all = [];
  peers = refl;
  met = NoneMet;
  are = empty;
  stand = λ place less. absurd (omega arith);
  later = λ place least. empty (number_at task.me.0 place);
  own = empty task.me.0;
}

less_or_same : (place count : ℕ) → place < count + 1 → (place < count) ⊎ (place ≡ count)
less_or_same place count less = grind arith

pub one_more_met : (task : Task) (first count : ℕ) (start net now : NetView) (sessions later : Sessions) → AreMet task first count start net sessions → MetOne task first count net now sessions later
    → AreMet task first (count + 1) start now later
one_more_met task first count start net now sessions later m one = record {
  all = m.all ++ held ∷ [];
  peers = map-append (λ (h : Held). h.peer) m.all (held ∷ []) ∙ ap (λ (l : List Peer). l ++ peer_at task count ∷ []) m.peers ∙ sym (map-range_with_len_more (peer_at task) 0 count count (omega arith));
  met = OneMet m.all held net now m.met one.gets one.greets;
  are = are_more m.all held sessions later m.are (m.later count (omega arith)) one.added one.others;
  stand = λ place less. ⊎_elim
      (λ (h : place < count). subst IsSome (sym (one.others (number_at task.me.0 place) (numbers_differ task.me.0 place count (λ e. omega (arith, h, e))))) (m.stand place h))
      (λ (h : place ≡ count). subst (λ (p : ℕ). IsSome (later (number_at task.me.0 p))) (sym h) (subst IsSome (sym one.added) refl))
      (less_or_same place count less);
  later = λ place least. one.others (number_at task.me.0 place) (numbers_differ task.me.0 place count (λ e. omega (arith, least, e))) ∙ m.later place (omega (arith, least));
  own = one.others task.me.0 (λ e. number_apart task.me.0 count (sym e)) ∙ m.own;
}
  where
    held : Held
    held = record { peer = peer_at task count; given = one.given; greeted = one.greeted }

all_sound : (all : List Held) (n : ℕ) → IfSome (sessions_with all n) (λ session. (session.failed ≡ false) × (session.received < 2 ^ 64))
all_sound [] n = tt
all_sound (first ∷ all) n = by (nat_eq first.peer.number n) (all_sound all n)
  where
    by : (b : Bool) → IfSome (sessions_with all n) (λ session. (session.failed ≡ false) × (session.received < 2 ^ 64))
        → IfSome (cond b (Some (record { link = first.greeted; received = 36; failed = false })) (sessions_with all n)) (λ session. (session.failed ≡ false) × (session.received < 2 ^ 64))
    by true rest = (refl, omega arith)
    by false rest = rest

-- the sessions of peers that were met are sound
pub met_sound : (task : Task) (first count : ℕ) (start now : NetView) (sessions : Sessions) → AreMet task first count start now sessions → IsSound sessions
met_sound task first count start now sessions m =
    λ host. subst (λ (o : Option SessionView). IfSome o (λ session. (session.failed ≡ false) × (session.received < 2 ^ 64))) (sym (m.are host)) (all_sound m.all host)
