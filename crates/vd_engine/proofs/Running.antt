-- Steps that nobody sees, while a host is driven.
use Rattle.std.proofs.Common.{arith, ◌≡◌, ◌<◌, ◌≤◌, ◌+◌, ◌++◌, ℕ, zero, suc, List, [], length, refl, sym, ap, subst, ◌∙◌}
use Rattle.vd_execution.specs.Code.{weight}
use Rattle.vd_execution.specs.Step.{State, need, deed, next}
use Rattle.vd_machine.specs.Dids.{seen}
use Rattle.vd_machine.specs.Kept.{Kept, state_of}
use Rattle.vd_machine.specs.Machines.{words_for}
use Rattle.vd_machine.specs.Quietly.{IsQuiet, QuietSteps, Quietly}
use Rattle.vd_machine.specs.declared.lists.Lists.{Lists}
use Rattle.vd_machine.specs.declared.want.Want.{Want}
use Rattle.vd_machine.proofs.Front.{step_falls}
use Rattle.vd_outside.specs.Link.{LinkView}
use Rattle.vd_outside.specs.Sink.{SinkView}
use Rattle.vd_engine.specs.Drives.{AreSound, CarriesAll, Writes, sessions_of}
use Rattle.vd_engine.specs.Events.{Event, IsHeard, received_in, shown, printed}
use Rattle.vd_engine.specs.Hosts.{PacketsAreWith, next_with, seen_at, stands_in, wants_with}
use Rattle.vd_engine.specs.Turning.{Goes}
use Rattle.vd_engine.specs.declared.links.Links.{Links}
use Rattle.vd_engine.proofs.Codes.{still_with}
use Rattle.vd_engine.proofs.Driving.{Driven, driven_more, same_count}
use Rattle.vd_engine.proofs.Going.{Going}
use Rattle.vd_engine.proofs.Turns.{carries_none, writes_none}

-- a host was driven to this state
record Stands {L : Type 0} (view : L → LinkView) (start : Kept) (s : State) (first links : Links L) (ob om : SinkView) (count : ℕ) : Type 0 where
  driven : Driven (wants_with start.lists) (next_with start.lists) seen_at (state_of start) s (sessions_of view first) (sessions_of view links) ob om count
  packets : PacketsAreWith (stands_in links) s.pending
  fuel : count + weight s.pending ≤ weight (state_of start).pending

no_events : (l : Lists) (s : State) → IsQuiet l s → received_in (wants_with l s) [] ++ shown (seen_at s) ≡ []
no_events l s q = ap (λ (w : Want). received_in w [] ++ shown (seen_at s)) q.wants ∙ ap (λ d. [] ++ shown (seen d)) q.unseen

one_on : {L : Type 0} (view : L → LinkView) (start : Kept) (s : State) (first links : Links L) (ob om : SinkView) (count : ℕ) → AreSound view links
    → IsQuiet start.lists s → Stands view start s first links ob om count → Stands view start (next_with start.lists s []) first links ob om count
one_on view start s first links ob om count sound q a =
    let l = start.lists in
    let none = no_events l s q in
    let less : weight (next_with l s []).pending < weight s.pending = step_falls l s (words_for l s.cursors [] (need s)) q in
    let fuel = a.fuel in
    let goes : Goes (wants_with l) (next_with l) seen_at s (next_with l s []) (sessions_of view links) (sessions_of view links) om om 0 = record {
      heard = [];
      wanted = subst (λ (w : Want). IsHeard w []) (sym q.wants) refl;
      moved = refl;
      kept = subst (λ (e : List Event). CarriesAll e (sessions_of view links) (sessions_of view links)) (sym none) (carries_none (sessions_of view links) sound);
      written = subst (λ (e : List Event). Writes e om om) (sym none) (writes_none om);
      counted = ap (λ (e : List Event). length (printed e)) none;
    } in
    record {
      driven = same_count (wants_with l) (next_with l) seen_at (state_of start) (next_with l s []) (sessions_of view first) (sessions_of view links) ob om count
          (driven_more (wants_with l) (next_with l) seen_at (state_of start) s (next_with l s []) (sessions_of view first) (sessions_of view links) (sessions_of view links) ob om om count 0 a.driven goes);
      packets = still_with (stands_in links) s.registers s.pending a.packets;
      fuel = omega (arith, less, fuel);
    }

many_on : {L : Type 0} (n : ℕ) (view : L → LinkView) (start : Kept) (s t : State) (first links : Links L) (ob om : SinkView) (count : ℕ) → AreSound view links
    → QuietSteps start.lists n s t → Stands view start s first links ob om count → Stands view start t first links ob om count
many_on zero view start s t first links ob om count sound e a = subst (λ (x : State). Stands view start x first links ob om count) (sym e) a
many_on (suc n) view start s t first links ob om count sound p a =
    many_on n view start (next_with start.lists s []) t first links ob om count sound p.1 (one_on view start s first links ob om count sound p.0 a)

-- a host that was driven ran on by itself
pub goes_unseen : {L : Type 0} (view : L → LinkView) (start host after : Kept) (first links : Links L) (ob om : SinkView) (count : ℕ)
    → Going view start host first links ob om count → after.lists ≡ host.lists → Quietly host.lists (state_of host) (state_of after) → Going view start after first links ob om count
goes_unseen view start host after first links ob om count going same ran =
    let a = many_on ran.0 view start (state_of host) (state_of after) first links ob om count going.sound
    (subst (λ (l : Lists). QuietSteps l ran.0 (state_of host) (state_of after)) going.lists ran.1) (record { driven = going.driven; packets = going.packets; fuel = going.fuel }) in
    record { lists = same ∙ going.lists; driven = a.driven; packets = a.packets; sound = going.sound; fuel = a.fuel }

pub falls_on : (k m n : ℕ) → k < m → m ≤ n → k < n
falls_on k m n h g = omega (arith, h, g)
