-- A host goes on as it does in the joint run, so that what comes next there is what it wants next.
use Rattle.std.proofs.Common.{◌≡◌, ℕ, List, [], ◌∷◌, ◌++◌, length, Option, Some, None, sym, ap, ◌∙◌, subst, arith}
use Rattle.std.specs.Prelude.{IfSome, slice_get}
use Rattle.vd_execution.specs.Code.{Finished}
use Rattle.vd_execution.specs.Step.{Source, State, Cursors, Need, Nothing, Item, Packet, Unequal, Ended, need}
use Rattle.vd_execution.specs.Schedule.{Steps}
use Rattle.vd_execution.specs.World.{Local, World, Supply, IsPrefixOf, effective, moved_on, run, step}
use Rattle.vd_execution.specs.Joint.{Joint, at_end, code_of, started}
use Rattle.vd_execution.specs.Claims.{Suffices, last_of, order_of}
use Rattle.vd_execution.proofs.Front.{in_program_order, run_steps, ended_needs}
use Rattle.vd_machine.specs.declared.lists.Lists.{Lists}
use Rattle.vd_machine.specs.Kept.{at_start}
use Rattle.vd_machine.specs.Machines.{items_of}
use Rattle.vd_machine.specs.Wants.{want_of}
use Rattle.vd_link.specs.Frames.{frames}
use Rattle.vd_link.specs.Laws.{ArePackets}
use Rattle.vd_engine.specs.Drives.{SessionView, Sessions}
use Rattle.vd_engine.specs.Enough.{HasCome, HaveCome, IsThere, PacketComes}
use Rattle.vd_engine.specs.Events.{Event, Reached, received_from}
use Rattle.vd_engine.specs.Hosts.{wants_with, next_with, seen_at}
use Rattle.vd_execution.specs.Histories.{GetsFor, Goes, gone, IsLinked, TakesSent}
use Rattle.vd_distributed.proofs.Steps.{traced}
use Rattle.vd_distributed.proofs.Fronts.{packets_front}
use Rattle.vd_distributed.proofs.Words.{sound_from}
use Rattle.vd_distributed.specs.Linked.{AreOwnHosts}
use Rattle.vd_distributed.specs.Serving.{Brings, IsSentAll, OthersSendEnough}
use Rattle.vd_distributed.proofs.Passing.{passed}
use Rattle.vd_distributed.proofs.Driving.{all_driven, items, packets, wants_nothing}

-- ---- the host goes one way

same_next : (supply : Source → ℕ → Option (List ℕ)) (c : Cursors) (sent : ℕ → List (List ℕ)) (l : Local) (x : Need) (xs ys : List ℕ) → GetsFor supply c x xs → GetsFor supply c x ys
    → TakesSent sent l x xs → TakesSent sent l x ys → ys ≡ xs
same_next supply c sent l Nothing xs ys e f t u = f ∙ sym e
same_next supply c sent l (Item source) xs ys e f t u = cc (e, f)
same_next supply c sent l (Packet p n) xs ys e f t u = cc (t, u)
same_next supply c sent l (Unequal a b) xs ys e f t u = absurd e
same_next supply c sent l Ended xs ys e f t u = absurd e

module _ (s : Supply) (h : ℕ) (sent : ℕ → List (List ℕ)) where
  -- with these words the host goes on to its end
  record Rest (l : Local) : Type 0 where
    words : List (List ℕ)
    goes : Goes s h l words
    linked : IsLinked sent l words
    ends : (gone l words).state.pending ≡ Finished

  rest_of : (l : Local) (xs ys : List (List ℕ)) → Goes s h l xs → IsLinked sent l xs → Goes s h l ys → IsLinked sent l ys → (gone l ys).state.pending ≡ Finished → Rest (gone l xs)
  rest_of l [] ys gx lx gy ly end = record { words = ys; goes = gy; linked = ly; ends = end }
  rest_of l (x ∷ xs) [] gx lx gy ly end = absurd (subst (λ (n : Need). GetsFor (s h) l.state.cursors n x) (ended_needs l end) gx.0)
  rest_of l (x ∷ xs) (y ∷ ys) gx lx gy ly end =
      let same : y ≡ x = same_next (s h) l.state.cursors sent l (need l.state) x y gx.0 gy.0 lx.0 ly.0 in
      rest_of (moved_on l x) xs ys gx.1 lx.1 (subst (λ (q : List ℕ). Goes s h (moved_on l q) ys) same gy.1) (subst (λ (q : List ℕ). IsLinked sent (moved_on l q) ys) same ly.1)
      (subst (λ (q : List ℕ). (gone (moved_on l q) ys).state.pending ≡ Finished) same end)

-- ---- what comes next

next_is : {X : Type 0} (xs zs : List X) (z : X) → slice_get (xs ++ zs) (length xs) ≡ Some z → (after : List X) × (zs ≡ z ∷ after)
next_is [] [] z e = absurd (cc e)
next_is [] (y ∷ zs) z e = let same : y ≡ z = cc e in (zs, λ i. same i ∷ zs)
next_is (x ∷ xs) zs z e = next_is xs zs z e

nothing_at : (packets : List (List ℕ)) (i : ℕ) (z : List ℕ) → packets ≡ [] → slice_get packets i ≡ Some z → ⊥
nothing_at packets i z none e = let there : slice_get [] i ≡ Some z = ap (λ (l : List (List ℕ)). slice_get l i) (sym none) ∙ e in cc there

-- the packets that were received are the first of those that come
front_of : (received sent : List (List ℕ)) (session : Option SessionView) → ArePackets received → ArePackets sent → HasCome received session → Brings sent session → IsPrefixOf received sent
front_of received sent None fit others come brings = (sent, ap (λ (l : List (List ℕ)). l ++ sent) come)
front_of received sent (Some session) fit others come brings = let f = packets_front received sent come.0 fit others (sym come.1 ∙ brings) in (f.0, f.1)

comes_next : (p count : ℕ) (events : List Event) (sent : List (List ℕ)) (z : List ℕ) (session : Option SessionView) → ArePackets (received_from p events) → ArePackets sent
    → HasCome (received_from p events) session → Brings sent session → length z ≡ count → slice_get sent (length (received_from p events)) ≡ Some z → IfSome session (PacketComes p count events)
comes_next p count events sent z None fit others come brings size at = absurd (nothing_at sent (length (received_from p events)) z brings at)
comes_next p count events sent z (Some session) fit others come brings size at =
    let received = received_from p events in
    let f = packets_front received sent come.0 fit others (sym come.1 ∙ brings) in
    let n = next_is received f.0 z (ap (λ (l : List (List ℕ)). slice_get l (length received)) f.1 ∙ at) in
    record {
      words = z;
      rest = frames n.0;
      counted = size;
      comes = come.1 ∙ ap (λ (l : List ℕ). frames received ++ l) (f.2 ∙ ap frames n.1);
    }

-- ---- all of it

module _ (s : Supply) (j : Joint) (lists : ℕ → Lists) (h : ℕ) (sessions : Sessions) (hosts : AreOwnHosts s j) (enough : Suffices s (last_of s j))
    (supplied : (g : ℕ) (source : Source) (i : ℕ) → s g source i ≡ items_of (lists g) source i) (brought : IsSentAll s j h sessions) where
  abbrev end : World
  end = at_end (last_of s j)

  abbrev sent : ℕ → List (List ℕ)
  sent p = (last_of s j p).sent h

  abbrev count : ℕ
  count = effective s (order_of s j) (started j)

  to_end : Steps (step s) count (started j) end
  to_end = subst (Steps (step s) count (started j)) (in_program_order s j hosts.well enough).0 (run_steps (step s) (order_of s j) (started j))

  sent_packets : (p : ℕ) → ArePackets (sent p)
  sent_packets p = packets s j lists hosts supplied end (all_driven s j lists hosts supplied count end to_end) p h

  module _ (steps : ℕ) (events : List Event) (state : State) (reached : Reached (wants_with (lists h)) (next_with (lists h)) seen_at (at_start (code_of h j)) steps events state) (come : HaveCome sessions events) where
    received_packets : (p : ℕ) → ArePackets (received_from p events)
    received_packets p = (sound_from (lists h) (items s j lists hosts supplied h) (at_start (code_of h j)) (λ r. omega arith) (hosts.numbers h) steps events state reached).received p

    wanted : (l : Local) (x : Need) (z : List ℕ) → ((p : ℕ) → l.taken p ≡ length (received_from p events)) → GetsFor (s h) l.state.cursors x z → TakesSent sent l x z
        → IsThere sessions events (want_of (lists h) l.state.cursors x)
    wanted l Nothing z takes gets at = tt
    wanted l (Item source) z takes gets at = wants_nothing (IsThere sessions events) (lists h) l.state.cursors source z (sym (supplied h source (l.state.cursors source)) ∙ gets) tt
    wanted l (Packet p n) z takes gets at =
        comes_next p n events (sent p) z (sessions p) (received_packets p) (sent_packets p) (come p) (brought p) gets (ap (λ (i : ℕ). slice_get (sent p) i) (sym (takes p)) ∙ at)
    wanted l (Unequal a b) z takes gets at = absurd gets
    wanted l Ended z takes gets at = absurd gets

    there : (l : Local) → ((p : ℕ) → l.taken p ≡ length (received_from p events)) → (words : List (List ℕ)) → Goes s h l words → IsLinked sent l words → (gone l words).state.pending ≡ Finished
        → IsThere sessions events (want_of (lists h) l.state.cursors (need l.state))
    there l takes [] goes linked ends = subst (λ (x : Need). IsThere sessions events (want_of (lists h) l.state.cursors x)) (sym (ended_needs l ends)) tt
    there l takes (z ∷ rest) goes linked ends = wanted l (need l.state) z takes goes.0 linked.0

    all_there : IsThere sessions events (wants_with (lists h) state)
    all_there =
        let t = traced s h (lists h) (λ g. code_of g j) (supplied h) steps events state reached in
        let f = passed s count (started j) end to_end h in
        let linked = t.links sent (λ p. front_of (received_from p events) (sent p) (sessions p) (received_packets p) (sent_packets p) (come p) (brought p)) in
        let r = rest_of s h sent (started j h) t.words f.words t.goes linked f.goes f.linked (ap (λ (l : Local). l.state.pending) f.ends) in
        subst (λ (q : State). IsThere sessions events (wants_with (lists h) q)) t.state_is (there (gone (started j h) t.words) t.takes r.words r.goes r.linked r.ends)

pub others_send_enough : OthersSendEnough
others_send_enough s j lists h sessions hosts enough supplied brought = λ steps events state reached come. all_there s j lists h sessions hosts enough supplied brought steps events state reached come
