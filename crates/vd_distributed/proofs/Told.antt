-- Hosts that are driven by themselves are on the way to the end of the joint run.
use Rattle.std.proofs.Common.{◌≡◌, ◌≢◌, ℕ, nat_eq, List, [], ◌∷◌, length, Option, Some, None, inl, inr, refl, sym, ap, ◌∙◌, subst, arith}
use Rattle.std.proofs.lemmas.Bool.Decides.{eqb_tells}
use Rattle.std.specs.Prelude.{slice_get}
use Rattle.vd_execution.specs.Code.{Code, Finished}
use Rattle.vd_execution.specs.Step.{State, Need, Nothing, Item, Packet, Unequal, Ended, Given, Cursors, answer, of_length, need}
use Rattle.vd_execution.specs.World.{Local, World, Supply, IsPrefixOf, IsWrong, IsShortAt, front, given}
use Rattle.vd_execution.specs.Joint.{Joint, fresh, resting, at_end}
use Rattle.vd_execution.specs.Claims.{RunsWell, Suffices, IsOnTheWay, last_of}
use Rattle.vd_execution.proofs.Front.{stepped}
use Rattle.vd_machine.specs.declared.lists.Lists.{Lists}
use Rattle.vd_engine.specs.Events.{Event, received_from, sent_to, printed}
use Rattle.vd_reorder.specs.Hastening.{AreHastened}
use Rattle.vd_reorder.proofs.Front.{hastened_never_short}
use Rattle.vd_reorder.specs.Hastened.{AreHistoriesFrom, stand_from}
use Rattle.vd_reorder.proofs.Front.{ended_whole, on_the_way, reached_from}
use Rattle.vd_distributed.specs.AllHosts.{AreDriven, AreTold, WaitsFor, WaitingHostsHaveEnded}
use Rattle.vd_distributed.proofs.Steps.{Trace, traced}

pub all_traced : (s : Supply) (codes : ℕ → Code) (lists : ℕ → Lists) (events : ℕ → List Event) (state : ℕ → State) → AreDriven s codes lists events state → (h : ℕ)
    → Trace s h (resting codes fresh h) (events h) (state h)
all_traced s codes lists events state d h = traced s h (lists h) codes (d.supplied h) (d.steps h) (events h) (state h) (d.reached h)

-- a packet of another length at the front is wrong
wrong_packet : (w : World) (h : ℕ) (l : Local) (n : Need) (p count : ℕ) (words : List ℕ) → n ≡ Packet p count → front w h l p ≡ Some words → length words ≢ count → IsWrong w h l n
wrong_packet w h l n p count words is at other = subst (λ (x : Need). IsWrong w h l x) (sym is) (words, at, other)

length_is : (words : List ℕ) (n : ℕ) → (length words ≢ n → ⊥) → length words ≡ n
length_is words n never = elim (eqb_tells (length words) n) [ inl p ↦ p.1 | inr p ↦ absurd (never p.1) ]

-- behind its last place a list has nothing
none_behind : {X : Type 0} (xs : List X) → slice_get xs (length xs) ≡ None
none_behind [] = refl
none_behind (x ∷ xs) = none_behind xs

module _ (s : Supply) (j : Joint) (n : ℕ) (codes : ℕ → Code) (lists : ℕ → Lists) (events : ℕ → List Event) (state : ℕ → State) (well : RunsWell s j) (are : AreHastened n j codes)
    (d : AreDriven s codes lists events state) (t : (h : ℕ) → Trace s h (resting codes fresh h) (events h) (state h)) where
  abbrev words : ℕ → List (List ℕ)
  words h = (t h).words

  abbrev w : World
  w = stand_from (resting codes fresh) words

  histories : AreHistoriesFrom s (resting codes fresh) words
  histories = record {
    each = λ h. (t h).goes;
    linked = λ h. (t h).links (λ p. (w p).sent h) (λ p. subst (λ q. IsPrefixOf (received_from p (events h)) q) (sym ((t p).sends h)) (d.linked p h));
  }

  way : IsOnTheWay s w (last_of s j)
  way = on_the_way s j n codes words well are histories

  needs : (h : ℕ) → need (w h).state ≡ need (state h)
  needs h = ap (λ (q : State). need q) (t h).state_is

  over : (h : ℕ) → (state h).pending ≡ Finished → w h ≡ at_end (last_of s j) h
  over h e = ended_whole s j n codes words well are histories h (ap (λ (q : State). q.pending) (t h).state_is ∙ e)

  -- the packet at the front of a queue
  front_is : (h p : ℕ) → front w h (w h) p ≡ slice_get (sent_to h (events p)) (length (received_from p (events h)))
  front_is h p = ap (λ (q : List (List ℕ)). slice_get q ((w h).taken p)) ((t p).sends h) ∙ ap (λ (i : ℕ). slice_get (sent_to h (events p)) i) ((t h).takes p)

  from_traces : AreTold s j events state
  from_traces = record {
    prints = λ h. subst (λ q. IsPrefixOf q (last_of s j h).printed) (t h).prints (way.printed h);
    sends = λ h p. subst (λ q. IsPrefixOf q ((last_of s j h).sent p)) ((t h).sends p) (way.sent h p);
    equal = λ h x y e. way.faultless h (subst (λ (n : Need). IsWrong w h (w h) n) (sym (needs h ∙ e)) tt);
    counted = λ h p n xs e at. length_is xs n (λ other. way.faultless h (wrong_packet w h (w h) (need (w h).state) p n xs (needs h ∙ e) (front_is h p ∙ at) other));
    all_printed = λ h e. sym (t h).prints ∙ ap (λ (l : Local). l.printed) (over h e);
    all_sent = λ h p e. sym ((t h).sends p) ∙ ap (λ (l : Local). l.sent p) (over h e);
  }

  -- a host that waits cannot step
  no_answer : (h : ℕ) (c : Cursors) (n : Need) (xs : List ℕ) → WaitsFor events h n → answer (given s w h (w h)) c n ≡ Some xs → ⊥
  no_answer h c Nothing xs waits e = waits
  no_answer h c (Item source) xs waits e = waits
  no_answer h c (Packet p n) xs waits e =
      let none : front w h (w h) p ≡ None = front_is h p ∙ ap (λ (q : List (List ℕ)). slice_get (sent_to h (events p)) (length q)) waits ∙ none_behind (sent_to h (events p)) in
      let no : of_length n (front w h (w h) p) ≡ None = ap (of_length n) none in
      absurd cc
  no_answer h c (Unequal x y) xs waits e = waits
  no_answer h c Ended xs waits e = absurd cc

  all_ended : Suffices s (last_of s j) → ((h : ℕ) → WaitsFor events h (need (state h))) → (h : ℕ) → (state h).pending ≡ Finished
  all_ended enough waits =
      elim way.goes_on [
        | inl all ↦ λ h. ap (λ (q : State). q.pending) (sym (t h).state_is) ∙ all h
        | inr (inl can) ↦
            let a = stepped s can.0 w can.1.0 can.1.1 in
            absurd (no_answer can.0 (w can.0).state.cursors (need (w can.0).state) a.words (subst (λ (n : Need). WaitsFor events can.0 n) (sym (needs can.0)) (waits can.0)) a.able)
        | inr (inr short) ↦
            let b = reached_from s j n codes words well are histories in
            absurd (hastened_never_short s j n codes b.0 short.0 (record { well = well; enough = enough }) are
            (subst (λ (l : Local). IsShortAt (s short.0) l.state.cursors (need l.state)) (sym (b.1 short.0)) short.1))
      ]

pub told : (s : Supply) (j : Joint) (n : ℕ) (codes : ℕ → Code) (lists : ℕ → Lists) (events : ℕ → List Event) (state : ℕ → State) → RunsWell s j → AreHastened n j codes
    → AreDriven s codes lists events state → AreTold s j events state
told s j n codes lists events state well are d = from_traces s j n codes lists events state well are d (all_traced s codes lists events state d)

pub waiting_ended : WaitingHostsHaveEnded
waiting_ended s j n codes lists events state well enough are d waits = all_ended s j n codes lists events state well are d (all_traced s codes lists events state d) enough waits
