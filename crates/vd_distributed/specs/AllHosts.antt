-- All hosts of a joint code, each driven by itself on what its peers sent. Any of them may have a hastened code.
use Rattle.std.specs.Prelude.{◌≡◌, ℕ, List, Some, length, slice_get}
use Rattle.vd_execution.specs.Code.{Code, Finished}
use Rattle.vd_execution.specs.Step.{Source, State, Need, Nothing, Item, Packet, Unequal, Ended, need}
use Rattle.vd_execution.specs.World.{Supply, IsPrefixOf}
use Rattle.vd_execution.specs.Joint.{Joint}
use Rattle.vd_execution.specs.Claims.{RunsWell, Suffices, last_of}
use Rattle.vd_reorder.specs.Hastening.{AreHastened}
use Rattle.vd_machine.specs.declared.lists.Lists.{Lists}
use Rattle.vd_machine.specs.Kept.{at_start}
use Rattle.vd_machine.specs.Machines.{items_of}
use Rattle.vd_engine.specs.Events.{Event, Reached, received_from, sent_to, printed}
use Rattle.vd_engine.specs.Hosts.{wants_with, next_with, seen_at}

-- Each host made steps of its code, on its own lists, with these events; and the packets that it received from another are a prefix
-- of those that this one sent to it.
pub record AreDriven (s : Supply) (codes : ℕ → Code) (lists : ℕ → Lists) (events : ℕ → List Event) (state : ℕ → State) : Type 0 where
  pub supplied : (h : ℕ) (source : Source) (i : ℕ) → s h source i ≡ items_of (lists h) source i
  pub steps : ℕ → ℕ
  pub reached : (h : ℕ) → Reached (wants_with (lists h)) (next_with (lists h)) seen_at (at_start (codes h)) (steps h) (events h) (state h)
  pub linked : (a b : ℕ) → IsPrefixOf (received_from a (events b)) (sent_to b (events a))

-- Each host printed a prefix of what it prints in the joint run, and sent a prefix of it; none stands at words that differ, or before a
-- packet of another length than it awaits; and one that has ended printed and sent all, wherever the others stand.
pub record AreTold (s : Supply) (j : Joint) (events : ℕ → List Event) (state : ℕ → State) : Type 0 where
  pub prints : (h : ℕ) → IsPrefixOf (printed (events h)) (last_of s j h).printed
  pub sends : (h p : ℕ) → IsPrefixOf (sent_to p (events h)) ((last_of s j h).sent p)
  pub equal : (h x y : ℕ) → need (state h) ≡ Unequal x y → ⊥
  pub counted : (h p n : ℕ) (words : List ℕ) → need (state h) ≡ Packet p n
      → slice_get (sent_to h (events p)) (length (received_from p (events h))) ≡ Some words → length words ≡ n
  pub all_printed : (h : ℕ) → (state h).pending ≡ Finished → printed (events h) ≡ (last_of s j h).printed
  pub all_sent : (h p : ℕ) → (state h).pending ≡ Finished → sent_to p (events h) ≡ (last_of s j h).sent p

abbrev pub DrivenHostsAreTold : Type 0
DrivenHostsAreTold = (s : Supply) (j : Joint) (n : ℕ) (codes : ℕ → Code) (lists : ℕ → Lists) (events : ℕ → List Event) (state : ℕ → State) → RunsWell s j
    → AreHastened n j codes → AreDriven s codes lists events state → AreTold s j events state

-- what is needed is nothing, or a packet from a host of which all came that it has sent here
abbrev pub WaitsFor : (ℕ → List Event) → ℕ → Need → Type 0
WaitsFor events h Nothing = ⊥
WaitsFor events h (Item source) = ⊥
WaitsFor events h (Packet p n) = received_from p (events h) ≡ sent_to h (events p)
WaitsFor events h (Unequal x y) = ⊥
WaitsFor events h Ended = Unit {0}

-- Where the lists suffice, and each host has gone on as far as what was sent to it lets it, so that it has ended or waits for a packet
-- that was not sent yet, all have ended: they are never all waiting for what nobody will send.
abbrev pub WaitingHostsHaveEnded : Type 0
WaitingHostsHaveEnded = (s : Supply) (j : Joint) (n : ℕ) (codes : ℕ → Code) (lists : ℕ → Lists) (events : ℕ → List Event) (state : ℕ → State) → RunsWell s j
    → Suffices s (last_of s j) → AreHastened n j codes → AreDriven s codes lists events state → ((h : ℕ) → WaitsFor events h (need (state h))) → (h : ℕ) → (state h).pending ≡ Finished
