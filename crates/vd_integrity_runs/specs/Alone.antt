-- One host by itself: its steps, whatever the others send it.
use Rattle.std.specs.Prelude.{◌≡◌, ℕ, zero, suc, List, [], Some, length}
use Rattle.vd_execution.specs.Step.{Given, Need, Nothing, Item, Packet, Unequal, Ended, State, answer, need, next}
use Rattle.vd_machine.specs.declared.lists.Lists.{Lists}
use Rattle.vd_engine.specs.Events.{Event, Reached}
use Rattle.vd_engine.specs.Hosts.{next_with, seen_at, wants_with}

-- These words may be what is needed: any item, and any packet of that length. Two words that are to be the same and differ are
-- never met, and neither is the end.
abbrev pub MayBe : Need → List ℕ → Type 0
MayBe Nothing words = words ≡ []
MayBe (Item source) words = Unit {0}
MayBe (Packet peer count) words = length words ≡ count
MayBe (Unequal left right) words = ⊥
MayBe Ended words = ⊥

-- the second is the first after so many steps, with whatever words
abbrev pub Goes : ℕ → State → State → Type 0
Goes zero before after = before ≡ after
Goes (suc steps) before after = (words : List ℕ) × (MayBe (need before) words × Goes steps (next before words) after)

-- what a host is given, by its lists and its queues, may be what it needs
abbrev pub AnswersMayBe : Type 0
AnswersMayBe = (given : Given) (state : State) (words : List ℕ) → answer given state.cursors (need state) ≡ Some words → MayBe (need state) words

-- each run of a host over its links goes so, whoever sent it the words that it heard
abbrev pub StepsHear : Type 0
StepsHear = (lists : Lists) (start end : State) (steps : ℕ) (events : List Event)
    → Reached (wants_with lists) (next_with lists) seen_at start steps events end → Goes steps start end
