-- Runs of what steps on words that it hears, and what others see of them.
use Rattle.std.specs.Prelude.{◌≡◌, ℕ, ◌+◌, List, [], ◌∷◌, ◌++◌, length, flat_map, if◌then◌else◌, nat_eq}
use Rattle.vd_execution.specs.Step.{Deed, Quiet, Said, Heard, Printed as Shows}
use Rattle.vd_machine.specs.declared.want.Want.{Want}
use Rattle.vd_machine.specs.declared.want.Want.TheVariants as want
use Rattle.vd_base.specs.Words.{AreWords}

-- these words, numbers of 32 bits, are what is wanted
abbrev pub IsHeard : Want → List ℕ → Type 0
IsHeard want.Nothing heard = heard ≡ []
IsHeard (want.Words host count) heard = (length heard ≡ count) × AreWords heard
IsHeard other heard = ⊥

-- a packet that was received, a packet that was sent, a word that was printed
pub data Event : Type 0 where
  Received : (host : ℕ) (words : List ℕ) → Event
  Sent : (host : ℕ) (words : List ℕ) → Event
  Printed : (word : ℕ) → Event

abbrev pub received_in : Want → List ℕ → List Event
received_in (want.Words host count) heard = Received host.0 heard ∷ []
received_in other heard = []

abbrev pub shown : Deed → List Event
shown Quiet = []
shown (Said peer words) = Sent peer words ∷ []
shown (Heard peer) = []
shown (Shows word) = Printed word ∷ []

-- What steps is given by what it wants, where a step leads on the words that it heard, and what it does then. After so
-- many steps from the start, with these events, it is here.
pub data Reached {M : Type 0} (wants : M → Want) (next : M → List ℕ → M) (does : M → Deed) (start : M) : ℕ → List Event → M → Type 0 where
  AtStart : Reached wants next does start 0 [] start
  OneMore : (steps : ℕ) (events : List Event) (machine : M) (heard : List ℕ) → Reached wants next does start steps events machine → IsHeard (wants machine) heard
      → Reached wants next does start (steps + 1) (events ++ (received_in (wants machine) heard ++ shown (does machine))) (next machine heard)

-- the packets that were received from a host, those that were sent to it, and the words that were printed
abbrev pub packet_from : ℕ → Event → List (List ℕ)
packet_from host (Received other words) = if nat_eq other host then words ∷ [] else []
packet_from host event = []

abbrev pub packet_to : ℕ → Event → List (List ℕ)
packet_to host (Sent other words) = if nat_eq other host then words ∷ [] else []
packet_to host event = []

abbrev pub word_of : Event → List ℕ
word_of (Printed word) = word ∷ []
word_of event = []

abbrev pub received_from : ℕ → List Event → List (List ℕ)
received_from host events = flat_map (packet_from host) events

abbrev pub sent_to : ℕ → List Event → List (List ℕ)
sent_to host events = flat_map (packet_to host) events

abbrev pub printed : List Event → List ℕ
printed events = flat_map word_of events
