-- What each host did by itself, and links that give what was sent, in order.
use Rattle.std.specs.Prelude.{◌≡◌, ℕ, Option, Some, List, [], ◌∷◌, length, slice_get}
use Rattle.vd_execution.specs.Code.{Finished}
use Rattle.vd_execution.specs.Step.{Source, Cursors, Need, Nothing, Item, Packet, Unequal, Ended, need}
use Rattle.vd_execution.specs.World.{Local, World, Supply, moved_on}
use Rattle.vd_execution.specs.Joint.{Joint, started, at_end}
use Rattle.vd_execution.specs.Claims.{RunsWell, IsOnTheWay, reached, last_of}

-- the words with which a host goes on: an item of its own lists, or any packet of the awaited length
abbrev pub GetsFor : (Source → ℕ → Option (List ℕ)) → Cursors → Need → List ℕ → Type 0
GetsFor items c Nothing xs = xs ≡ []
GetsFor items c (Item source) xs = items source (c source) ≡ Some xs
GetsFor items c (Packet p n) xs = length xs ≡ n
GetsFor items c (Unequal x y) xs = ⊥
GetsFor items c Ended xs = ⊥

abbrev pub Gets : Supply → ℕ → Local → List ℕ → Type 0
Gets s h l xs = GetsFor (s h) l.state.cursors (need l.state) xs

-- a host goes on with these words, step by step
abbrev pub Goes : Supply → ℕ → Local → List (List ℕ) → Type 0
Goes s h l [] = Unit {0}
Goes s h l (xs ∷ rest) = Gets s h l xs × Goes s h (moved_on l xs) rest

-- where it then stands
abbrev pub gone : Local → List (List ℕ) → Local
gone l [] = l
gone l (xs ∷ rest) = gone (moved_on l xs) rest

-- a packet that it takes from a peer is the one that stands at that place of what the peer sent it
abbrev pub TakesSent : (ℕ → List (List ℕ)) → Local → Need → List ℕ → Type 0
TakesSent sent l Nothing xs = Unit {0}
TakesSent sent l (Item source) xs = Unit {0}
TakesSent sent l (Packet p n) xs = slice_get (sent p) (l.taken p) ≡ Some xs
TakesSent sent l (Unequal x y) xs = Unit {0}
TakesSent sent l Ended xs = Unit {0}

abbrev pub IsLinked : (ℕ → List (List ℕ)) → Local → List (List ℕ) → Type 0
IsLinked sent l [] = Unit {0}
IsLinked sent l (xs ∷ rest) = TakesSent sent l (need l.state) xs × IsLinked sent (moved_on l xs) rest

-- where all hosts stand that went on so from their starts
abbrev pub stand : Joint → (ℕ → List (List ℕ)) → World
stand j words h = gone (started j h) (words h)

-- Each host went on from its start, on its own lists and on whatever packets; and the packets that a host took from another are
-- those that this one sent to it, one after the other. Nothing is said of when.
pub record AreHistories (s : Supply) (j : Joint) (words : ℕ → List (List ℕ)) : Type 0 where
  pub each : (h : ℕ) → Goes s h (started j h) (words h)
  pub linked : (h : ℕ) → IsLinked (λ p. (stand j words p).sent h) (started j h) (words h)

-- Such hosts stand where some schedule leads them.
abbrev pub HistoriesAreReached : Type 0
HistoriesAreReached = (s : Supply) (j : Joint) (words : ℕ → List (List ℕ)) → RunsWell s j → AreHistories s j words
    → (b : List ℕ) × ((h : ℕ) → reached s j b h ≡ stand j words h)

-- So all holds of them that holds under every schedule.
abbrev pub HistoriesAreOnTheWay : Type 0
HistoriesAreOnTheWay = (s : Supply) (j : Joint) (words : ℕ → List (List ℕ)) → RunsWell s j → AreHistories s j words → IsOnTheWay s (stand j words) (last_of s j)

-- A host among them that has ended did all that the joint run has it do, wherever the others stand.
abbrev pub EndedHostsAreWhole : Type 0
EndedHostsAreWhole = (s : Supply) (j : Joint) (words : ℕ → List (List ℕ)) → RunsWell s j → AreHistories s j words
    → (h : ℕ) → (stand j words h).state.pending ≡ Finished → stand j words h ≡ at_end (last_of s j) h
