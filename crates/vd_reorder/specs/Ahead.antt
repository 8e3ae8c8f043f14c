-- One hastened host on streams of packets.
use Rattle.std.specs.Prelude.{◌≡◌, ℕ, List, None, slice_get}
use Rattle.vd_execution.specs.Code.{Code, Finished}
use Rattle.vd_execution.specs.Step.{Need, Nothing, Item, Packet, Unequal, Ended, of_length, need}
use Rattle.vd_execution.specs.World.{Local, Tape, endless}
use Rattle.vd_execution.specs.Claims.{Grows}
use Rattle.vd_execution.specs.Histories.{Goes, gone, IsLinked}
use Rattle.vd_reorder.specs.Hastening.{at, IsHastened}

-- the second has printed and sent what the first has, and maybe more, and has taken no packet beyond those of the first
pub record IsAhead (l k : Local) : Type 0 where
  pub grows : Grows l k
  pub taken : (p : ℕ) → k.taken p ≡ l.taken p

-- a host comes from its start, on these streams of packets, at least as far as another one has come; where that one waits
-- for a packet it waits for the same, where that one stands at words that differ it stands at them, and where that one has ended it comes
-- to the same end
pub record Reaches (t : Tape) (h : ℕ) (stream : ℕ → List (List ℕ)) (begun old : Local) : Type 0 where
  pub words : List (List ℕ)
  pub goes : Goes (endless t) h begun words
  pub linked : IsLinked stream begun words
  pub ahead : IsAhead old (gone begun words)
  pub waits : (p n : ℕ) → need old.state ≡ Packet p n → need (gone begun words).state ≡ Packet p n
  pub differ : (a b : ℕ) → need old.state ≡ Unequal a b → need (gone begun words).state ≡ Unequal a b
  pub whole : old.state.pending ≡ Finished → gone begun words ≡ old

-- Whatever packets stand in the streams: as far as a host came with its own code, a hastened one comes with the same packets. So on
-- every prefix of the streams it has sent and printed at least as much, and on the whole of them the same.
abbrev pub NeverLater : Type 0
NeverLater = (t : Tape) (h : ℕ) (stream : ℕ → List (List ℕ)) (l : Local) (c d : Code) (words : List (List ℕ)) → IsHastened c d
    → Goes (endless t) h (at l c) words → IsLinked stream (at l c) words → Reaches t h stream (at l d) (gone (at l c) words)

-- a host that nothing but its peers could have kept from going on: the packet that it waits for is not in the stream or has another
-- length, or words that are to be the same differ
abbrev pub IsHeldUpAt : (ℕ → List (List ℕ)) → Local → Need → Type 0
IsHeldUpAt stream l Nothing = ⊥
IsHeldUpAt stream l (Item s) = ⊥
IsHeldUpAt stream l (Packet p n) = of_length n (slice_get (stream p) (l.taken p)) ≡ None
IsHeldUpAt stream l (Unequal x y) = Unit {0}
IsHeldUpAt stream l Ended = ⊥

abbrev pub IsHeldUp : (ℕ → List (List ℕ)) → Local → Type 0
IsHeldUp stream l = IsHeldUpAt stream l (need l.state)

-- a host comes from its start to where it is held up by what holds up another one: the same packet, of so many words, from the same
-- peer, or the same two words
pub record IsHeldUpAlike (t : Tape) (h : ℕ) (stream : ℕ → List (List ℕ)) (begun old : Local) : Type 0 where
  pub words : List (List ℕ)
  pub goes : Goes (endless t) h begun words
  pub linked : IsLinked stream begun words
  pub held : IsHeldUp stream (gone begun words)
  pub needs : need (gone begun words).state ≡ need old.state
  pub taken : (p : ℕ) → (gone begun words).taken p ≡ old.taken p

-- Faults keep their causes: where a host is held up with its own code, a hastened one comes to be held up by the same,
abbrev pub FaultsKeepTheirCauses : Type 0
FaultsKeepTheirCauses = (t : Tape) (h : ℕ) (stream : ℕ → List (List ℕ)) (l : Local) (c d : Code) (words : List (List ℕ)) → IsHastened c d
    → Goes (endless t) h (at l c) words → IsLinked stream (at l c) words → IsHeldUp stream (gone (at l c) words)
    → IsHeldUpAlike t h stream (at l d) (gone (at l c) words)

-- and what holds up a hastened one would hold it up with its own code.
abbrev pub NoFaultIsNew : Type 0
NoFaultIsNew = (t : Tape) (h : ℕ) (stream : ℕ → List (List ℕ)) (l : Local) (c d : Code) (words : List (List ℕ)) → IsHastened c d
    → Goes (endless t) h (at l d) words → IsLinked stream (at l d) words → IsHeldUp stream (gone (at l d) words)
    → IsHeldUpAlike t h stream (at l c) (gone (at l d) words)
