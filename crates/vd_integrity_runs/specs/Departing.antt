-- Runs of some acts in which hosts depart from their programs: what they send may be any words.
use Rattle.std.specs.Prelude.{◌≡◌, ℕ, ◌<◌, Bool, true, List, [], ◌∷◌, length, slice_index}
use Rattle.vd_execution.specs.declared.instructions.Act.{Act}
use Rattle.vd_execution.specs.declared.instructions.Act.TheVariants as act
use Rattle.vd_execution.specs.declared.instructions.Reg.{Reg}
use Rattle.vd_execution.specs.Acts.{run_acts}
use Rattle.vd_execution.specs.Gadgets.{Gadget, acts_of_gadgets}
use Rattle.vd_execution.specs.Joint.{Agrees, Hosts, after_do, has_heard, said_to}
use Rattle.vd_execution.specs.Registers.{put}
use Rattle.vd_execution.specs.Step.{words_in}
use Rattle.vd_execution.specs.World.{Tape}
use Rattle.vd_duet.specs.Calls.{Made, Places}
use Rattle.vd_duet.specs.Laws.{Each}

-- these words go from a host to another
abbrev pub after_telling : ℕ → List ℕ → ℕ → List Reg → Hosts → Hosts
after_telling from words to heard w = put (put w from (said_to to words (w from))) to (has_heard heard words (w to))

-- Words that go from a host to another fill as many registers as are awaited. A host that keeps to its program says what stands
-- in its registers, and one that does not may say anything.
pub record IsSaid (keeps : ℕ → Bool) (from : ℕ) (said heard : List Reg) (w : Hosts) (words : List ℕ) : Type 0 where
  pub own : keeps from ≡ true → words ≡ words_in (w from).registers said
  pub fits : length words ≡ length heard

-- The acts lead from the one state to the other, and no comparison fails at a host that keeps to its program. Of a host that departs
-- the state is the one that it would have: nothing that it sends depends on it.
abbrev pub Runs : (ℕ → Bool) → Tape → List Act → Hosts → Hosts → Type 0
Runs keeps t [] w w' = w' ≡ w
Runs keeps t (act.Do h a ∷ acts) w w' = (keeps h.0 ≡ true → Agrees (w h.0).registers a) × Runs keeps t acts (after_do t h.0 a w) w'
Runs keeps t (act.Msg a said b heard ∷ acts) w w' = (words : List ℕ) × (IsSaid keeps a.0 said heard w words × Runs keeps t acts (after_telling a.0 words b.0 heard w) w')

abbrev pub RunsGadgets : (ℕ → Bool) → Tape → List Gadget → Hosts → Hosts → Type 0
RunsGadgets keeps t gadgets w w' = Runs keeps t (acts_of_gadgets gadgets) w w'

-- a host says this one word each time that it sends
abbrev pub SaysOne : (keeps : ℕ → Bool) (t : Tape) (from word : ℕ) (acts : List Act) (w w' : Hosts) → Runs keeps t acts w w' → Type 0
SaysOne keeps t from word [] w w' runs = Unit {0}
SaysOne keeps t from word (act.Do h a ∷ acts) w w' runs = SaysOne keeps t from word acts (after_do t h.0 a w) w' runs.1
SaysOne keeps t from word (act.Msg a said b heard ∷ acts) w w' runs =
    (a.0 ≡ from → runs.0 ≡ word ∷ []) × SaysOne keeps t from word acts (after_telling a.0 runs.0 b.0 heard w) w' runs.1.1

-- each host that sends keeps to its program
abbrev pub SendersKeep : (ℕ → Bool) → List Act → Type 0
SendersKeep keeps [] = Unit {0}
SendersKeep keeps (act.Do h a ∷ acts) = SendersKeep keeps acts
SendersKeep keeps (act.Msg a said b heard ∷ acts) = (keeps a.0 ≡ true) × SendersKeep keeps acts

-- Then the run is the joint run.
abbrev pub KeepersRunTogether : Type 0
KeepersRunTogether = (keeps : ℕ → Bool) (t : Tape) (acts : List Act) (w w' : Hosts) → SendersKeep keeps acts → Runs keeps t acts w w' → w' ≡ run_acts t acts w

-- the registers that are not free keep their words
abbrev pub AreStill : List ℕ → Hosts → Hosts → Type 0
AreStill next w w' = (h r : ℕ) → r < slice_index next h → (w' h).registers r ≡ (w h).registers r

-- the word is right at each of these hosts that keeps to its program
abbrev pub AreRight : (ℕ → Bool) → Hosts → Places → ℕ → Type 0
AreRight keeps w x v = Each (λ q. keeps q.0.0 ≡ true → (w q.0.0).registers q.1.0 ≡ v) x

-- what a call leads to
pub record IsRightThen (keeps : ℕ → Bool) (next : List ℕ) (made : Made Places) (w w' : Hosts) (v : ℕ) : Type 0 where
  pub still : AreStill next w w'
  pub right : AreRight keeps w' made.given v

-- Whatever words are sent by hosts that depart, a call gives the word to the hosts that keep to their programs.
abbrev pub GivesRight : (ℕ → Bool) → Tape → List ℕ → Made Places → Hosts → ℕ → Type 0
GivesRight keeps t next made w v = (w' : Hosts) → RunsGadgets keeps t made.gadgets w w' → IsRightThen keeps next made w w' v
