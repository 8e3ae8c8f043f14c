-- Neighbours in a host's code that may be exchanged, and codes that exchanges lead to.
use Rattle.std.specs.Prelude.{◌≡◌, ℕ, zero, suc, ◌≤◌, List, Some, None}
use Rattle.vd_execution.specs.declared.instructions.Reg.{Reg}
use Rattle.vd_execution.specs.declared.instructions.Action.{Action}
use Rattle.vd_execution.specs.declared.instructions.Action.TheVariants as action
use Rattle.vd_execution.specs.Code.{Code, Finished, Then, Send, Recv, Choose, Repeat}
use Rattle.vd_execution.specs.Step.{Source, Given, answer, need}
use Rattle.vd_execution.specs.Text.{register}
use Rattle.vd_execution.specs.World.{Local, Supply, moved_on, IsShort, IsStuck, run}
use Rattle.vd_execution.specs.Joint.{Joint, code_of, fresh, resting, at_end}
use Rattle.vd_execution.specs.Claims.{RunsWell, RunsToItsEnd, IsOnTheWay, last_of}

-- one instruction outside of blocks
pub data Piece : Type 0 where
  Acts : (action : Action) → Piece
  Sends : (peer : ℕ) (registers : List Reg) → Piece
  Awaits : (peer : ℕ) (registers : List Reg) → Piece

abbrev pub before : Piece → Code → Code
before (Acts a) c = Then a c
before (Sends p rs) c = Send p rs c
before (Awaits p rs) c = Recv p rs c

-- a host that has this code before it
abbrev pub at : Local → Code → Local
at l c = record l { state = record l.state { pending = c } }

-- items alone, with no packet
abbrev pub without_packets : (Source → ℕ → List ℕ) → Given
without_packets items = record { item = λ s i. Some (items s i); front = λ p. None }

-- The second of two neighbours may stand first: it waits for no packet and compares nothing, so that it goes on in either place with the
-- same words; the first needs and gets the same behind it; and in either order they lead to the same host, with all that it printed and sent.
pub record MayPass (x y : Piece) : Type 0 where
  pub words : (Source → ℕ → List ℕ) → Local → List ℕ
  pub late : (items : Source → ℕ → List ℕ) (l : Local) (c : Code) (xs : List ℕ)
      → answer (without_packets items) (moved_on (at l (before x (before y c))) xs).state.cursors (need (moved_on (at l (before x (before y c))) xs).state) ≡ Some (words items l)
  pub early : (items : Source → ℕ → List ℕ) (l : Local) (c : Code)
      → answer (without_packets items) l.state.cursors (need (at l (before y c)).state) ≡ Some (words items l)
  pub kept : (g : Given) (l : Local) (c d : Code) (xs ys : List ℕ)
      → answer g l.state.cursors (need (at l (before x c)).state) ≡ Some xs
      → answer g (moved_on (at l (before y (before x d))) ys).state.cursors (need (moved_on (at l (before y (before x d))) ys).state) ≡ Some xs
  pub needs : (l : Local) (c d : Code) (ys : List ℕ) → need (moved_on (at l (before y (before x d))) ys).state ≡ need (at l (before x c)).state
  pub takes_none : (l : Local) (c : Code) (ys : List ℕ) → (moved_on (at l (before y c)) ys).taken ≡ l.taken
  pub same : (l : Local) (c : Code) (xs ys : List ℕ)
      → moved_on (moved_on (at l (before x (before y c))) xs) ys ≡ moved_on (moved_on (at l (before y (before x c))) ys) xs

-- a place in a code: before some of its instructions, or inside of a block
pub data Place : Type 0 where
  Here : Place
  Behind : (piece : Piece) (place : Place) → Place
  InFirst : (guard : ℕ) (place : Place) (other rest : Code) → Place
  InOther : (guard : ℕ) (first : Code) (place : Place) (rest : Code) → Place
  InBody : (counter turn count : ℕ) (place : Place) (rest : Code) → Place
  BehindBranch : (guard : ℕ) (first other : Code) (place : Place) → Place
  BehindLoop : (counter turn count : ℕ) (body : Code) (place : Place) → Place

-- the code with this at the place
abbrev pub with_code : Place → Code → Code
with_code Here c = c
with_code (Behind x p) c = before x (with_code p c)
with_code (InFirst g p other rest) c = Choose g (with_code p c) other rest
with_code (InOther g first p rest) c = Choose g first (with_code p c) rest
with_code (InBody r t n p rest) c = Repeat r t n (with_code p c) rest
with_code (BehindBranch g first other p) c = Choose g first other (with_code p c)
with_code (BehindLoop r t n body p) c = Repeat r t n body (with_code p c)

-- what a piece may go before: another one, a branch, or a loop
pub data Stretch : Type 0 where
  One : (piece : Piece) → Stretch
  Branch : (guard : ℕ) (first other : Code) → Stretch
  Loop : (counter turn count : ℕ) (body : Code) → Stretch

abbrev pub stretch_before : Stretch → Code → Code
stretch_before (One x) c = before x c
stretch_before (Branch g first other) c = Choose g first other c
stretch_before (Loop r t n body) c = Repeat r t n body c

-- A piece may go before all of a code that has no messages: before each action, before each guard as before a word that is printed, and
-- before each turn of a loop as before the action that counts it.
abbrev pub MayPassAll : Piece → Code → Type 0
MayPassAll y Finished = Unit {0}
MayPassAll y (Then a c) = MayPass (Acts a) y × MayPassAll y c
MayPassAll y (Send p rs c) = ⊥
MayPassAll y (Recv p rs c) = ⊥
MayPassAll y (Choose g first other c) = (MayPass (Acts (action.Print (register g))) y × (MayPassAll y first × MayPassAll y other)) × MayPassAll y c
MayPassAll y (Repeat r t n body c) = (((k : ℕ) → k ≤ n → MayPass (Acts (action.Const (register r) k)) y) × MayPassAll y body) × MayPassAll y c

abbrev pub MayPassStretch : Stretch → Piece → Type 0
MayPassStretch (One x) y = MayPass x y
MayPassStretch (Branch g first other) y = MayPass (Acts (action.Print (register g))) y × (MayPassAll y first × MayPassAll y other)
MayPassStretch (Loop r t n body) y = ((k : ℕ) → k ≤ n → MayPass (Acts (action.Const (register r) k)) y) × MayPassAll y body

-- two neighbours at one place are exchanged, of which the first may be a whole block
pub record IsExchanged (c d : Code) : Type 0 where
  pub place : Place
  pub first : Stretch
  pub second : Piece
  pub rest : Code
  pub may : MayPassStretch first second
  pub old : c ≡ with_code place (stretch_before first (before second rest))
  pub new : d ≡ with_code place (before second (stretch_before first rest))

-- so many exchanges, one after the other
abbrev pub Exchanges : ℕ → Code → Code → Type 0
Exchanges zero c d = c ≡ d
Exchanges (suc n) c d = (e : Code) × IsExchanged c e × Exchanges n e d

abbrev pub IsHastened : Code → Code → Type 0
IsHastened c d = (n : ℕ) × Exchanges n c d

-- Each of the first n hosts has a code that exchanges make of its own code in a joint code; the others have their own.
pub record AreHastened (n : ℕ) (j : Joint) (codes : ℕ → Code) : Type 0 where
  pub each : (h : ℕ) → IsHastened (code_of h j) (codes h)
  pub others : (h : ℕ) → n ≤ h → code_of h j ≡ codes h

-- Under every schedule of such hosts all that was said of the joint run holds.
abbrev pub HastenedHostsAreOnTheWay : Type 0
HastenedHostsAreOnTheWay = (s : Supply) (j : Joint) (n : ℕ) (codes : ℕ → Code) (b : List ℕ) → RunsWell s j → AreHastened n j codes
    → IsOnTheWay s (run s b (resting codes fresh)) (last_of s j)

-- A list that is told to be short is short for the joint run too: where the lists suffice for it, no such host is ever short.
abbrev pub HastenedHostsAreNeverShort : Type 0
HastenedHostsAreNeverShort = (s : Supply) (j : Joint) (n : ℕ) (codes : ℕ → Code) (b : List ℕ) (h : ℕ) → RunsToItsEnd s j → AreHastened n j codes
    → IsShort s (run s b (resting codes fresh)) h → ⊥

-- And where the lists suffice, each schedule that leaves no host able to step leads to the end of the joint run.
abbrev pub HastenedHostsEnd : Type 0
HastenedHostsEnd = (s : Supply) (j : Joint) (n : ℕ) (codes : ℕ → Code) (b : List ℕ) → RunsToItsEnd s j → AreHastened n j codes
    → IsStuck s (run s b (resting codes fresh)) → run s b (resting codes fresh) ≡ at_end (last_of s j)
