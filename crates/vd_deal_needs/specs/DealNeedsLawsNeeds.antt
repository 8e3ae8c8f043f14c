-- How many items each host takes from each list, read off joint code: a bound on each run, and what each run takes where no branch
-- takes differently.
use Rattle.std.specs.Prelude.{◌≡◌, ◌≢◌, ℕ, nat_eq, ◌+◌, ◌-◌, ◌*◌, ◌<◌, if◌then◌else◌, List, [], ◌∷◌, Option, Some, None}
use Rattle.vd_execution.specs.declared.instructions.Action.{Action}
use Rattle.vd_execution.specs.declared.instructions.Action.TheVariants as action
use Rattle.vd_execution.specs.Step.{Source, Inputs, OwnWords, Triples, BitTriples, Pairs, same_source, State, Item, need, next}
use Rattle.vd_execution.specs.World.{Supply, IsShort, IsStuck}
use Rattle.vd_execution.specs.Code.{Code, Finished, Then, Send, Recv, Choose, Repeat}
use Rattle.vd_execution.specs.Joint.{Joint, Done, Do, Msg, If, For, IsTidy, code_of, at_end}
use Rattle.vd_execution.specs.Claims.{RunsWell, Suffices, last_of, reached}

-- the list that an action takes an item from
abbrev pub source_of : Action → Option Source
source_of (action.Const r k) = None
source_of (action.Copy r x) = None
source_of (action.Apply o r x y) = None
source_of (action.Shl r x k) = None
source_of (action.Shr r x k) = None
source_of (action.Mux r c x y) = None
source_of (action.Own r) = Some OwnWords
source_of (action.Triple p a b c) = Some (Triples p.0)
source_of (action.Bits p a b c) = Some (BitTriples p.0)
source_of (action.Pair p s x) = Some (Pairs p.0)
source_of (action.Input r) = Some Inputs
source_of (action.Print r) = None
source_of (action.Hash d n v) = None
source_of (action.Same x y) = None
source_of (action.Zero r count) = None
source_of (action.Get r x count i) = None
source_of (action.Put x count i s) = None

-- 1 where it is this list, 0 where it is another or none
abbrev pub one_of : Option Source → Source → ℕ
one_of None r = 0
one_of (Some s) r = if same_source r s then 1 else 0

abbrev pub greater : ℕ → ℕ → ℕ
greater a b = a + (b - a)

-- how many items host h takes from a list: of a branch the greater number of its two blocks, of a loop its body's once a turn
abbrev pub takes : Joint → ℕ → Source → ℕ
takes Done h r = 0
takes (Do a x rest) h r = (if nat_eq h a then one_of (source_of x) r else 0) + takes rest h r
takes (Msg a said b heard rest) h r = takes rest h r
takes (If ps first other rest) h r = greater (takes first h r) (takes other h r) + takes rest h r
takes (For ps count body rest) h r = count * takes body h r + takes rest h r

-- both blocks of a branch take equally many items, at each host and from each list
abbrev pub TakeAlike : Joint → Joint → Type 0
TakeAlike first other = (h : ℕ) (r : Source) → takes first h r ≡ takes other h r

-- joint code of which no branch takes differently; so is code without branches
abbrev pub IsEven : Joint → Type 0
IsEven Done = Unit {0}
IsEven (Do a x rest) = IsEven rest
IsEven (Msg a said b heard rest) = IsEven rest
IsEven (If ps first other rest) = TakeAlike first other × (IsEven first × (IsEven other × IsEven rest))
IsEven (For ps count body rest) = IsEven body × IsEven rest

-- each list has as many items as are taken at most
abbrev pub HasWhatItTakes : Supply → Joint → Type 0
HasWhatItTakes s j = (h : ℕ) (r : Source) (i : ℕ) → i < takes j h r → s h r i ≢ None

-- Lists of these lengths never leave a host short, whatever the inputs and the items are.
abbrev pub NeedsAreEnough : Type 0
NeedsAreEnough = (s : Supply) (j : Joint) → HasWhatItTakes s j → Suffices s (last_of s j)

-- So under no schedule is a host ever short,
abbrev pub NobodyIsShort : Type 0
NobodyIsShort = (s : Supply) (j : Joint) (b : List ℕ) (h : ℕ) → RunsWell s j → HasWhatItTakes s j → IsShort s (reached s j b) h → ⊥

-- and each schedule that leaves no host able to step leads to the end of the joint run.
abbrev pub AllEnd : Type 0
AllEnd = (s : Supply) (j : Joint) (b : List ℕ) → RunsWell s j → HasWhatItTakes s j → IsStuck s (reached s j b) → reached s j b ≡ at_end (last_of s j)

-- Where no branch takes differently each run takes exactly these,
abbrev pub NeedsAreExact : Type 0
NeedsAreExact = (s : Supply) (j : Joint) (h : ℕ) (r : Source) → IsEven j → (last_of s j h).cursors r ≡ takes j h r

-- so no shorter lists suffice.
abbrev pub NeedsAreLeast : Type 0
NeedsAreLeast = (s : Supply) (j : Joint) → IsEven j → Suffices s (last_of s j) → HasWhatItTakes s j

-- ---- from a host's own code

-- how many items a code takes from a list, by the same rules; a loop has those turns to come that it has not begun
abbrev pub counts : Code → Source → ℕ
counts Finished r = 0
counts (Then a c) r = one_of (source_of a) r + counts c r
counts (Send p rs c) r = counts c r
counts (Recv p rs c) r = counts c r
counts (Choose g first other c) r = greater (counts first r) (counts other r) + counts c r
counts (Repeat q t n body c) r = (n - t) * counts body r + counts c r

-- Each host can read what it needs off its own program.
abbrev pub NeedsAreReadOff : Type 0
NeedsAreReadOff = (j : Joint) (h : ℕ) (r : Source) → IsTidy j → counts (code_of h j) r ≡ takes j h r

-- ---- one host alone, whoever its peers are

-- a host at its start, which has this code to do
abbrev pub at_start : Code → State
at_start code = record { pending = code; registers = λ x. 0; cursors = λ r. 0 }

-- a host after a step on each of these words
abbrev pub stepped : State → List (List ℕ) → State
stepped m [] = m
stepped m (xs ∷ words) = stepped (next m xs) words

-- Whatever words a host is given, it is about to take an item from a list only where it has taken fewer than are read off its code.
abbrev pub NeedsAreEnoughAlone : Type 0
NeedsAreEnoughAlone = (code : Code) (words : List (List ℕ)) (r : Source) → need (stepped (at_start code) words) ≡ Item r
    → (stepped (at_start code) words).cursors r < counts code r
