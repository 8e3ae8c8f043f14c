-- Hosts of a joint code, each driven by itself over links that give what was sent, in order. Any of them may have a hastened code.
use Rattle.std.specs.Prelude.{◌≡◌, ◌<◌, ◌^◌, ◌++◌, ℕ, IsTrue, List, [], Option, Some, None, Result, Ok, Err, drop, length}
use Rattle.vd_outside.specs.Sink.{SinkView}
use Rattle.vd_execution.specs.declared.instructions.Action.{Action}
use Rattle.vd_execution.specs.declared.instructions.Action.TheVariants as action
use Rattle.vd_execution.specs.Code.{Code, Finished, Then, Send, Recv, Choose, Repeat}
use Rattle.vd_execution.specs.Deals.{IsValidDeal}
use Rattle.vd_execution.specs.Joint.{Joint, code_of}
use Rattle.vd_execution.specs.Step.{Source}
use Rattle.vd_execution.specs.World.{Supply, IsPrefixOf, followed_by_zeros}
use Rattle.vd_execution.specs.Claims.{RunsWell, last_of}
use Rattle.vd_reorder.specs.Hastening.{AreHastened}
use Rattle.vd_machine.specs.declared.lists.Lists.{Lists}
use Rattle.vd_machine.specs.Kept.{at_start}
use Rattle.vd_machine.specs.Machines.{items_of}
use Rattle.vd_engine.specs.Drives.{Drives, SessionView, Sessions, lines}
use Rattle.vd_engine.specs.Enough.{AreTold}
use Rattle.vd_engine.specs.Hosts.{wants_with, next_with, seen_at}
use Rattle.vd_engine.specs.declared.engine.Ended.{Ended}
use Rattle.vd_engine.specs.declared.fault.EngineFault.{EngineFault}
use Rattle.vd_engine.specs.declared.fault.EngineFault.TheVariants as fault

-- ---- numbers of a code

-- the constants of a code are words, and the counts of its loops
abbrev pub NumberIsWord : Action → Type 0
NumberIsWord (action.Const register number) = number < 2 ^ 32
NumberIsWord other = Unit {0}

abbrev pub NumbersAreWords : Code → Type 0
NumbersAreWords Finished = Unit {0}
NumbersAreWords (Then a rest) = NumberIsWord a × NumbersAreWords rest
NumbersAreWords (Send peer registers rest) = NumbersAreWords rest
NumbersAreWords (Recv peer registers rest) = NumbersAreWords rest
NumbersAreWords (Choose guard first other rest) = NumbersAreWords first × (NumbersAreWords other × NumbersAreWords rest)
NumbersAreWords (Repeat counter turn count body rest) = (count < 2 ^ 32) × (NumbersAreWords body × NumbersAreWords rest)

-- ---- what came and went

-- the bytes that come on a session, and those that went out on it since
abbrev pub bytes_to_come : Option SessionView → List ℕ
bytes_to_come None = []
bytes_to_come (Some session) = session.link.coming

abbrev pub bytes_sent : (before now : Option SessionView) → List ℕ
bytes_sent (Some before) (Some now) = drop (length before.link.sent) now.link.sent
bytes_sent before now = []

-- ---- all hosts

-- Each host was driven from its start on its own lists, as `drive` says; all links tell their bytes; and what comes to a host on its
-- link to another is a prefix of what that one sent there. Nothing is said of when.
pub record AreLinked (s : Supply) (codes : ℕ → Code) (lists : ℕ → Lists) (before now : ℕ → Sessions) (out_before out_now : ℕ → SinkView) (result : ℕ → Result Ended EngineFault) : Type 0 where
  pub supplied : (h : ℕ) (source : Source) (i : ℕ) → s h source i ≡ items_of (lists h) source i
  pub drives : (h : ℕ) → Drives (wants_with (lists h)) (next_with (lists h)) seen_at (at_start (codes h)) (before h) (now h) (out_before h) (out_now h) (result h)
  pub told : (h : ℕ) → AreTold (now h)
  pub linked : (a b : ℕ) → IsPrefixOf (bytes_to_come (before b a)) (bytes_sent (before a b) (now a b))

-- the hosts of a code that runs well on the lists, which hold a valid deal; any of the first n may have hastened codes, and their numbers
-- are words
pub record AreHosts (s : Supply) (j : Joint) (n : ℕ) (codes : ℕ → Code) : Type 0 where
  pub well : RunsWell s j
  pub deal : IsValidDeal (followed_by_zeros s)
  pub hastened : AreHastened n j codes
  pub numbers : (h : ℕ) → NumbersAreWords (codes h)

-- all with their own codes
abbrev pub AreOwnHosts : Supply → Joint → Type 0
AreOwnHosts s j = AreHosts s j 0 (λ h. code_of h j)

-- the output took these bytes
abbrev pub Takes : SinkView → SinkView → List ℕ → Type 0
Takes before now bytes = now.taken ≡ before.taken ++ bytes

-- No host blames another: none tells a byte of no awaited packet, and none words that are to be the same and differ.
abbrev pub BlamesNobody : Result Ended EngineFault → Type 0
BlamesNobody (Err (fault.BadFrame host offset byte)) = ⊥
BlamesNobody (Err (fault.Unequal left right)) = ⊥
BlamesNobody other = Unit {0}

-- with Ok the output took all of these bytes, and else some prefix of them
abbrev pub TakesUpTo : SinkView → SinkView → List ℕ → Result Ended EngineFault → Type 0
TakesUpTo before now bytes (Ok done) = Takes before now bytes
TakesUpTo before now bytes (Err cause) = (front : List ℕ) × IsPrefixOf front bytes × Takes before now front

-- What each host writes is a prefix of the decimal lines of what it prints in the joint run, and with Ok all of them, whatever becomes
-- of the others.
pub record TellTheSame (s : Supply) (j : Joint) (out_before out_now : ℕ → SinkView) (result : ℕ → Result Ended EngineFault) : Type 0 where
  pub written : (h : ℕ) → IsTrue (out_now h).told → TakesUpTo (out_before h) (out_now h) (lines (last_of s j h).printed) (result h)
  pub blames : (h : ℕ) → BlamesNobody (result h)

abbrev pub LinkedHostsTellTheSame : Type 0
LinkedHostsTellTheSame = (s : Supply) (j : Joint) (n : ℕ) (codes : ℕ → Code) (lists : ℕ → Lists) (before now : ℕ → Sessions) (out_before out_now : ℕ → SinkView)
    (result : ℕ → Result Ended EngineFault) → AreHosts s j n codes → AreLinked s codes lists before now out_before out_now result → TellTheSame s j out_before out_now result
