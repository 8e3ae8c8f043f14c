-- Hosts in an order that waits less, each driven by itself over its links.
use Rattle.std.specs.Prelude.{◌≡◌, ℕ, List, Result}
use Rattle.vd_outside.specs.Sink.{SinkView}
use Rattle.vd_execution.specs.Code.{Code, Finished}
use Rattle.vd_execution.specs.Deals.{IsValidDeal}
use Rattle.vd_execution.specs.Joint.{Joint}
use Rattle.vd_execution.specs.Step.{State, need}
use Rattle.vd_execution.specs.World.{Supply, followed_by_zeros}
use Rattle.vd_execution.specs.Claims.{RunsWell, RunsToItsEnd}
use Rattle.vd_machine.specs.declared.lists.Lists.{Lists}
use Rattle.vd_engine.specs.Drives.{Sessions}
use Rattle.vd_engine.specs.Events.{Event}
use Rattle.vd_engine.specs.declared.engine.Ended.{Ended}
use Rattle.vd_engine.specs.declared.fault.EngineFault.{EngineFault}
use Rattle.vd_distributed.specs.AllHosts.{AreDriven, WaitsFor}
use Rattle.vd_distributed.specs.Linked.{AreLinked, NumbersAreWords, TellTheSame}
use Rattle.vd_projection.specs.Early.{IsEarly, IsOfHosts, early_code, opened_of}

-- each host has the code that is stored for it
abbrev pub HaveEarlyCodes : Joint → Joint → (ℕ → Code) → Type 0
HaveEarlyCodes j k codes = (h : ℕ) → codes h ≡ early_code (opened_of j) h k

-- The joint code runs well on the lists, which hold a valid deal. Only the first n hosts have code. Their codes are those of an order that
-- waits less, and their numbers are words.
pub record AreEarlyHosts (s : Supply) (j : Joint) (n : ℕ) (codes : ℕ → Code) : Type 0 where
  pub well : RunsWell s j
  pub deal : IsValidDeal (followed_by_zeros s)
  pub joint : Joint
  pub early : IsEarly j joint
  pub few : IsOfHosts n j
  pub codes_are : HaveEarlyCodes j joint codes
  pub numbers : (h : ℕ) → NumbersAreWords (codes h)

abbrev pub EarlyHostsTellTheSame : Type 0
EarlyHostsTellTheSame = (s : Supply) (j : Joint) (n : ℕ) (codes : ℕ → Code) (lists : ℕ → Lists) (before now : ℕ → Sessions) (out_before out_now : ℕ → SinkView)
    (result : ℕ → Result Ended EngineFault) → AreEarlyHosts s j n codes → AreLinked s codes lists before now out_before out_now result
    → TellTheSame s j out_before out_now result

-- Where the lists suffice in program order, and each host has gone on as far as what was sent to it lets it, all have ended.
abbrev pub EarlyHostsHaveEnded : Type 0
EarlyHostsHaveEnded = (s : Supply) (j k : Joint) (n : ℕ) (codes : ℕ → Code) (lists : ℕ → Lists) (events : ℕ → List Event) (state : ℕ → State) → RunsToItsEnd s j
    → IsEarly j k → IsOfHosts n j → HaveEarlyCodes j k codes → AreDriven s codes lists events state
    → ((h : ℕ) → WaitsFor events h (need (state h))) → (h : ℕ) → (state h).pending ≡ Finished
