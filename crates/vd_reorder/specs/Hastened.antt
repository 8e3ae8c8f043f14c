-- What hastened hosts did, each by itself, over links that give what was sent, in order.
use Rattle.std.specs.Prelude.{◌≡◌, ℕ, List}
use Rattle.vd_execution.specs.Code.{Code, Finished}
use Rattle.vd_execution.specs.World.{World, Supply}
use Rattle.vd_execution.specs.Joint.{Joint, fresh, resting, at_end}
use Rattle.vd_execution.specs.Claims.{RunsWell, IsOnTheWay, last_of}
use Rattle.vd_execution.specs.Histories.{Goes, gone, IsLinked}
use Rattle.vd_reorder.specs.Hastening.{AreHastened}

-- where all hosts stand that went on so from a world
abbrev pub stand_from : World → (ℕ → List (List ℕ)) → World
stand_from start words h = gone (start h) (words h)

-- Each host went on, on its own lists; and the packets that it took from another are those that this one sent to it, in order.
pub record AreHistoriesFrom (s : Supply) (start : World) (words : ℕ → List (List ℕ)) : Type 0 where
  pub each : (h : ℕ) → Goes s h (start h) (words h)
  pub linked : (h : ℕ) → IsLinked (λ p. (stand_from start words p).sent h) (start h) (words h)

-- Hosts with hastened codes, some or all of them, print and send what the joint run prints and sends.
abbrev pub HastenedHistoriesAreOnTheWay : Type 0
HastenedHistoriesAreOnTheWay = (s : Supply) (j : Joint) (n : ℕ) (codes : ℕ → Code) (words : ℕ → List (List ℕ)) → RunsWell s j → AreHastened n j codes
    → AreHistoriesFrom s (resting codes fresh) words → IsOnTheWay s (stand_from (resting codes fresh) words) (last_of s j)

-- One that has ended did all that the joint run has it do, wherever the others stand.
abbrev pub EndedHastenedHostsAreWhole : Type 0
EndedHastenedHostsAreWhole = (s : Supply) (j : Joint) (n : ℕ) (codes : ℕ → Code) (words : ℕ → List (List ℕ)) → RunsWell s j → AreHastened n j codes
    → AreHistoriesFrom s (resting codes fresh) words → (h : ℕ) → (stand_from (resting codes fresh) words h).state.pending ≡ Finished
    → stand_from (resting codes fresh) words h ≡ at_end (last_of s j) h
