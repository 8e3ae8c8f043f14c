-- Joint code that careful exchanges of neighbours lead to, and what it tells.
use Rattle.std.specs.Prelude.{◌≡◌, ℕ, zero, suc, Bool, true, false, if◌then◌else◌, List, [], ◌∷◌}
use Rattle.vd_execution.specs.declared.instructions.Line.{Line}
use Rattle.vd_execution.specs.Joint.{Part, Joint, Done, Do, Msg, If, For, Hosts, IsTidy, IsSmooth}
use Rattle.vd_execution.specs.World.{Tape, Supply}
use Rattle.vd_execution.specs.Text.{flat}
use Rattle.vd_execution.specs.Claims.{RunsWell, RunsToItsEnd, last_of}
use Rattle.vd_reorder.specs.Turning.{Turn, Does, Tells, then_goes, IsTurned, TellsTheSame, AreAlike}
use Rattle.vd_choreography_reorder.specs.Testing.{Opened, may_turn, tells_at, stays_behind}

-- Two neighbours are exchanged that do not need each other, and of which the second need not stay behind the first.
pub record IsCarefullyTurned (opened : Opened) (j k : Joint) : Type 0 where
  pub turned : IsTurned j k
  pub apart : may_turn turned.first turned.second ≡ true
  pub free : stays_behind opened turned.first turned.second ≡ false

-- so many of these exchanges, one after the other
abbrev pub CarefulTurns : Opened → ℕ → Joint → Joint → Type 0
CarefulTurns opened zero j k = j ≡ k
CarefulTurns opened (suc n) j k = (i : Joint) × IsCarefullyTurned opened j i × CarefulTurns opened n i k

abbrev pub IsCarefully : Opened → Joint → Joint → Type 0
IsCarefully opened j k = (n : ℕ) × CarefulTurns opened n j k

-- what is left of a code where only some of what is done is looked at
abbrev pub spine : (Turn → Bool) → Joint → Joint
spine some Done = Done
spine some (Do h a rest) = if some (Does h a) then Do h a (spine some rest) else spine some rest
spine some (Msg a said b heard rest) = if some (Tells a said b heard) then Msg a said b heard (spine some rest) else spine some rest
spine some (If ps first other rest) = If ps (spine some first) (spine some other) (spine some rest)
spine some (For ps count body rest) = For ps count (spine some body) (spine some rest)

-- What a host compares, prints and opens stands in its order, in each block.
abbrev pub OrderIsKept : Type 0
OrderIsKept = (opened : Opened) (j k : Joint) (h : ℕ) → IsCarefully opened j k → spine (tells_at opened h) k ≡ spine (tells_at opened h) j

-- ---- blocks in which nobody takes part

-- the code without them
abbrev pub without_empty : Joint → Joint
without_empty Done = Done
without_empty (Do h a rest) = Do h a (without_empty rest)
without_empty (Msg a said b heard rest) = Msg a said b heard (without_empty rest)
without_empty (If [] first other rest) = without_empty rest
without_empty (If (p ∷ ps) first other rest) = If (p ∷ ps) (without_empty first) (without_empty other) (without_empty rest)
without_empty (For [] count body rest) = without_empty rest
without_empty (For (p ∷ ps) count body rest) = For (p ∷ ps) count (without_empty body) (without_empty rest)

-- ---- what the pass gives

-- These are the lines of a code to which careful exchanges lead. It is tidy, and whatever the hosts were before, they hold, have taken and
-- have printed the same at its end; where words that are compared were the same and guards agreed they do.
pub record IsBroughtForward (opened : Opened) (j : Joint) (lines : List Line) : Type 0 where
  pub code : Joint
  pub text : lines ≡ flat code []
  pub exchanged : IsCarefully opened (without_empty j) code
  pub tidy : IsTidy code
  pub same : (t : Tape) (w : Hosts) → IsSmooth t j w → TellsTheSame t w j code

-- With any inputs and lists: where the old code runs well, or to its end, so does the new one, and to hosts that are alike. So all that is
-- known of every schedule of the hosts of a code is known of the hosts of the new code.
pub record RunsOn (s : Supply) (j k : Joint) : Type 0 where
  pub well : RunsWell s j → RunsWell s k
  pub ends : RunsToItsEnd s j → RunsToItsEnd s k
  pub alike : RunsWell s j → AreAlike (last_of s j) (last_of s k)

abbrev pub CodeThatIsBroughtForwardRunsOn : Type 0
CodeThatIsBroughtForwardRunsOn = (opened : Opened) (j : Joint) (lines : List Line) (x : IsBroughtForward opened j lines) (s : Supply) → RunsOn s j x.code
