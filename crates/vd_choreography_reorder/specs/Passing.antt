-- From the end to the front what is done goes behind its neighbours, as far as it shall and the test lets it.
use Rattle.std.specs.Prelude.{◌≡◌, ℕ, zero, suc, Bool, true, false, if◌then◌else◌, List, [], ◌∷◌}
use Rattle.vd_execution.specs.declared.instructions.Act.{Act}
use Rattle.vd_execution.specs.declared.instructions.Act.TheVariants as act
use Rattle.vd_execution.specs.declared.instructions.Line.{Line}
use Rattle.vd_execution.specs.declared.instructions.Line.TheVariants as line
use Rattle.vd_execution.specs.Joint.{Part, Joint, Done, Do, Msg, If, For, IsTidy}
use Rattle.vd_execution.specs.Text.{flat, each_then, register}
use Rattle.vd_base.specs.HostSets.{host}
use Rattle.vd_reorder.specs.Turning.{Turn, Does, Tells, then_goes}
use Rattle.vd_choreography_reorder.specs.Testing.{Opened, may_pass}
use Rattle.vd_choreography_reorder.specs.Order.{IsBroughtForward}

abbrev pub turn_of : Act → Turn
turn_of (act.Do h a) = Does h.0 a
turn_of (act.Msg a said b heard) = Tells a.0 said b.0 heard

-- a test on turns, of two lines. No mark of a block is passed, and none passes
abbrev pub act_passes : (Turn → Turn → Bool) → Act → Line → Bool
act_passes test x (line.Act y) = test (turn_of x) (turn_of y)
act_passes test x (line.If a g) = false
act_passes test x (line.Else a) = false
act_passes test x (line.For a r count) = false
act_passes test x (line.End a) = false

abbrev pub passes : (Turn → Turn → Bool) → Line → Line → Bool
passes test (line.Act x) y = act_passes test x y
passes test (line.If a g) y = false
passes test (line.Else a) y = false
passes test (line.For a r count) y = false
passes test (line.End a) y = false

-- a line behind at most so many others, as far as the test lets it
abbrev pub sunk_line : (Turn → Turn → Bool) → ℕ → Line → List Line → List Line
sunk_line test n x [] = x ∷ []
sunk_line test zero x (y ∷ ys) = x ∷ y ∷ ys
sunk_line test (suc n) x (y ∷ ys) = if passes test x y then y ∷ sunk_line test n x ys else x ∷ y ∷ ys

-- How far each line shall go is given by what stood behind it.
abbrev pub arranged_lines : (Turn → Turn → Bool) → (List Line → ℕ) → List Line → List Line
arranged_lines test far [] = []
arranged_lines test far (x ∷ xs) = sunk_line test (far xs) x (arranged_lines test far xs)

-- lines of which each goes as far as something says
pub record AreArranged (opened : Opened) (old new : List Line) : Type 0 where
  pub far : List Line → ℕ
  pub lines : new ≡ arranged_lines (may_pass opened) far old

-- Tidy code leads to code that tells the same, however far each line goes.
abbrev pub ArrangedLinesAreBroughtForward : Type 0
ArrangedLinesAreBroughtForward = (opened : Opened) (j : Joint) (new : List Line) → IsTidy j → AreArranged opened (flat j []) new → IsBroughtForward opened j new
