-- Neighbours in joint code that may be exchanged, and what their exchange leaves as it is.
use Rattle.std.specs.Prelude.{◌≡◌, ℕ, zero, suc, List}
use Rattle.vd_execution.specs.declared.instructions.Reg.{Reg}
use Rattle.vd_execution.specs.declared.instructions.Action.{Action}
use Rattle.vd_execution.specs.Registers.{Registers}
use Rattle.vd_execution.specs.Step.{Cursors}
use Rattle.vd_execution.specs.World.{Tape}
use Rattle.vd_execution.specs.Joint.{Part, Joint, Do, Msg, If, For, Host, Hosts, after_do, after_msg, joint, Agrees, IsTidy, IsSmooth}

-- what hosts do together, outside of the marks of blocks: one acts by itself, or one tells another words
pub data Turn : Type 0 where
  Does : (host : ℕ) (action : Action) → Turn
  Tells : (from : ℕ) (said : List Reg) (to : ℕ) (heard : List Reg) → Turn

abbrev pub then_goes : Turn → Joint → Joint
then_goes (Does h a) j = Do h a j
then_goes (Tells a said b heard) j = Msg a said b heard j

abbrev pub gone_by : Tape → Turn → Hosts → Hosts
gone_by t (Does h a) w = after_do t h a w
gone_by t (Tells a said b heard) w = after_msg a said b heard w

-- what it compares is the same
abbrev pub Compares : Turn → Hosts → Type 0
Compares (Does h a) w = Agrees (w h).registers a
Compares (Tells a said b heard) w = Unit {0}

-- what is seen of a host but for what it sent
abbrev pub Look : Type 0
Look = Registers × (Cursors × List ℕ)

abbrev pub look : Host → Look
look s = (s.registers, (s.cursors, s.printed))

-- all hosts hold, have taken and have printed the same
abbrev pub AreAlike : Hosts → Hosts → Type 0
AreAlike w v = (h : ℕ) → look (w h) ≡ look (v h)

-- In either order the two lead to hosts that are alike, and compare the same words.
pub record MayTurn (x y : Turn) : Type 0 where
  pub alike : (t : Tape) (w : Hosts) → AreAlike (gone_by t y (gone_by t x w)) (gone_by t x (gone_by t y w))
  pub first : (t : Tape) (w : Hosts) → Compares y (gone_by t x w) → Compares y w
  pub second : (t : Tape) (w : Hosts) → Compares x w → Compares x (gone_by t y w)

-- a place in joint code
pub data Spot : Type 0 where
  Here : Spot
  Behind : (turn : Turn) (spot : Spot) → Spot
  InFirst : (parts : List Part) (spot : Spot) (other rest : Joint) → Spot
  InOther : (parts : List Part) (first : Joint) (spot : Spot) (rest : Joint) → Spot
  InBody : (parts : List Part) (count : ℕ) (spot : Spot) (rest : Joint) → Spot
  BehindBranch : (parts : List Part) (first other : Joint) (spot : Spot) → Spot
  BehindLoop : (parts : List Part) (count : ℕ) (body : Joint) (spot : Spot) → Spot

abbrev pub with_joint : Spot → Joint → Joint
with_joint Here j = j
with_joint (Behind x p) j = then_goes x (with_joint p j)
with_joint (InFirst ps p other rest) j = If ps (with_joint p j) other rest
with_joint (InOther ps first p rest) j = If ps first (with_joint p j) rest
with_joint (InBody ps count p rest) j = For ps count (with_joint p j) rest
with_joint (BehindBranch ps first other p) j = If ps first other (with_joint p j)
with_joint (BehindLoop ps count body p) j = For ps count body (with_joint p j)

-- two neighbours at one place are exchanged
pub record IsTurned (j k : Joint) : Type 0 where
  pub spot : Spot
  pub first : Turn
  pub second : Turn
  pub rest : Joint
  pub may : MayTurn first second
  pub old : j ≡ with_joint spot (then_goes first (then_goes second rest))
  pub new : k ≡ with_joint spot (then_goes second (then_goes first rest))

-- so many exchanges, one after the other
abbrev pub Turns : ℕ → Joint → Joint → Type 0
Turns zero j k = j ≡ k
Turns (suc n) j k = (i : Joint) × IsTurned j i × Turns n i k

-- Whatever the hosts were before: they are alike at the end, and what ran smoothly does.
pub record TellsTheSame (t : Tape) (w : Hosts) (j k : Joint) : Type 0 where
  pub smooth : IsSmooth t k w
  pub alike : AreAlike (joint t j w) (joint t k w)

abbrev pub TurnedCodeTellsTheSame : Type 0
TurnedCodeTellsTheSame = (t : Tape) (w : Hosts) (n : ℕ) (j k : Joint) → Turns n j k → IsSmooth t j w → TellsTheSame t w j k

abbrev pub TurnedCodeIsTidy : Type 0
TurnedCodeIsTidy = (n : ℕ) (j k : Joint) → Turns n j k → IsTidy j → IsTidy k
