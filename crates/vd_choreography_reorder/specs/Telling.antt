-- Code with joined packets tells the same, in fewer packets, of which none is too long.
use Rattle.std.specs.Prelude.{◌≡◌, ℕ, ◌≤◌, false, List, [], length}
use Rattle.vd_execution.specs.declared.instructions.Reg.{Reg}
use Rattle.vd_execution.specs.declared.instructions.Line.{Line}
use Rattle.vd_execution.specs.World.{Tape, Supply, words_of}
use Rattle.vd_execution.specs.Joint.{Joint, Done, Do, Msg, If, For, Hosts, joint, IsTidy, IsSmooth}
use Rattle.vd_execution.specs.Text.{flat}
use Rattle.vd_reorder.specs.Turning.{TellsTheSame}
use Rattle.vd_choreography_reorder.specs.Order.{RunsOn, without_empty}
use Rattle.vd_choreography_reorder.specs.Joining.{can_share, joined, joined_lines}

-- no packet has more words
abbrev pub PacketsAreWithin : ℕ → Joint → Type 0
PacketsAreWithin most Done = Unit {0}
PacketsAreWithin most (Do h x j) = PacketsAreWithin most j
PacketsAreWithin most (Msg a said b heard j) = (length said ≤ most) × PacketsAreWithin most j
PacketsAreWithin most (If ps first other rest) = PacketsAreWithin most first × (PacketsAreWithin most other × PacketsAreWithin most rest)
PacketsAreWithin most (For ps count body rest) = PacketsAreWithin most body × PacketsAreWithin most rest

-- a packet cannot share with what stands behind it
abbrev pub CannotShare : ℕ → ℕ → List Reg → ℕ → Joint → Type 0
CannotShare most a said b Done = Unit {0}
CannotShare most a said b (Do h x j) = Unit {0}
CannotShare most a said b (Msg c says d hears j) = can_share most a said b c says d ≡ false
CannotShare most a said b (If ps first other rest) = Unit {0}
CannotShare most a said b (For ps count body rest) = Unit {0}

-- of no two neighbours one packet could be made
abbrev pub AllAreJoined : ℕ → Joint → Type 0
AllAreJoined most Done = Unit {0}
AllAreJoined most (Do h x j) = AllAreJoined most j
AllAreJoined most (Msg a said b heard j) = CannotShare most a said b j × AllAreJoined most j
AllAreJoined most (If ps first other rest) = AllAreJoined most first × (AllAreJoined most other × AllAreJoined most rest)
AllAreJoined most (For ps count body rest) = AllAreJoined most body × AllAreJoined most rest

-- The lines are those of the code with its packets joined. It is tidy, no two neighbours are left that could share a packet, and none is too
-- long where none was. Whatever the hosts were before, they hold, have taken and have printed the same at its end, and on each link the same
-- words went in the same order.
pub record IsJoined (most : ℕ) (j : Joint) (lines : List Line) : Type 0 where
  pub text : lines ≡ flat (joined most (without_empty j)) []
  pub tidy : IsTidy (joined most (without_empty j))
  pub all : AllAreJoined most (joined most (without_empty j))
  pub within : PacketsAreWithin most j → PacketsAreWithin most (joined most (without_empty j))
  pub talk : (t : Tape) (w : Hosts) (a b : ℕ) → words_of ((joint t (joined most (without_empty j)) w a).sent b) ≡ words_of ((joint t j w a).sent b)
  pub same : (t : Tape) (w : Hosts) → IsSmooth t j w → TellsTheSame t w j (joined most (without_empty j))

abbrev pub JoinedCodeTellsTheSame : Type 0
JoinedCodeTellsTheSame = (most : ℕ) (j : Joint) → IsTidy j → IsJoined most j (joined_lines most (flat j []))

-- On any lists the joined code runs well, and to its end, where the old one does, and to hosts that are alike.
abbrev pub JoinedCodeRunsOn : Type 0
JoinedCodeRunsOn = (most : ℕ) (j : Joint) (lines : List Line) → IsJoined most j lines → (s : Supply) → RunsOn s j (joined most (without_empty j))
