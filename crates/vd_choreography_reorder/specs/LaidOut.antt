-- Joint code in which loops are laid out: in the place of each stand its turns, one after the other, where they have no more than so many lines.
use Rattle.std.specs.Prelude.{◌≡◌, ℕ, zero, suc, ◌+◌, ◌*◌, nat_le, if◌then◌else◌, List, [], ◌∷◌, length}
use Rattle.vd_execution.specs.declared.instructions.Action.TheVariants as action
use Rattle.vd_execution.specs.Text.{register}
use Rattle.vd_execution.specs.World.{Tape}
use Rattle.vd_execution.specs.Joint.{Part, Joint, Done, Do, Msg, If, For, Hosts, joint, IsTidy, IsSmooth}

-- each host that takes part has the number of the turn in its counter
abbrev pub turn_begins : List Part → ℕ → Joint → Joint
turn_begins [] i j = j
turn_begins (p ∷ ps) i j = Do p.0 (action.Const (register p.1) i) (turn_begins ps i j)

-- one after the other
abbrev pub then_joint : Joint → Joint → Joint
then_joint Done k = k
then_joint (Do h a j) k = Do h a (then_joint j k)
then_joint (Msg a said b heard j) k = Msg a said b heard (then_joint j k)
then_joint (If ps first other j) k = If ps first other (then_joint j k)
then_joint (For ps count body j) k = For ps count body (then_joint j k)

-- n turns, numbered from i on, and what follows
abbrev pub in_a_row : List Part → Joint → ℕ → ℕ → Joint → Joint
in_a_row ps body zero i rest = rest
in_a_row ps body (suc n) i rest = turn_begins ps i (then_joint body (in_a_row ps body n (suc i) rest))

-- how many lines a code has, marks of blocks too
abbrev pub lines_in : Joint → ℕ
lines_in Done = 0
lines_in (Do h a j) = suc (lines_in j)
lines_in (Msg a said b heard j) = suc (lines_in j)
lines_in (If ps first other j) = 3 * length ps + (lines_in first + (lines_in other + lines_in j))
lines_in (For ps count body j) = 2 * length ps + (lines_in body + lines_in j)

-- a loop, and what follows: as its turns, where these have no more lines in all
abbrev pub laid_loop : ℕ → List Part → ℕ → Joint → Joint → Joint
laid_loop most ps count body rest =
    if nat_le (count * (length ps + lines_in body)) most then in_a_row ps body count 0 rest else For ps count body rest

abbrev pub laid_out : ℕ → Joint → Joint
laid_out most Done = Done
laid_out most (Do h a j) = Do h a (laid_out most j)
laid_out most (Msg a said b heard j) = Msg a said b heard (laid_out most j)
laid_out most (If ps first other j) = If ps (laid_out most first) (laid_out most other) (laid_out most j)
laid_out most (For ps count body j) = laid_loop most ps count (laid_out most body) (laid_out most j)

-- Whatever the hosts were before, they are the same at the end: they hold, have taken, have printed and have sent the same.
abbrev pub LaidOutCodeDoesTheSame : Type 0
LaidOutCodeDoesTheSame = (most : ℕ) (t : Tape) (j : Joint) (w : Hosts) → IsTidy j → joint t (laid_out most j) w ≡ joint t j w

-- Where guards agreed and compared words were the same they do.
abbrev pub LaidOutCodeIsSmooth : Type 0
LaidOutCodeIsSmooth = (most : ℕ) (t : Tape) (j : Joint) (w : Hosts) → IsTidy j → IsSmooth t j w → IsSmooth t (laid_out most j) w

abbrev pub LaidOutCodeIsTidy : Type 0
LaidOutCodeIsTidy = (most : ℕ) (j : Joint) → IsTidy j → IsTidy (laid_out most j)
