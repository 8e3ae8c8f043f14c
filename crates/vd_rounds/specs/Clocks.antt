-- Rounds. A packet comes in the round that is one more than the clock of the host that sends it, and the clock of a host is the greatest
-- round in which a packet came to it so far. So computing takes no time, and a packet takes one round.
use Rattle.std.specs.Prelude.{◌≤◌, ℕ, suc, max, if◌then◌else◌}
use Rattle.vd_execution.specs.Registers.{put}
use Rattle.vd_execution.specs.World.{Tape}
use Rattle.vd_execution.specs.Joint.{Joint, Done, Do, Msg, If, For, Hosts, fresh, joint, after_do, after_msg, is_other, turn_begun, turns}
use Rattle.vd_rounds.specs.declared.tallies.Bound.{Bound}
use Rattle.vd_rounds.specs.declared.tallies.Bound.TheVariants.{Least, Most}
use Rattle.vd_rounds.specs.Tallies.{chosen}

-- the clock of each host
abbrev pub Clocks : Type 0
Clocks = ℕ → ℕ

abbrev pub at_zero : Clocks
at_zero h = 0

-- a packet goes from a host to another
abbrev pub came : (from to : ℕ) → Clocks → Clocks
came from to c = put c to (max (c to) (suc (c from)))

-- ---- along the joint run

-- a turn of a loop, for the hosts and their clocks
abbrev pub turned : (Hosts → Hosts) → (Hosts → Clocks → Clocks) → (ℕ → Hosts → Hosts) → ℕ → Hosts × Clocks → Hosts × Clocks
turned run clock begin i s = (run (begin i s.0), clock (begin i s.0) s.1)

-- the clocks after the joint code, where hosts and clocks were these before
abbrev pub clocks_along : Tape → Joint → Hosts → Clocks → Clocks
clocks_along t Done w c = c
clocks_along t (Do h a rest) w c = clocks_along t rest (after_do t h a w) c
clocks_along t (Msg from said to heard rest) w c = clocks_along t rest (after_msg from said to heard w) (came from to c)
clocks_along t (If ps first other rest) w c =
    clocks_along t rest (if is_other ps w then joint t other w else joint t first w)
    (if is_other ps w then clocks_along t other w c else clocks_along t first w c)
clocks_along t (For ps count body rest) w c =
    let end = turns (turned (joint t body) (clocks_along t body) (turn_begun ps)) count 0 (w, c) in clocks_along t rest end.0 end.1

-- ---- read off the code

-- of a branch the clocks that one of its blocks leads to, of a loop those of its body, one turn after the other
abbrev pub clocks_by : Bound → Joint → Clocks → Clocks
clocks_by b Done c = c
clocks_by b (Do h a rest) c = clocks_by b rest c
clocks_by b (Msg from said to heard rest) c = clocks_by b rest (came from to c)
clocks_by b (If ps first other rest) c = clocks_by b rest (λ h. chosen b (clocks_by b first c h) (clocks_by b other c h))
clocks_by b (For ps count body rest) c = clocks_by b rest (turns (λ i d. clocks_by b body d) count 0 c)

-- No clock ends above what is read off where of each branch the later clock counts, and none below what is read off where the earlier one
-- does. So where both are the same, each run takes so many rounds.
pub record EndsWithin (t : Tape) (j : Joint) (h : ℕ) : Type 0 where
  pub least : clocks_by Least j at_zero h ≤ clocks_along t j fresh at_zero h
  pub most : clocks_along t j fresh at_zero h ≤ clocks_by Most j at_zero h

abbrev pub RoundsAreReadOff : Type 0
RoundsAreReadOff = (t : Tape) (j : Joint) (h : ℕ) → EndsWithin t j h
