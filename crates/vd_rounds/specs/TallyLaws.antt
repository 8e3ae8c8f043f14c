-- What a host has told another, and what is counted of its code.
use Rattle.std.specs.Prelude.{◌≡◌, ◌≤◌, ℕ, List, [], length}
use Rattle.vd_base.specs.declared.ids.HostId.{HostId}
use Rattle.vd_execution.specs.Code.{Code, Finished}
use Rattle.vd_execution.specs.World.{Local, Supply, words_of}
use Rattle.vd_execution.specs.Histories.{gone}
use Rattle.vd_execution.specs.Joint.{Joint, code_of}
use Rattle.vd_execution.specs.Claims.{reached}
use Rattle.vd_rounds.specs.declared.tallies.Bound.TheVariants.{Least, Most}
use Rattle.vd_rounds.specs.declared.tallies.Measure.{Measure}
use Rattle.vd_rounds.specs.declared.tallies.Measure.TheVariants.{Packets, Words}
use Rattle.vd_rounds.specs.declared.tallies.Tally.{Tally}
use Rattle.vd_rounds.specs.Tallies.{told}

-- what these packets come to
abbrev pub size_of : Measure → List (List ℕ) → ℕ
size_of Packets packets = length packets
size_of Words packets = length (words_of packets)

abbrev pub most_of : Measure → HostId → Tally
most_of measure peer = record { bound = Most; measure = measure; peer = peer }

abbrev pub least_of : Measure → HostId → Tally
least_of measure peer = record { bound = Least; measure = measure; peer = peer }

-- A host has told each other one no more than is counted where of each branch the block that tells more is; and where it has ended, no
-- less than where the block that tells less is. So where both counts are the same, it has told that.
pub record TellsWithin (code : Code) (l : Local) : Type 0 where
  pub most : (measure : Measure) (peer : HostId) → size_of measure (l.sent peer.0) ≤ told (most_of measure peer) code
  pub least : (measure : Measure) (peer : HostId) → l.state.pending ≡ Finished
      → told (least_of measure peer) code ≤ size_of measure (l.sent peer.0)

-- a host at its start, which has this code to do
abbrev pub alone : Code → Local
alone code = record {
  state = record { pending = code; registers = λ r. 0; cursors = λ s. 0 };
  printed = [];
  sent = λ p. [];
  taken = λ p. 0;
}

-- So it is whatever words a host is given, step by step,
abbrev pub HostsTellWithin : Type 0
HostsTellWithin = (code : Code) (words : List (List ℕ)) → TellsWithin code (gone (alone code) words)

-- and with each host of a joint code, under every schedule.
abbrev pub SchedulesTellWithin : Type 0
SchedulesTellWithin = (s : Supply) (j : Joint) (turns : List ℕ) (h : ℕ) → TellsWithin (code_of h j) (reached s j turns h)
