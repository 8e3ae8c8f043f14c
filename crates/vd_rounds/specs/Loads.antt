-- What goes from one host to another: packets, words and bytes.
use Rattle.std.specs.Prelude.{◌≡◌, ℕ, ◌+◌, ◌*◌, ◌<◌, List, length}
use Rattle.vd_base.specs.declared.ids.HostId.{HostId}
use Rattle.vd_execution.specs.Code.{Code}
use Rattle.vd_execution.specs.World.{words_of}
use Rattle.vd_link.specs.Frames.{frames, greeting}
use Rattle.vd_rounds.specs.declared.loads.Load.{Load}
use Rattle.vd_rounds.specs.declared.loads.Traffic.{Traffic}
use Rattle.vd_rounds.specs.declared.tallies.Bound.{Bound}
use Rattle.vd_rounds.specs.declared.tallies.Bound.TheVariants.{Least, Most}
use Rattle.vd_rounds.specs.declared.tallies.Measure.TheVariants.{Packets, Words}
use Rattle.vd_rounds.specs.Tallies.{told}

-- what a code tells a host where of each branch this block is counted
abbrev pub load_of : Bound → HostId → Code → Load
load_of bound peer c = record {
  packets = told (record { bound = bound; measure = Packets; peer = peer }) c;
  words = told (record { bound = bound; measure = Words; peer = peer }) c;
}

abbrev pub traffic_of : HostId → Code → Traffic
traffic_of peer c = record { least = load_of Least peer c; most = load_of Most peer c }

-- no more than any code within the ranges tells
abbrev pub IsLight : Load → Type 0
IsLight load = (load.packets < 1099511627776) × (load.words < 1099511627776)

-- the bytes of one direction of a link: a greeting, and two bytes a packet and four a word
abbrev pub plain_bytes : Load → ℕ
plain_bytes load = 36 + 2 * load.packets + 4 * load.words

-- of a sealed link: a hello of 68 bytes, a record without bytes, and a record each for the greeting and for each packet; a record has 34
-- bytes more than what it seals
abbrev pub sealed_bytes : Load → ℕ
sealed_bytes load = 68 + 34 + (34 + 36) + 36 * load.packets + 4 * load.words

-- what these packets come to
abbrev pub load_in : List (List ℕ) → Load
load_in packets = record { packets = length packets; words = length (words_of packets) }

-- A greeting and these packets have as many bytes as is counted of a link that is not sealed.
abbrev pub BytesAreCounted : Type 0
BytesAreCounted = (plan : List ℕ) (from to : ℕ) (packets : List (List ℕ)) → length plan ≡ 32
    → length (greeting plan from to) + length (frames packets) ≡ plain_bytes (load_in packets)
