-- How a host goes on at its next step, by what it hears.
use Rattle.std.specs.Prelude.{◌≡◌, ℕ, ◌+◌, ◌<◌, ◌≤◌, ◌^◌, List, [], Some, None, slice_index, length}
use Rattle.vd_base.specs.Limits.{most_packet_words}
use Rattle.vd_machine.specs.declared.want.Want.TheVariants as want
use Rattle.vd_machine.specs.Wants.{wanted}
use Rattle.vd_world.specs.declared.heard.Turn.{Turn}
use Rattle.vd_world.specs.declared.heard.Turn.TheVariants as turn
use Rattle.vd_world.specs.Hosts.{HostKept, gets, given_words}

-- a host that goes on so gets the words that it should, or can not go on
abbrev pub Hears : List HostKept → ℕ → HostKept → Turn → Type 0
Hears hosts h k turn.Alone = (want.Nothing ≡ wanted k.machine) × (gets hosts h k ≡ Some (given_words k []))
Hears hosts h k (turn.Take p words) = (want.Words p (length words.now) ≡ wanted k.machine) × (gets hosts h k ≡ Some (given_words k words.now))
Hears hosts h k turn.Stuck = gets hosts h k ≡ None

-- a packet that is taken is from one of the hosts and not too long, and one more may be counted
pub record IsTaken (k : HostKept) (peer : ℕ) (words : List ℕ) : Type 0 where
  pub peer_is : peer < k.machine.lists.deal.hosts
  pub few : length words ≤ most_packet_words
  pub room : slice_index k.taken peer + 1 < 2 ^ 64

abbrev pub CanTake : HostKept → Turn → Type 0
CanTake k turn.Alone = Unit {0}
CanTake k (turn.Take p words) = IsTaken k p.0 words.now
CanTake k turn.Stuck = Unit {0}
