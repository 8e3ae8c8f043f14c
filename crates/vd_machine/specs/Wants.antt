-- What a need comes to on a host's lists.
use Rattle.std.specs.Prelude.{ℕ, ◌<◌, ◌≤◌, nat_lt, if◌then◌else◌, length}
use Rattle.vd_base.specs.Limits.{most_packet_words}
use Rattle.vd_base.specs.HostSets.{host}
use Rattle.vd_execution.specs.Step.{need, Source, Inputs, OwnWords, Triples, BitTriples, Pairs, Cursors, Need, Nothing, Item, Packet, Unequal, Ended}
use Rattle.vd_machine.specs.Kept.{Kept, state_of}
use Rattle.vd_machine.specs.declared.lists.Lists.{Lists}
use Rattle.vd_tape.specs.declared.deal_items.deal.DealKind.TheVariants as kind
use Rattle.vd_machine.specs.Machines.{list_of, cursors_of}
use Rattle.vd_machine.specs.declared.want.Want.{Want}
use Rattle.vd_machine.specs.declared.want.Want.TheVariants as want

-- how many items a list has
abbrev pub count_of : Lists → Source → ℕ
count_of l Inputs = length l.inputs
count_of l OwnWords = length l.deal.own
count_of l (Triples p) = length (list_of l.deal.triples l.deal.me.0 p)
count_of l (BitTriples p) = length (list_of l.deal.bits l.deal.me.0 p)
count_of l (Pairs p) = length (list_of l.deal.pairs l.deal.me.0 p)

-- a list is short: its cursor, and how many items it has
abbrev pub short : Source → ℕ → ℕ → Want
short Inputs at count = want.ShortInput at count
short OwnWords at count = want.ShortDeal kind.Own at count
short (Triples p) at count = want.ShortDeal kind.Mul at count
short (BitTriples p) at count = want.ShortDeal kind.And at count
short (Pairs p) at count = want.ShortDeal kind.Pair at count

abbrev pub want_of : Lists → Cursors → Need → Want
want_of l c Nothing = want.Nothing
want_of l c (Item s) = if nat_lt (c s) (count_of l s) then want.Nothing else short s (c s) (count_of l s)
want_of l c (Packet p n) = want.Words (host p) n
want_of l c (Unequal x y) = want.Unequal x y
want_of l c Ended = want.Ended

-- a packet is awaited from one of so many hosts, and is not too long
abbrev pub IsFromHost : ℕ → Want → Type 0
IsFromHost hosts want.Nothing = Unit {0}
IsFromHost hosts (want.Words p n) = (p.0 < hosts) × (n ≤ most_packet_words)
IsFromHost hosts want.Ended = Unit {0}
IsFromHost hosts (want.ShortInput at count) = Unit {0}
IsFromHost hosts (want.ShortDeal kind at count) = Unit {0}
IsFromHost hosts (want.Unequal left right) = Unit {0}

-- what the next instruction of a machine needs
abbrev pub wanted : Kept → Want
wanted m = want_of m.lists (cursors_of m.taken) (need (state_of m))
