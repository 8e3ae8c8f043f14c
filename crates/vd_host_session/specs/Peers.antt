-- The peers of a host.
use Rattle.std.specs.Prelude.{ℕ, suc, ◌-◌, List, length, map, slice_index_or, [], if◌then◌else◌, nat_lt}
use Rattle.std.specs.List.{range_with_len}
use Rattle.vd_host_session.specs.declared.task.Task.{Task}

-- another host, and the address of the pair
pub record Peer : Type 0 where
  pub number : ℕ
  pub address : List ℕ

-- the host whose address is at this place: all hosts in order, without this one
abbrev pub number_at : ℕ → ℕ → ℕ
number_at me place = if nat_lt place me then place else suc place

abbrev pub address_of : Task → ℕ → List ℕ
address_of task place = slice_index_or task.addresses place []

abbrev pub peer_at : Task → ℕ → Peer
peer_at task place = record { number = number_at task.me.0 place; address = address_of task place }

-- the first of its peers, so many
abbrev pub first_peers : Task → ℕ → List Peer
first_peers task count = map (peer_at task) (range_with_len 0 count)

abbrev pub all_peers : Task → List Peer
all_peers task = first_peers task (length task.addresses)

-- the first of those behind it, so many
abbrev pub first_later : Task → ℕ → List Peer
first_later task count = map (peer_at task) (range_with_len task.me.0 count)

abbrev pub all_later : Task → List Peer
all_later task = first_later task (length task.addresses - task.me.0)
