-- The table of moves: what it costs to bring a value from one protocol to another, or that the two do not join.
use Rattle.std.specs.Prelude.{ℕ, ◌*◌, ◌-◌, if◌then◌else◌, Bool, ◌&&◌, ◌||◌, Option, Some, None}
use Rattle.vd_base.specs.declared.ids.HostId.{HostId}
use Rattle.vd_base.specs.declared.protocols.HostSet.{HostSet}
use Rattle.vd_base.specs.declared.protocols.Proto.{Proto}
use Rattle.vd_base.specs.declared.protocols.Proto.TheVariants.{Local, Rep, Commit, Add, Xor}
use Rattle.vd_base.specs.HostSets.{same_host, host_set, has_host, size, outside, is_pair}

-- `cost` where the test holds, and else no move
abbrev pub move_if : Bool → ℕ → Option ℕ
move_if test cost = if test then Some cost else None

abbrev pub same_hosts : HostId → HostId → HostId → HostId → Bool
same_hosts a b c d = same_host a c && same_host b d

abbrev pub is_either : HostId → HostId → HostId → Bool
is_either h a b = same_host h a || same_host h b

abbrev pub from_local : HostId → Proto → Option ℕ
from_local h (Local k) = Some (if same_host h k then 0 else 5)
from_local h (Rep set) = Some (5 * (size set - (if has_host set h then 1 else 0)))
from_local h (Commit p v) = move_if (same_host h p) 10
from_local h (Add a b) = move_if (is_either h a b) 6
from_local h (Xor a b) = move_if (is_either h a b) 6

abbrev pub from_copies : HostSet → Proto → Option ℕ
from_copies set (Local k) = Some (if has_host set k then 0 else 5 * size set)
from_copies set (Rep other) = Some (5 * size set * size (outside other set))
from_copies set (Commit p v) = None
from_copies set (Add a b) = move_if (has_host set a && has_host set b) 0
from_copies set (Xor a b) = move_if (has_host set a && has_host set b) 0

abbrev pub from_committed : HostId → HostId → Proto → Option ℕ
from_committed p v (Local k) = if same_host k p then Some 0 else move_if (same_host k v) 12
from_committed p v (Rep set) = move_if (is_pair set p v) 12
from_committed p v (Commit q w) = move_if (same_hosts p v q w) 0
from_committed p v (Add a b) = None
from_committed p v (Xor a b) = None

-- from shares of either kind to where the value is in clear
abbrev pub opened : HostId → HostId → Proto → Option ℕ
opened a b (Local k) = move_if (is_either k a b) 5
opened a b (Rep set) = move_if (is_pair set a b) 10
opened a b p = None

abbrev pub from_added : HostId → HostId → Proto → Option ℕ
from_added a b (Add c d) = move_if (same_hosts a b c d) 0
from_added a b (Xor c d) = move_if (same_hosts a b c d) 212
from_added a b p = opened a b p

abbrev pub from_xored : HostId → HostId → Proto → Option ℕ
from_xored a b (Add c d) = move_if (same_hosts a b c d) 210
from_xored a b (Xor c d) = move_if (same_hosts a b c d) 0
from_xored a b p = opened a b p

abbrev pub move_at : Proto → Proto → Option ℕ
move_at (Local h) to = from_local h to
move_at (Rep set) to = from_copies set to
move_at (Commit p v) to = from_committed p v to
move_at (Add a b) to = from_added a b to
move_at (Xor a b) to = from_xored a b to
