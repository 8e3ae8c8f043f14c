-- How words are moved.
use Rattle.std.specs.Prelude.{ℕ, zero, suc, Bool, true, false, ◌&&◌, ◌||◌, ◌==◌, not, if◌then◌else◌, unwrap_or, List, [], ◌∷◌, ◌++◌, map, slice_get}
use Rattle.std.specs.List.{list_any}
use Rattle.std.specs.Option.{option_map_or}
use Rattle.vd_base.specs.declared.ids.HostId.{HostId}
use Rattle.vd_base.specs.declared.ids.SlotId.{SlotId}
use Rattle.vd_base.specs.declared.protocols.HostSet.{HostSet}
use Rattle.vd_base.specs.declared.protocols.Proto.{Proto}
use Rattle.vd_base.specs.declared.protocols.Proto.TheVariants.{Local, Rep, Commit, Add, Xor}
use Rattle.vd_base.specs.HostSets.{host, same_host, has_host, outside, size}
use Rattle.vd_base.specs.Moves.{move_at}
use Rattle.vd_base.specs.Costs.{op_cost_at}
use Rattle.vd_base.specs.Holders.{has_clear, is_holder, proto_in}
use Rattle.vd_core.specs.declared.normal.Right.{Right}
use Rattle.vd_core.specs.declared.normal.Right.TheVariants.{Lit, Turn, Copy, Apply, Input, Declassify, Endorse, Load, Get}
use Rattle.vd_draw_rows.specs.declared.row.Arrow.{Arrow}
use Rattle.vd_draw_rows.specs.declared.row.Arrow.TheVariants.{Clear, Checked, Opened, Revealed, Shared, Committed, Converted, Stays}
use Rattle.vd_draw_rows.specs.declared.row.Move.{Move}

-- ---- what leaves a host

abbrev pub arrow_unless_stays : Bool → Arrow → Arrow
arrow_unless_stays stays arrow = if stays then Stays else arrow

abbrev pub from_local : HostId → Proto → Arrow
from_local h (Local k) = arrow_unless_stays (same_host h k) Clear
from_local h (Rep set) = Clear
from_local h (Commit p v) = Committed
from_local h (Add a b) = Shared
from_local h (Xor a b) = Shared

abbrev pub from_copies : HostSet → Proto → Arrow
from_copies set (Local k) = arrow_unless_stays (has_host set k) Checked
from_copies set (Rep other) = arrow_unless_stays (size (outside other set) == 0) Checked
from_copies set to = Stays

abbrev pub from_committed : HostId → Proto → Arrow
from_committed p (Local k) = arrow_unless_stays (same_host p k) Revealed
from_committed p (Rep set) = Revealed
from_committed p to = Stays

abbrev pub from_sums : Proto → Arrow
from_sums (Local k) = Opened
from_sums (Rep set) = Opened
from_sums (Xor a b) = Converted
from_sums to = Stays

abbrev pub from_bits : Proto → Arrow
from_bits (Local k) = Opened
from_bits (Rep set) = Opened
from_bits (Add a b) = Converted
from_bits to = Stays

abbrev pub arrow_of : Proto → Proto → Arrow
arrow_of (Local h) to = from_local h to
arrow_of (Rep set) to = from_copies set to
arrow_of (Commit p v) to = from_committed p to
arrow_of (Add a b) to = from_sums to
arrow_of (Xor a b) to = from_bits to

-- a host has the word in clear where it goes, and had it not where it comes from: it is told the word
abbrev pub is_told : HostId → Proto → Proto → Bool
is_told h from to = has_clear h to && not (has_clear h from)

-- nothing is drawn where a word stays where it is, or goes from copies to hosts that have one
abbrev pub is_seen : Proto → Proto → Bool
is_seen (Local h) (Local k) = not (same_host h k)
is_seen (Rep set) (Local k) = not (has_host set k)
is_seen (Rep set) (Rep other) = not (size (outside other set) == 0)
is_seen (Commit p v) (Commit q w) = false
is_seen (Add a b) (Add c d) = false
is_seen (Xor a b) (Xor c d) = false
is_seen from to = true

-- ---- the word of a slot goes to a protocol

abbrev pub move_of : List Proto → SlotId → Proto → Move
move_of list s to = record { slot = s; from = proto_in list s.0; to = to; cost = unwrap_or (move_at (proto_in list s.0) to) 0 }

-- ---- words that are told to hosts: to each of the first n that passes the test

abbrev pub told_if : Bool → Move → List Move
told_if test move = if test then move ∷ [] else []

abbrev pub told_to : List Proto → SlotId → (HostId → Bool) → ℕ → List Move
told_to list s test zero = []
told_to list s test (suc n) = told_to list s test n ++ told_if (test (host n)) (move_of list s (Local (host n)))

-- an index, to each host at which the array is kept
abbrev pub index_moves : List Proto → ℕ → SlotId → SlotId → List Move
index_moves list n v i = told_to list i (is_holder (proto_in list v.0)) n

-- the index of an element, and then the word
abbrev pub element_moves : List Proto → ℕ → SlotId → SlotId → Move → List Move
element_moves list n v i last = index_moves list n v i ++ last ∷ []

abbrev pub one_move : List Proto → SlotId → Proto → List Move
one_move list s to = move_of list s to ∷ []

-- ---- the words that are moved where a right side is bound to x

abbrev pub right_moves : List Proto → ℕ → SlotId → Right → List Move
right_moves list n x (Lit k) = []
right_moves list n x Turn = []
right_moves list n x (Copy y) = one_move list y (proto_in list x.0)
right_moves list n x (Apply o ys) = map (λ y. move_of list y (proto_in list x.0)) ys
right_moves list n x (Input h) = []
right_moves list n x (Declassify y to) = one_move list y (proto_in list x.0)
right_moves list n x (Endorse y to) = one_move list y (proto_in list x.0)
right_moves list n x (Load v) = one_move list v (proto_in list x.0)
right_moves list n x (Get v i) = element_moves list n v i (move_of list v (proto_in list x.0))

-- an element of an array is read: all of the words but the last are its index
abbrev pub is_indexed : Right → Bool
is_indexed (Get v i) = true
is_indexed other = false

-- an input, or the number of a loop's turn
abbrev pub is_alone : Right → Bool
is_alone (Input h) = true
is_alone Turn = true
is_alone other = false

-- what the operation costs at a protocol
abbrev pub operation_of : Right → Proto → ℕ
operation_of (Apply o ys) p = unwrap_or (op_cost_at o p) 0
operation_of other p = 0

-- ---- who takes part in branches: who is told something there, and where a slot is kept that is named there

abbrev pub kept_at : List Proto → HostId → SlotId → Bool
kept_at list h s = option_map_or (λ p. is_holder p h) (slice_get list s.0) false

abbrev pub is_part : List Proto → List SlotId → List HostId → HostId → Bool
is_part list named told h = list_any (same_host h) told || list_any (kept_at list h) named
