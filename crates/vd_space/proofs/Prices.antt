-- What the tables of costs and moves hold is small.
use Rattle.std.proofs.Common.{ℕ, ◌*◌, ◌^◌, ◌<◌, ◌≤◌, Bool, true, false, cond, ◌&&◌, Option, Some, None, arith, mul-le-mul}
use Rattle.std.specs.Prelude.{unwrap_or, bit_and}
use Rattle.std.specs.Int.{bit_not, w8}
use Rattle.std.proofs.lemmas.Nat.{ones-le, and_le_l}
use Rattle.vd_base.specs.declared.ids.HostId.{HostId}
use Rattle.vd_base.specs.declared.operations.Op.{Op}
use Rattle.vd_base.specs.declared.operations.Op.TheVariants as op
use Rattle.vd_base.specs.declared.rows.Row.{Row}
use Rattle.vd_base.specs.declared.rows.Row.TheVariants.{Constant, Carry, Input, Variable, Apply}
use Rattle.vd_base.specs.declared.protocols.HostSet.{HostSet}
use Rattle.vd_base.specs.declared.protocols.Proto.{Proto}
use Rattle.vd_base.specs.declared.protocols.Proto.TheVariants.{Local, Rep, Commit, Add, Xor}
use Rattle.vd_base.specs.HostSets.{same_host, has_host, size, outside, is_pair}
use Rattle.vd_base.specs.Costs.{added_cost, xored_cost, op_cost_at, made_at, input_at, cost_at}
use Rattle.vd_base.specs.Moves.{move_if, same_hosts, is_either, from_local, from_copies, from_committed, opened, from_added, from_xored, move_at}

-- a protocol of at most four hosts
abbrev pub IsSmall : Proto → Type 0
IsSmall (Local h) = Unit {0}
IsSmall (Rep set) = set.bits < 2 ^ 4
IsSmall (Commit p v) = Unit {0}
IsSmall (Add a b) = Unit {0}
IsSmall (Xor a b) = Unit {0}

small_size : (set : HostSet) → set.bits < 2 ^ 4 → size set ≤ 4
small_size set low = ones-le 4 set.bits low

small_outside : (set other : HostSet) → set.bits < 2 ^ 4 → size (outside set other) ≤ 4
small_outside set other low =
    let less = and_le_l set.bits (bit_not w8 other.bits) in
    ones-le 4 (bit_and set.bits (bit_not w8 other.bits)) (omega (arith, less, low))

either : (test : Bool) (a b most : ℕ) → a ≤ most → b ≤ most → cond test a b ≤ most
either true a b most first second = first
either false a b most first second = second

either_price : (test : Bool) (a b : Option ℕ) (most : ℕ) → unwrap_or a 0 ≤ most → unwrap_or b 0 ≤ most → unwrap_or (cond test a b) 0 ≤ most
either_price true a b most first second = first
either_price false a b most first second = second

if_price : (test : Bool) (cost most : ℕ) → cost ≤ most → unwrap_or (move_if test cost) 0 ≤ most
if_price test cost most low = either_price test (Some cost) None most low (omega arith)

-- ---- operations

added_price : (o : Op) → unwrap_or (added_cost o) 0 ≤ 220
added_price op.Add = omega arith
added_price op.Sub = omega arith
added_price (op.Scale k) = omega arith
added_price op.Mul = omega arith
added_price o = omega arith

xored_price : (o : Op) → unwrap_or (xored_cost o) 0 ≤ 220
xored_price op.Add = omega arith
xored_price op.Sub = omega arith
xored_price (op.Scale k) = omega arith
xored_price op.Mul = omega arith
xored_price o = omega arith

op_price : (o : Op) (p : Proto) → IsSmall p → unwrap_or (op_cost_at o p) 0 ≤ 220
op_price o (Local h) small = omega arith
op_price o (Rep set) small = let few = small_size set small in omega (arith, few)
op_price o (Commit p v) small = omega arith
op_price o (Add a b) small = added_price o
op_price o (Xor a b) small = xored_price o

made_price : (p : Proto) → unwrap_or (made_at p) 0 ≤ 220
made_price (Commit p v) = omega arith
made_price p = omega arith

input_price : (h : HostId) (p : Proto) → unwrap_or (input_at h p) 0 ≤ 220
input_price h (Local k) = either_price (same_host h k) (Some 0) None 220 (omega arith) (omega arith)
input_price h p = omega arith

pub row_price : (row : Row) (p : Proto) → IsSmall p → unwrap_or (cost_at row p) 0 ≤ 220
row_price Constant p small = made_price p
row_price Carry p small = omega arith
row_price (Input h) p small = input_price h p
row_price Variable p small = made_price p
row_price (Apply o) p small = op_price o p small

-- ---- moves

local_price : (h : HostId) (to : Proto) → IsSmall to → unwrap_or (from_local h to) 0 ≤ 212
local_price h (Local k) small = either (same_host h k) 0 5 212 (omega arith) (omega arith)
local_price h (Rep set) small = let few = small_size set small in omega (arith, few)
local_price h (Commit p v) small = if_price (same_host h p) 10 212 (omega arith)
local_price h (Add a b) small = if_price (is_either h a b) 6 212 (omega arith)
local_price h (Xor a b) small = if_price (is_either h a b) 6 212 (omega arith)

copies_price : (set : HostSet) (to : Proto) → set.bits < 2 ^ 4 → IsSmall to → unwrap_or (from_copies set to) 0 ≤ 212
copies_price set (Local k) few small = let size_few = small_size set few in either (has_host set k) 0 (5 * size set) 212 (omega arith) (omega (arith, size_few))
copies_price set (Rep other) few small =
    let size_few = small_size set few in
    let other_few = small_outside other set small in
    let cost_few : 5 * size set ≤ 20 = omega (arith, size_few) in
    let product : 5 * size set * size (outside other set) ≤ 20 * 4 = mul-le-mul cost_few other_few in
    omega (arith, product)
copies_price set (Commit p v) few small = omega arith
copies_price set (Add a b) few small = if_price (has_host set a && has_host set b) 0 212 (omega arith)
copies_price set (Xor a b) few small = if_price (has_host set a && has_host set b) 0 212 (omega arith)

committed_price : (p v : HostId) (to : Proto) → unwrap_or (from_committed p v to) 0 ≤ 212
committed_price p v (Local k) = either_price (same_host k p) (Some 0) (move_if (same_host k v) 12) 212 (omega arith) (if_price (same_host k v) 12 212 (omega arith))
committed_price p v (Rep set) = if_price (is_pair set p v) 12 212 (omega arith)
committed_price p v (Commit q w) = if_price (same_hosts p v q w) 0 212 (omega arith)
committed_price p v (Add a b) = omega arith
committed_price p v (Xor a b) = omega arith

opened_price : (a b : HostId) (to : Proto) → unwrap_or (opened a b to) 0 ≤ 212
opened_price a b (Local k) = if_price (is_either k a b) 5 212 (omega arith)
opened_price a b (Rep set) = if_price (is_pair set a b) 10 212 (omega arith)
opened_price a b p = omega arith

added_move_price : (a b : HostId) (to : Proto) → unwrap_or (from_added a b to) 0 ≤ 212
added_move_price a b (Local k) = opened_price a b (Local k)
added_move_price a b (Rep set) = opened_price a b (Rep set)
added_move_price a b (Commit p v) = opened_price a b (Commit p v)
added_move_price a b (Add c d) = if_price (same_hosts a b c d) 0 212 (omega arith)
added_move_price a b (Xor c d) = if_price (same_hosts a b c d) 212 212 (omega arith)

xored_move_price : (a b : HostId) (to : Proto) → unwrap_or (from_xored a b to) 0 ≤ 212
xored_move_price a b (Local k) = opened_price a b (Local k)
xored_move_price a b (Rep set) = opened_price a b (Rep set)
xored_move_price a b (Commit p v) = opened_price a b (Commit p v)
xored_move_price a b (Add c d) = if_price (same_hosts a b c d) 210 212 (omega arith)
xored_move_price a b (Xor c d) = if_price (same_hosts a b c d) 0 212 (omega arith)

pub move_price : (from to : Proto) → IsSmall from → IsSmall to → unwrap_or (move_at from to) 0 ≤ 212
move_price (Local h) to few small = local_price h to small
move_price (Rep set) to few small = copies_price set to few small
move_price (Commit p v) to few small = committed_price p v to
move_price (Add a b) to few small = added_move_price a b to
move_price (Xor a b) to few small = xored_move_price a b to
