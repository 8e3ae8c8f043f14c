-- Registers as a list of words, which grows as it is written; past its end stands 0.
use Rattle.std.specs.Prelude.{ℕ, zero, suc, ◌+◌, nat_lt, if◌then◌else◌, List, [], ◌∷◌, slice_index, slice_set}
use Rattle.vd_base.specs.declared.operations.Op.TheVariants as op
use Rattle.vd_base.specs.Operations.{operation}
use Rattle.vd_tape.specs.declared.deal_items.items.Triple.{Triple}
use Rattle.vd_tape.specs.declared.deal_items.items.PairItem.{PairItem}
use Rattle.vd_execution.specs.declared.instructions.Reg.{Reg}
use Rattle.vd_execution.specs.declared.instructions.Action.{Action}
use Rattle.vd_execution.specs.declared.instructions.Action.TheVariants as action
use Rattle.vd_execution.specs.Registers.{applied, digest_of, nth, words_from}
use Rattle.vd_semantics.specs.Stores.{put}

-- registers in turn get words; where one list is longer, its rest is left out
abbrev pub put_each : List ℕ → List Reg → List ℕ → List ℕ
put_each registers [] xs = registers
put_each registers (r ∷ rs) [] = registers
put_each registers (r ∷ rs) (x ∷ xs) = put_each (put 0 registers r.0 x) rs xs

-- the registers from r on get words
abbrev pub put_from : List ℕ → ℕ → List ℕ → List ℕ
put_from registers r [] = registers
put_from registers r (x ∷ xs) = put_from (put 0 registers r x) (r + 1) xs

-- count registers from r on get 0
abbrev pub cleared : List ℕ → ℕ → ℕ → List ℕ
cleared registers r zero = registers
cleared registers r (suc count) = cleared (slice_set registers r 0) (r + 1) count

-- the cell of an array; 0 past its end
abbrev pub cell_of : List ℕ → ℕ → ℕ → ℕ → ℕ
cell_of registers array count at = if nat_lt at count then slice_index registers (array + at) else 0

-- the cell of an array gets a word; past its end nothing is written
abbrev pub put_in_cell : List ℕ → ℕ → ℕ → ℕ → ℕ → List ℕ
put_in_cell registers array count at word = if nat_lt at count then put 0 registers (array + at) word else registers

abbrev pub put_three : List ℕ → Reg → Reg → Reg → Triple → List ℕ
put_three registers a b c item = put 0 (put 0 (put 0 registers a.0 item.a) b.0 item.b) c.0 item.c

abbrev pub put_two : List ℕ → Reg → Reg → PairItem → List ℕ
put_two registers s x item = put 0 (put 0 registers s.0 item.s) x.0 item.x

-- the registers after an action, which is given the words of the item that it takes
abbrev pub stored : List ℕ → Action → List ℕ → List ℕ
stored f (action.Const r k) ws = put 0 f r.0 k
stored f (action.Copy r x) ws = put 0 f r.0 (slice_index f x.0)
stored f (action.Apply o r x y) ws = put 0 f r.0 (applied o (slice_index f x.0) (slice_index f y.0))
stored f (action.Shl r x k) ws = put 0 f r.0 (operation (op.Shl k) (slice_index f x.0) 0 0)
stored f (action.Shr r x k) ws = put 0 f r.0 (operation (op.Shr k) (slice_index f x.0) 0 0)
stored f (action.Mux r c x y) ws = put 0 f r.0 (operation op.Mux (slice_index f c.0) (slice_index f x.0) (slice_index f y.0))
stored f (action.Own r) ws = put 0 f r.0 (nth ws 0)
stored f (action.Triple p a b c) ws = put 0 (put 0 (put 0 f a.0 (nth ws 0)) b.0 (nth ws 1)) c.0 (nth ws 2)
stored f (action.Bits p a b c) ws = put 0 (put 0 (put 0 f a.0 (nth ws 0)) b.0 (nth ws 1)) c.0 (nth ws 2)
stored f (action.Pair p s x) ws = put 0 (put 0 f s.0 (nth ws 0)) x.0 (nth ws 1)
stored f (action.Input r) ws = put 0 f r.0 (nth ws 0)
stored f (action.Print r) ws = f
stored f (action.Hash d n v) ws = put_from f d.0 (digest_of (words_from (slice_index f) n.0 8) (slice_index f v.0))
stored f (action.Same x y) ws = f
stored f (action.Zero r count) ws = cleared f r.0 count
stored f (action.Get r x count i) ws = put 0 f r.0 (cell_of f x.0 count (slice_index f i.0))
stored f (action.Put x count i s) ws = put_in_cell f x.0 count (slice_index f i.0) (slice_index f s.0)
