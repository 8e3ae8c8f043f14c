-- Code in text order, and the same with the lengths of its blocks.
use Rattle.std.specs.Prelude.{◌≡◌, ℕ, ◌+◌, List, [], ◌∷◌, ◌++◌, length}
use Rattle.vd_execution.specs.Code.{Code, Finished, Then, Send, Recv, Choose, Repeat}
use Rattle.vd_base.specs.HostSets.{host}
use Rattle.vd_execution.specs.Text.{Open, AfterEnd, AfterElse, Reading}
use Rattle.vd_machine.specs.declared.ops.Plain.TheVariants as plain
use Rattle.vd_machine.specs.declared.ops.Op.{Op}
use Rattle.vd_machine.specs.declared.ops.Op.TheVariants.{Plain as One, If, For}
use Rattle.vd_machine.specs.declared.resolve.Block.{Block}
use Rattle.vd_machine.specs.declared.resolve.Block.TheVariants as block

-- how many instructions a code has
abbrev pub size : Code → ℕ
size Finished = 0
size (Then a c) = size c + 1
size (Send p rs c) = size c + 1
size (Recv p rs c) = size c + 1
size (Choose g first other c) = size first + size other + size c + 1
size (Repeat r turn count body c) = size body + size c + 1

-- the instructions of a code, and what stands behind them
abbrev pub ops_of : Code → List Op → List Op
ops_of Finished behind = behind
ops_of (Then a c) behind = One (plain.Do a) ∷ ops_of c behind
ops_of (Send p rs c) behind = One (plain.Send (host p) rs) ∷ ops_of c behind
ops_of (Recv p rs c) behind = One (plain.Recv (host p) rs) ∷ ops_of c behind
ops_of (Choose g first other c) behind = If g (size first) (size other) ∷ ops_of first (ops_of other (ops_of c behind))
ops_of (Repeat r turn count body c) behind = For r count (size body) ∷ ops_of body (ops_of c behind)

-- what stands behind a block, in the blocks around it
abbrev pub ops_behind : List Open → List Op
ops_behind [] = []
ops_behind (AfterEnd rest ∷ blocks) = ops_of rest (ops_behind blocks)
ops_behind (AfterElse other rest ∷ blocks) = ops_of other (ops_of rest (ops_behind blocks))

-- where blocks end, as the number of instructions from there on; a branch says where its other part begins too
abbrev pub blocks_of : List Open → List Block
blocks_of [] = []
blocks_of (AfterEnd rest ∷ blocks) = block.End (length (ops_of rest (ops_behind blocks))) ∷ blocks_of blocks
blocks_of (AfterElse other rest ∷ blocks) = block.Else (length (ops_of rest (ops_behind blocks))) (length (ops_of other (ops_of rest (ops_behind blocks)))) ∷ blocks_of blocks

abbrev pub backward : {X : Type 0} → List X → List X
backward [] = []
backward (x ∷ xs) = backward xs ++ x ∷ []

-- what was found so far is that of a reading
pub record Follows (ops : List Op) (blocks : List Block) (r : Reading) : Type 0 where
  pub ops_are : ops ≡ backward (ops_of r.code (ops_behind r.blocks))
  pub blocks_are : blocks ≡ backward (blocks_of r.blocks)
