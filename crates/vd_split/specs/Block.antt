-- Statements one after the other, each with what follows it. A fold over statements is a plain recursion over them.
use Rattle.std.specs.Prelude.{ℕ, List, [], ◌∷◌, map}
use Rattle.vd_base.specs.declared.ids.SlotId.{SlotId}
use Rattle.vd_base.specs.declared.ids.HostId.{HostId}
use Rattle.vd_core.specs.declared.normal.Right.{Right}
use Rattle.vd_core.specs.declared.normal.Stmt.{Stmt}
use Rattle.vd_core.specs.declared.normal.Stmt.TheOpen.{Stmt-F}
use Rattle.vd_core.specs.declared.normal.Stmt.TheFolds.{fold-Stmt}

pub data Block : Type 0 where
  End : Block
  Let : SlotId → Right → Block → Block
  NewVar : SlotId → SlotId → Block → Block
  NewArray : SlotId → ℕ → Block → Block
  Store : SlotId → SlotId → Block → Block
  Put : (array index word : SlotId) → Block → Block
  Output : SlotId → HostId → ℕ → Block → Block
  If : SlotId → (then_block else_block : Block) → ℕ → Block → Block
  For : ℕ → (body rest : Block) → Block

abbrev pub chain : List (Block → Block) → Block
chain [] = End
chain (f ∷ fs) = f (chain fs)

abbrev pub block_step : Stmt-F (Block → Block) → Block → Block
block_step (Stmt-F.Let x right) rest = Let x right rest
block_step (Stmt-F.NewVar v x) rest = NewVar v x rest
block_step (Stmt-F.NewArray v cells) rest = NewArray v cells rest
block_step (Stmt-F.Store v x) rest = Store v x rest
block_step (Stmt-F.Put v i x) rest = Put v i x rest
block_step (Stmt-F.Output x host offset) rest = Output x host offset rest
block_step (Stmt-F.If x then_block else_block offset) rest = If x (chain then_block) (chain else_block) offset rest
block_step (Stmt-F.For count body) rest = For count (chain body) rest

abbrev pub block_of : List Stmt → Block
block_of body = chain (map (fold-Stmt (Block → Block) block_step) body)

-- what a fold gives of each statement
abbrev pub each : {A : Type 0} → (Stmt-F A → A) → Block → List A
each f End = []
each f (Let x right rest) = f (Stmt-F.Let x right) ∷ each f rest
each f (NewVar v x rest) = f (Stmt-F.NewVar v x) ∷ each f rest
each f (NewArray v cells rest) = f (Stmt-F.NewArray v cells) ∷ each f rest
each f (Store v x rest) = f (Stmt-F.Store v x) ∷ each f rest
each f (Put v i x rest) = f (Stmt-F.Put v i x) ∷ each f rest
each f (Output x host offset rest) = f (Stmt-F.Output x host offset) ∷ each f rest
each f (If x then_block else_block offset rest) = f (Stmt-F.If x (each f then_block) (each f else_block) offset) ∷ each f rest
each f (For count body rest) = f (Stmt-F.For count (each f body)) ∷ each f rest
