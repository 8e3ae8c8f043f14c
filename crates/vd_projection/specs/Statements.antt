-- What each statement of a program makes for a host by itself: instructions, and fresh registers.
use Rattle.std.specs.Prelude.{ℕ, ◌+◌, ◌*◌, ◌≤◌, Bool, ◌||◌, List, length, slice_index}
use Rattle.vd_base.specs.declared.ids.SlotId.{SlotId}
use Rattle.vd_base.specs.declared.protocols.Proto.{Proto}
use Rattle.vd_core.specs.declared.normal.NormalForm.{NormalForm}
use Rattle.vd_core.specs.declared.normal.Stmt.{map-Stmt}
use Rattle.vd_core.specs.declared.normal.Stmt.TheOpen.{Stmt-F}
use Rattle.vd_core.specs.Facts.{IsWellMade, statement_count}
use Rattle.vd_execution.specs.Code.{Code, Finished, Then, Send, Recv, Choose, Repeat}
use Rattle.vd_execution.specs.Joint.{code_of}
use Rattle.vd_execution.specs.Plans.{Ends, joint_of}
use Rattle.vd_split.specs.Block.{Block, End, Let, NewVar, NewArray, Store, Put, Output, If, For, block_of, each}
use Rattle.vd_split.specs.Suite.{picked}
use Rattle.vd_split.specs.Emission.{Emitting, Emitted, Emission, parts_at, delivered, in_turn, stmt_emission, after_loop_registers, emitting_at_start}
use Rattle.vd_backend_laws.specs.Parts.{suite_calls}
use Rattle.vd_backend_laws.specs.Suite.{IsOver}
use Rattle.vd_backend_laws.specs.Whole.{code_at}

-- the instructions that a statement makes for a host, at most
abbrev pub most_instructions : ℕ
most_instructions = 1024

-- the registers that it takes of a host, at most
abbrev pub most_fresh_registers : ℕ
most_fresh_registers = 2048

-- the instructions of a code: a branch and a loop are one each, besides those that they hold
abbrev pub instructions : Code → ℕ
instructions Finished = 0
instructions (Then action c) = 1 + instructions c
instructions (Send peer registers c) = 1 + instructions c
instructions (Recv peer registers c) = 1 + instructions c
instructions (Choose guard first other c) = 1 + (instructions first + (instructions other + instructions c))
instructions (Repeat counter turn count body c) = 1 + (instructions body + instructions c)

module _ (hosts : ℕ) (proto : ℕ → Proto) where
  abbrev pub State : Type 0
  State = Emitting (suite_calls hosts) proto

  abbrev pub Making : Type 0
  Making = Emission (suite_calls hosts) proto

  abbrev pub Statement : Type 0
  Statement = Stmt-F Making

  abbrev pub made_by : Statement → State → Emitted (suite_calls hosts) proto
  made_by stmt e = (stmt_emission (suite_calls hosts) proto stmt).emit e

  -- ---- one statement

  -- the same hosts take part, and nothing is made
  abbrev pub emptied : Making → Making
  emptied f = record { takes_part = f.takes_part; acts_at = f.acts_at; emit = λ e. record { tree = Ends; state = e } }

  -- a statement whose blocks hold nothing
  abbrev pub alone : Statement → Statement
  alone stmt = map-Stmt Making Making emptied stmt

  -- the cells of the array that it makes
  abbrev pub own_cells : Statement → ℕ
  own_cells (Stmt-F.NewArray v cells) = cells
  own_cells other = 0

  -- by itself it makes few instructions for each host, and takes few registers there besides the cells of an array
  pub record MakesFew (stmt : Statement) (e : State) : Type 0 where
    pub code : (h : ℕ) → instructions (code_of h (joint_of (made_by (alone stmt) e).tree)) ≤ most_instructions
    pub registers : (h : ℕ) → slice_index (made_by (alone stmt) e).state.next h ≤ slice_index e.next h + most_fresh_registers + own_cells stmt

  -- ---- all statements

  abbrev pub statements : Block → List Making
  statements b = each (stmt_emission (suite_calls hosts) proto) b

  abbrev pub all_of : Block → Making
  all_of b = in_turn (suite_calls hosts) proto (statements b)

  -- where the first block of a branch begins: each host that takes part has the guard
  abbrev pub in_branch : SlotId → Block → Block → State → State
  in_branch x first other e =
      let takes_part : ℕ → Bool = λ h. (all_of first).takes_part h || (all_of other).takes_part h in
      let s = suite_calls hosts in
      record { next = (delivered s proto (proto x.0) (parts_at s proto e x) (picked 0 hosts takes_part) e.next).next; held = e.held; loop = e.loop }

  -- where the block of a loop begins: each host that has an instruction of it has a counter
  abbrev pub in_loop : Block → State → State
  in_loop body e = record { next = after_loop_registers (all_of body).acts_at 0 e.next; held = e.held; loop = e.next }

  -- each statement of a block, and of the blocks in it, makes few where it stands
  abbrev pub EachMakesFew : Block → State → Type 0
  EachMakesFew End e = Unit {0}
  EachMakesFew (Let x right rest) e = MakesFew (Stmt-F.Let x right) e × EachMakesFew rest (made_by (Stmt-F.Let x right) e).state
  EachMakesFew (NewVar v x rest) e = MakesFew (Stmt-F.NewVar v x) e × EachMakesFew rest (made_by (Stmt-F.NewVar v x) e).state
  EachMakesFew (NewArray v cells rest) e = MakesFew (Stmt-F.NewArray v cells) e × EachMakesFew rest (made_by (Stmt-F.NewArray v cells) e).state
  EachMakesFew (Store v x rest) e = MakesFew (Stmt-F.Store v x) e × EachMakesFew rest (made_by (Stmt-F.Store v x) e).state
  EachMakesFew (Put v i x rest) e = MakesFew (Stmt-F.Put v i x) e × EachMakesFew rest (made_by (Stmt-F.Put v i x) e).state
  EachMakesFew (Output x h offset rest) e = MakesFew (Stmt-F.Output x h offset) e × EachMakesFew rest (made_by (Stmt-F.Output x h offset) e).state
  EachMakesFew (If x first other offset rest) e =
      let stmt : Statement = Stmt-F.If x (statements first) (statements other) offset in
      let inner = in_branch x first other e in
      MakesFew stmt e × EachMakesFew first inner × EachMakesFew other ((all_of first).emit inner).state × EachMakesFew rest (made_by stmt e).state
  EachMakesFew (For count body rest) e =
      let stmt : Statement = Stmt-F.For count (statements body) in
      MakesFew stmt e × EachMakesFew body (in_loop body e) × EachMakesFew rest (made_by stmt e).state

-- each statement of a program, where it stands at the making of the program's code
abbrev pub StatementsMakeFew : Type 0
StatementsMakeFew =
    (program : NormalForm) (proto : ℕ → Proto) → IsWellMade program → ((x : ℕ) → IsOver (length program.hosts) (proto x))
    → EachMakesFew (length program.hosts) proto (block_of program.body) (emitting_at_start (suite_calls (length program.hosts)) proto)

-- so the code of a host has so many instructions for each statement, at most
abbrev pub CodeIsShort : Type 0
CodeIsShort =
    (program : NormalForm) (proto : ℕ → Proto) → IsWellMade program → ((x : ℕ) → IsOver (length program.hosts) (proto x))
    → (h : ℕ) → instructions (code_of h (code_at proto program)) ≤ most_instructions * statement_count program.body
