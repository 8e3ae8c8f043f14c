-- The protocols of slots, and what is emitted for them.
use Rattle.std.specs.Prelude.{ℕ, ◌++◌, ◌||◌, Bool, List, [], slice_index_or}
use Rattle.std.specs.List.{list_any}
use Rattle.vd_base.specs.declared.ids.HostId.{HostId}
use Rattle.vd_base.specs.declared.ids.SlotId.{SlotId}
use Rattle.vd_base.specs.declared.protocols.Proto.{Proto}
use Rattle.vd_base.specs.declared.protocols.Proto.TheVariants.{Local}
use Rattle.vd_base.specs.Holders.{proto_in}
use Rattle.vd_core.specs.declared.normal.Right.{Right}
use Rattle.vd_core.specs.declared.normal.Stmt.{Stmt}
use Rattle.vd_core.specs.declared.normal.NormalForm.{NormalForm}
use Rattle.vd_split.specs.Suite.{Made, Calls}
use Rattle.vd_split.specs.Suite.{picked}
use Rattle.vd_split.specs.Emission.{Emitting, delivered, all_moved, and_on, parts_at, right_made, with_parts, store_made, put_made, output_made, if_made, for_made, emission, block_emission, emitting_at_start, loop_registers, after_loop_registers}
use Rattle.vd_execution.specs.Gadgets.{Gadget}
use Rattle.vd_execution.specs.declared.instructions.Line.{Line}
use Rattle.vd_execution.specs.Plans.{Plan, joint_of}
use Rattle.vd_execution.specs.Text.{flat}
use Rattle.vd_duet.specs.Builder.{Builder}
use Rattle.vd_duet.specs.Calls.{emitted}
use Rattle.vd_split.specs.Lines.{called, with_more, emitted_onto, if_lines, for_lines}

-- what is given goes behind what is there
abbrev pub joined : {X : Type 0} → List X → Made Gadget (List X) → Builder → List X × Builder
joined xs made c = (xs ++ made.given, record { lines = c.lines ++ emitted made.acts; next = made.next })

module _ {P : Type 0} (s : Calls Gadget P) (protos : List Proto) where
  abbrev pub state : Builder → List P → List ℕ → Emitting s (proto_in protos)
  state c held turns = record { next = c.next; held = held; loop = turns }

  -- the parts of a slot
  abbrev pub parts_in : List P → SlotId → P
  parts_in held x = slice_index_or held x.0 s.nowhere

  -- a slot's word is moved
  abbrev pub slot_moved : List P → SlotId → Proto → List ℕ → Made Gadget P
  slot_moved held x onto = s.move (proto_in protos x.0) onto (parts_in held x)

  -- a word is moved to each host
  abbrev pub delivered_onto : Proto → P → List HostId → Builder → List (ℕ × ℕ) × Builder
  delivered_onto p x hosts c = called (delivered s (proto_in protos) p x hosts c.next) c

  abbrev pub slot_delivered_onto : List P → SlotId → List HostId → Builder → List (ℕ × ℕ) × Builder
  slot_delivered_onto held x hosts c = delivered_onto (proto_in protos x.0) (parts_in held x) hosts c

  -- operands are moved
  abbrev pub moved_onto : Proto → List P → List SlotId → Builder → List P × Builder
  moved_onto q held xs c = called (all_moved s (proto_in protos) q (state c held []) xs c.next) c

  abbrev pub right_onto : Proto → Right → List P → List ℕ → Builder → P × Builder
  right_onto q right held turns c = called (right_made s (proto_in protos) q right (state c held turns)) c

  unfoldable pub stmt_onto : Stmt → List P → List ℕ → Builder → Builder × List P
  stmt_onto stmt held turns c = emitted_onto s (proto_in protos) ((emission s (proto_in protos) stmt).emit (state c held turns)) c

  unfoldable pub block_onto : List Stmt → List P → List ℕ → Builder → Builder × List P
  block_onto body held turns c = emitted_onto s (proto_in protos) ((block_emission s (proto_in protos) body).emit (state c held turns)) c

  unfoldable pub let_onto : SlotId → Right → List P → List ℕ → Builder → Builder × List P
  let_onto x right held turns c = emitted_onto s (proto_in protos) (with_parts s (proto_in protos) (right_made s (proto_in protos) (proto_in protos x.0) right (state c held turns)) (state c held turns)) c

  unfoldable pub variable_onto : SlotId → SlotId → List P → Builder → Builder × List P
  variable_onto v x held c =
      emitted_onto s (proto_in protos) (with_parts s (proto_in protos) (and_on s (proto_in protos) (s.move (proto_in protos x.0) (proto_in protos v.0) (parts_at s (proto_in protos) (state c held []) x) c.next) (s.keep (proto_in protos v.0))) (state c held [])) c

  unfoldable pub array_onto : SlotId → ℕ → List P → Builder → Builder × List P
  array_onto v size held c = emitted_onto s (proto_in protos) (with_parts s (proto_in protos) (s.cells (proto_in protos v.0) size c.next) (state c held [])) c

  unfoldable pub store_onto : SlotId → SlotId → List P → Builder → Builder × List P
  store_onto v x held c = emitted_onto s (proto_in protos) (store_made s (proto_in protos) v x (state c held [])) c

  unfoldable pub put_onto : SlotId → SlotId → SlotId → List P → Builder → Builder × List P
  put_onto v i x held c = emitted_onto s (proto_in protos) (put_made s (proto_in protos) v i x (state c held [])) c

  unfoldable pub output_onto : SlotId → HostId → List P → Builder → Builder × List P
  output_onto x h held c = emitted_onto s (proto_in protos) (output_made s (proto_in protos) x h (state c held [])) c

  -- the hosts that take part in either of two blocks
  abbrev pub takers : List Stmt → List Stmt → ℕ → Bool
  takers t e h = (block_emission s (proto_in protos) t).takes_part h || (block_emission s (proto_in protos) e).takes_part h

  abbrev pub all_takers : List Stmt → List Stmt → List HostId
  all_takers t e = picked 0 s.hosts (takers t e)

  abbrev pub acting : List Stmt → ℕ → Bool
  acting body = (block_emission s (proto_in protos) body).acts_at

  -- a host has an instruction where the guard of two blocks is moved, and in a branch
  abbrev pub guard_acts : Proto → List Stmt → List Stmt → ℕ → Bool
  guard_acts from t e h = list_any (λ k. s.moves_at from (Local k) h) (picked 0 s.hosts (takers t e))

  abbrev pub branch_acts : Proto → List Stmt → List Stmt → ℕ → Bool
  branch_acts from t e h =
      guard_acts from t e h || (block_emission s (proto_in protos) t).takes_part h || (block_emission s (proto_in protos) e).takes_part h

-- a loop begins at the hosts that have it
abbrev pub opened_loop : (ℕ → Bool) → ℕ → Builder → List (ℕ × ℕ) × Builder
opened_loop has count c =
    (loop_registers has 0 c.next, record { lines = c.lines ++ for_lines count (loop_registers has 0 c.next); next = after_loop_registers has 0 c.next })

module _ {P : Type 0} (s : Calls Gadget P) (protos : List Proto) where
  unfoldable pub branch_onto : SlotId → List Stmt → List Stmt → List P → List ℕ → Builder → Builder × List P
  branch_onto x t e held turns c = emitted_onto s (proto_in protos) (if_made s (proto_in protos) x (block_emission s (proto_in protos) t) (block_emission s (proto_in protos) e) (state s protos c held turns)) c

  unfoldable pub loop_onto : ℕ → List Stmt → List P → List ℕ → Builder → Builder × List P
  loop_onto count body held turns c = emitted_onto s (proto_in protos) (for_made s (proto_in protos) count (block_emission s (proto_in protos) body) (state s protos c held turns)) c

  -- the guard at each host that takes part, which begins the branch
  unfoldable pub guarded : SlotId → List Stmt → List Stmt → List P → Builder → List (ℕ × ℕ) × Builder
  guarded x t e held c =
      let g = called (delivered s (proto_in protos) (proto_in protos x.0) (slice_index_or held x.0 s.nowhere) (picked 0 s.hosts (takers s protos t e)) c.next) c in (g.0, with_more (if_lines g.0) g.1)

  -- the plan of a program, and its lines
  abbrev pub program_plan : NormalForm → Plan Gadget
  program_plan program = ((block_emission s (proto_in protos) program.body).emit (emitting_at_start s (proto_in protos))).tree

  abbrev pub program_lines : NormalForm → List Line
  program_lines program = flat (joint_of (program_plan program)) []
