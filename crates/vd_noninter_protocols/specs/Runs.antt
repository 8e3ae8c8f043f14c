-- A run of a program in clear, and the words that come to a host in it.
use Rattle.std.specs.Prelude.{ℕ, List, [], ◌∷◌, ◌++◌, map}
use Rattle.vd_base.specs.declared.ids.HostId.{HostId}
use Rattle.vd_base.specs.declared.ids.SlotId.{SlotId}
use Rattle.vd_base.specs.declared.protocols.Proto.{Proto}
use Rattle.vd_core.specs.declared.normal.Right.{Right}
use Rattle.vd_core.specs.declared.normal.Stmt.{Stmt}
use Rattle.vd_core.specs.declared.normal.Stmt.TheOpen.{Stmt-F}
use Rattle.vd_constraints.specs.declared.labels.Labels.{Labels}
use Rattle.vd_semantics.specs.ProgramMeaning.{SlotState}
use Rattle.vd_noninter_protocols.specs.Hearing.{Heard, heard, heard_step}

-- a host, and where the slots of a program stand
pub record Hearer : Type 0 where
  pub protocols : List Proto
  pub host : HostId

-- a run, and the words that came to the host so far
pub record HeardRun : Type 0 where
  pub state : SlotState
  pub words : List ℕ

abbrev pub no_labels : Labels
no_labels = record { slots = []; blocks = [] }

-- what statements do, and the words that come to the host in them. Labels do not matter to it
abbrev pub heard_by : Hearer → Stmt → Heard
heard_by x = heard x.protocols x.host no_labels

-- a statement over what its blocks do, and those that have no block
abbrev pub step_of : Hearer → Stmt-F Heard → Heard
step_of x = heard_step x.protocols x.host no_labels

abbrev pub binding : Hearer → SlotId → Right → Heard
binding x slot right = step_of x (Stmt-F.Let slot right)

abbrev pub making : Hearer → SlotId → ℕ → Heard
making x array size = step_of x (Stmt-F.NewArray array size)

abbrev pub storing : Hearer → SlotId → SlotId → Heard
storing x variable slot = step_of x (Stmt-F.Store variable slot)

abbrev pub writing : Hearer → SlotId → SlotId → SlotId → Heard
writing x array index slot = step_of x (Stmt-F.Put array index slot)

abbrev pub telling : Hearer → SlotId → HostId → ℕ → Heard
telling x slot host offset = step_of x (Stmt-F.Output slot host offset)

abbrev pub all_heard : Hearer → List Stmt → List Heard
all_heard x body = map (heard_by x) body

-- the run after a statement, in that turn of the innermost loop
abbrev pub after : Heard → ℕ → HeardRun → HeardRun
after s turn r = record { state = s.run turn r.state; words = r.words ++ s.words turn r.state }

-- and after statements, one after another
abbrev pub after_all : List Heard → ℕ → HeardRun → HeardRun
after_all [] turn r = r
after_all (s ∷ more) turn r = after_all more turn (after s turn r)
