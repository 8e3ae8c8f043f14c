-- What protocols offer to the splitter, and what it owes them.
use Rattle.std.specs.Prelude.{◌≡◌, ℕ, ◌+◌, ◌<◌, ◌≤◌, nat_eq, nat_lt, Bool, true, ◌&&◌, IsTrue, List, [], ◌∷◌, length, map, slice_index_or}
use Rattle.std.specs.List.{list_all}
use Rattle.vd_base.specs.declared.ids.HostId.{HostId}
use Rattle.vd_base.specs.declared.ids.SlotId.{SlotId}
use Rattle.vd_base.specs.declared.operations.Op.{Op}
use Rattle.vd_base.specs.declared.protocols.Proto.{Proto}
use Rattle.vd_base.specs.declared.protocols.Proto.TheVariants.{Local}
use Rattle.vd_base.specs.Arity.{arity}
use Rattle.vd_base.specs.HostSets.{host}
use Rattle.vd_base.specs.Limits.{most_hosts}
use Rattle.vd_base.specs.Holders.{holders, is_alone, proto_in}
use Rattle.vd_core.specs.declared.normal.Right.{Right}
use Rattle.vd_core.specs.declared.normal.Right.TheVariants as right
use Rattle.vd_core.specs.declared.normal.Stmt.{Stmt}
use Rattle.vd_core.specs.declared.normal.Stmt.TheOpen.{Stmt-F}
use Rattle.vd_core.specs.declared.normal.Stmt.TheFolds.{fold-Stmt}
use Rattle.vd_execution.specs.Gadgets.{Gadget}
use Rattle.vd_duet.specs.Builder.{Builder, HasRoom, TakesAtMost}
use Rattle.vd_split.specs.Suite.{Calls}

pub record Offer (P : Type 0) : Type 0 where
  pub calls : Calls Gadget P
  -- the hosts at which parts stand as they do at a protocol, in order
  pub hosts_at : Proto → P → List HostId
  -- the protocols at which words can stand, over the hosts that are there
  pub has : Proto → Bool
  -- the operations that can be asked for
  pub serves : Op → Proto → Bool

-- all hosts have a next free register, below the bound
pub record CanCall (hosts : ℕ) (next : List ℕ) : Type 0 where
  pub known : length next ≡ hosts
  pub room : HasRoom 0 next

-- ---- what a program asks for

-- whether statements can be emitted where so many slots have parts, how many have parts afterwards, and the registers that are
-- taken of a host at most
pub record Fit : Type 0 where
  pub all : Bool
  pub after : ℕ
  pub taken : ℕ

abbrev pub Fitting : Type 0
Fitting = ℕ → Fit

abbrev pub fits_all : List Fitting → Fitting
fits_all [] n = record { all = true; after = n; taken = 0 }
fits_all (f ∷ fs) n =
    let one = f n in
    let rest = fits_all fs one.after in
    record { all = one.all && rest.all; after = rest.after; taken = one.taken + rest.taken }

-- the registers that the calls of a statement take of a host, at most: those of eight calls
abbrev pub most_of_statement : ℕ
most_of_statement = 16384

abbrev pub has_parts : ℕ → SlotId → Bool
has_parts n x = nat_lt x.0 n

abbrev pub variable_fit : SlotId → SlotId → Fitting
variable_fit v x n = record { all = nat_eq v.0 n && has_parts n x; after = n + 1; taken = most_of_statement }

abbrev pub array_fit : SlotId → ℕ → Fitting
array_fit v cells n = record { all = nat_eq v.0 n; after = n + 1; taken = most_of_statement + cells }

abbrev pub store_fit : SlotId → SlotId → Fitting
store_fit v x n = record { all = has_parts n v && has_parts n x; after = n; taken = most_of_statement }

abbrev pub write_fit : SlotId → SlotId → SlotId → Fitting
write_fit v i x n = record { all = has_parts n v && has_parts n i && has_parts n x; after = n; taken = most_of_statement }

abbrev pub branch_fit : SlotId → Fitting → Fitting → Fitting
branch_fit guard first other n =
    let one = first n in
    let two = other one.after in
    record { all = has_parts n guard && one.all && two.all; after = two.after; taken = most_of_statement + one.taken + two.taken }

abbrev pub loop_fit : Fitting → Fitting
loop_fit body n = let all = body n in record { all = all.all; after = all.after; taken = most_of_statement + all.taken }

abbrev pub tell_fit : ℕ → SlotId → HostId → Fitting
tell_fit hosts x h n = record { all = has_parts n x && nat_lt h.0 hosts; after = n; taken = most_of_statement }

module _ {P : Type 0} (o : Offer P) (protos : List Proto) where
  -- an operation is served at its protocol, and an input stands at its host
  abbrev pub right_stands : Proto → Right → Bool
  right_stands q (right.Apply op xs) = o.serves op q
  right_stands q (right.Input h) = is_alone h q
  right_stands q r = true

  abbrev pub stmt_stands : Stmt-F Bool → Bool
  stmt_stands (Stmt-F.Let x r) = right_stands (proto_in protos x.0) r
  stmt_stands s = true

  abbrev pub right_fits : Proto → Right → ℕ → Bool
  right_fits q (right.Lit v) n = true
  right_fits q right.Turn n = true
  right_fits q (right.Copy x) n = has_parts n x
  right_fits q (right.Apply op xs) n = list_all (has_parts n) xs && nat_eq (length xs) (arity op) && o.serves op q
  right_fits q (right.Input h) n = nat_lt h.0 o.calls.hosts && is_alone h q
  right_fits q (right.Declassify x to) n = has_parts n x
  right_fits q (right.Endorse x to) n = has_parts n x
  right_fits q (right.Load v) n = has_parts n v
  right_fits q (right.Get v i) n = has_parts n v && has_parts n i

  abbrev pub binding_fit : SlotId → Right → Fitting
  binding_fit x r n = record { all = nat_eq x.0 n && right_fits (proto_in protos x.0) r n; after = n + 1; taken = most_of_statement }

  abbrev pub fit_step : Stmt-F Fitting → Fitting
  fit_step (Stmt-F.Let x r) = binding_fit x r
  fit_step (Stmt-F.NewVar v x) = variable_fit v x
  fit_step (Stmt-F.NewArray v cells) = array_fit v cells
  fit_step (Stmt-F.Store v x) = store_fit v x
  fit_step (Stmt-F.Put v i x) = write_fit v i x
  fit_step (Stmt-F.Output x h offset) = tell_fit o.calls.hosts x h
  fit_step (Stmt-F.If guard then_block else_block offset) = branch_fit guard (fits_all then_block) (fits_all else_block)
  fit_step (Stmt-F.For count body) = loop_fit (fits_all body)

  abbrev pub fit : Stmt → Fitting
  fit = fold-Stmt Fitting fit_step

  abbrev pub block_fit : List Stmt → Fitting
  block_fit body = fits_all (map fit body)

  -- ---- what the splitter keeps

  -- each slot is given a protocol that is offered
  pub record AreServed : Type 0 where
    pub few : o.calls.hosts ≤ most_hosts
    pub slots : (x : ℕ) → IsTrue (o.has (proto_in protos x))
    pub locals : (h : HostId) → h.0 < o.calls.hosts → IsTrue (o.has (Local h))

  -- parts stand at the hosts of their slots' protocols
  pub record AreHeld (held : List P) : Type 0 where
    pub at : (x : ℕ) → x < length held → o.hosts_at (proto_in protos x) (slice_index_or held x o.calls.nowhere) ≡ holders (proto_in protos x)

  -- code can be emitted that takes so many registers of a host
  pub record IsReady (held : List P) (count : ℕ) (next : List ℕ) : Type 0 where
    pub served : AreServed
    pub placed : AreHeld held
    pub known : length next ≡ o.calls.hosts
    pub room : HasRoom count next

  -- statements can be emitted
  pub record CanEmit (f : Fitting) (held : List P) (next : List ℕ) : Type 0 where
    pub fits : IsTrue (f (length held)).all
    pub ready : IsReady held (f (length held)).taken next

  -- they were emitted
  pub record Emits (f : Fitting) (held : List P) (next : List ℕ) (held' : List P) (next' : List ℕ) : Type 0 where
    pub placed : AreHeld held'
    pub after : length held' ≡ (f (length held)).after
    pub few : TakesAtMost (f (length held)).taken next next'

  abbrev pub Adds : Fitting → List P → Builder → List P → Builder → Type 0
  Adds f held b held' b' = Emits f held b.next held' b'.next

  -- a body that is repeated
  abbrev pub repeat_fit : List Stmt → Fitting
  repeat_fit body = loop_fit (block_fit body)
