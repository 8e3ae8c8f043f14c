-- What depends on what at once, read off a program for one host.
use Rattle.std.specs.Prelude.{ℕ, nat_eq, Bool, ◌&&◌, true, false, if◌then◌else◌, List, [], ◌∷◌, ◌++◌, map, slice_index_or}
use Rattle.vd_base.specs.declared.ids.SlotId.{SlotId}
use Rattle.vd_base.specs.declared.ids.HostId.{HostId}
use Rattle.vd_core.specs.declared.normal.Right.{Right}
use Rattle.vd_core.specs.declared.normal.Right.TheVariants.{Lit, Turn, Copy, Apply, Input, Declassify, Endorse, Load, Get}
use Rattle.vd_core.specs.declared.normal.Stmt.{Stmt}
use Rattle.vd_core.specs.declared.normal.Stmt.TheOpen.{Stmt-F}
use Rattle.vd_core.specs.declared.normal.Stmt.TheFolds.{fold-Stmt}
use Rattle.vd_core.specs.declared.normal.NormalForm.{NormalForm}
use Rattle.vd_formula.specs.declared.label.Label.{Label}
use Rattle.vd_constraints.specs.Rules.{host_label}
use Rattle.vd_formula.specs.TruthTable.{acts}
use Rattle.vd_noninter.specs.declared.edge.Node.{Node}
use Rattle.vd_noninter.specs.declared.edge.Node.TheVariants.{Told, Slot, Inputs}
use Rattle.vd_noninter.specs.declared.edge.Edge.{Edge}
use Rattle.vd_noninter.specs.declared.reader.Reader.{Reader}
use Rattle.vd_noninter.specs.declared.around.Around.{Around}

-- whether the host may read a slot; of a slot without a label it may not
abbrev pub reads_in : Reader → ℕ → Bool
reads_in reader x = slice_index_or reader.slots x false

-- of these labels, those that a host may read
abbrev pub readable : NormalForm → HostId → List Label → List Bool
readable p h labels = map (λ label. acts (host_label p h).conf label.conf) labels

-- within a branch of an If with this guard, which the host may read or not
abbrev pub within : Around → SlotId → Bool → Around
within around guard read = record { guards = around.guards ++ guard ∷ []; told = around.told && read }

-- an edge to each of these slots
abbrev pub with_slots : Node → List SlotId → List Edge → List Edge
with_slots from slots edges = edges ++ map (λ y. record { from = from; to = Slot y }) slots

-- what the host is told, where it is told it
abbrev pub with_told : Bool → List SlotId → List Edge → List Edge
with_told told slots edges = if told then with_slots Told slots edges else edges

-- a slot depends on these, and on the guards around it
abbrev pub with_made : Around → SlotId → List SlotId → List Edge → List Edge
with_made around x slots edges = with_slots (Slot x) slots (with_slots (Slot x) around.guards edges)

-- so does one whose parts the host is told where it may read the slot
abbrev pub with_parts : Around → Bool → SlotId → List SlotId → List Edge → List Edge
with_parts around read x slots edges = with_told (around.told && read) slots (with_made around x slots edges)

-- an input depends on the host's inputs, and these on the guards around each of them
abbrev pub with_input : Around → SlotId → HostId → List Edge → List Edge
with_input around x host edges =
    with_slots (Inputs host) around.guards (with_slots (Slot x) around.guards (edges ++ record { from = Slot x; to = Inputs host } ∷ []))

abbrev pub Adding : Type 0
Adding = Around → List Edge → List Edge

abbrev pub right_edges : (ℕ → Bool) → SlotId → Right → Adding
right_edges reads x (Lit n) around edges = with_made around x [] edges
right_edges reads x Turn around edges = with_made around x [] edges
right_edges reads x (Copy y) around edges = with_parts around (reads x.0) x (y ∷ []) edges
right_edges reads x (Apply op ys) around edges = with_parts around (reads x.0) x ys edges
right_edges reads x (Input host) around edges = with_input around x host edges
right_edges reads x (Declassify y to) around edges = with_told (around.told && reads x.0) (x ∷ []) (with_made around x [] edges)
right_edges reads x (Endorse y to) around edges = with_parts around (reads x.0) x (y ∷ []) edges
right_edges reads x (Load v) around edges = with_told (around.told && reads x.0) (x ∷ []) (with_made around x (v ∷ []) edges)
right_edges reads x (Get v i) around edges =
    with_told (around.told && reads i.0) (i ∷ []) (with_told (around.told && reads x.0) (x ∷ []) (with_made around x (v ∷ i ∷ []) edges))

-- what is put into an array at an index
abbrev pub with_put : (ℕ → Bool) → SlotId → SlotId → SlotId → Adding
with_put reads v i y around edges =
    with_told (around.told && reads i.0) (i ∷ []) (with_told (around.told && reads v.0) (y ∷ []) (with_made around v (i ∷ y ∷ []) edges))

-- one after another
abbrev pub in_order : List Adding → Adding
in_order [] around edges = edges
in_order (f ∷ fs) around edges = in_order fs around (f around edges)

abbrev pub stmt_edges : (ℕ → Bool) → ℕ → Stmt-F Adding → Adding
stmt_edges reads host (Stmt-F.Let x right) around edges = right_edges reads x right around edges
stmt_edges reads host (Stmt-F.NewVar v y) around edges = with_parts around (reads v.0) v (y ∷ []) edges
stmt_edges reads host (Stmt-F.NewArray v size) around edges = edges
stmt_edges reads host (Stmt-F.Store v y) around edges = with_parts around (reads v.0) v (y ∷ []) edges
stmt_edges reads host (Stmt-F.Put v i y) around edges = with_put reads v i y around edges
stmt_edges reads host (Stmt-F.Output y other offset) around edges = with_told (around.told && nat_eq other.0 host) (y ∷ []) edges
stmt_edges reads host (Stmt-F.If g then_block else_block offset) around edges =
    let inner = within around g (reads g.0) in
    in_order else_block inner (in_order then_block inner (with_told (around.told && reads g.0) (g ∷ []) edges))
stmt_edges reads host (Stmt-F.For count body) around edges = in_order body around edges

-- the edges of a statement, for a host that may read these slots, behind others
abbrev pub with_stmt : (ℕ → Bool) → ℕ → Stmt → Adding
with_stmt reads host = fold-Stmt Adding (stmt_edges reads host)

abbrev pub with_body : (ℕ → Bool) → ℕ → List Stmt → Adding
with_body reads host body = in_order (map (with_stmt reads host) body)

abbrev pub no_guards : Around
no_guards = record { guards = []; told = true }

-- the edges of statements under no guard
abbrev pub edges_of : (ℕ → Bool) → ℕ → List Stmt → List Edge
edges_of reads host body = with_body reads host body no_guards []
