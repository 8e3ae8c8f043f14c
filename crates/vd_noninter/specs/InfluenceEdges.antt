-- What depends on what at once, read off a program for one host's outputs: through endorsements, or not.
use Rattle.std.specs.Prelude.{ℕ, nat_eq, Bool, true, if◌then◌else◌, List, [], ◌∷◌, map}
use Rattle.vd_base.specs.declared.ids.SlotId.{SlotId}
use Rattle.vd_core.specs.declared.normal.Right.{Right}
use Rattle.vd_core.specs.declared.normal.Right.TheVariants.{Lit, Turn, Copy, Apply, Input, Declassify, Endorse, Load, Get}
use Rattle.vd_core.specs.declared.normal.Stmt.{Stmt}
use Rattle.vd_core.specs.declared.normal.Stmt.TheOpen.{Stmt-F}
use Rattle.vd_core.specs.declared.normal.Stmt.TheFolds.{fold-Stmt}
use Rattle.vd_noninter.specs.declared.edge.Edge.{Edge}
use Rattle.vd_noninter.specs.Edges.{Adding, in_order, no_guards, with_input, with_made, with_told, within}

-- what an endorsement is made of, where endorsements are passed
abbrev pub endorsed_part : Bool → SlotId → List SlotId
endorsed_part passed y = if passed then y ∷ [] else []

abbrev pub right_made : Bool → SlotId → Right → Adding
right_made passed x (Lit n) around edges = with_made around x [] edges
right_made passed x Turn around edges = with_made around x [] edges
right_made passed x (Copy y) around edges = with_made around x (y ∷ []) edges
right_made passed x (Apply op ys) around edges = with_made around x ys edges
right_made passed x (Input host) around edges = with_input around x host edges
right_made passed x (Declassify y to) around edges = with_made around x (y ∷ []) edges
right_made passed x (Endorse y to) around edges = with_made around x (endorsed_part passed y) edges
right_made passed x (Load v) around edges = with_made around x (v ∷ []) edges
right_made passed x (Get v i) around edges = with_made around x (v ∷ i ∷ []) edges

abbrev pub stmt_made : Bool → ℕ → Stmt-F Adding → Adding
stmt_made passed host (Stmt-F.Let x right) around edges = right_made passed x right around edges
stmt_made passed host (Stmt-F.NewVar v y) around edges = with_made around v (y ∷ []) edges
stmt_made passed host (Stmt-F.NewArray v size) around edges = with_made around v [] edges
stmt_made passed host (Stmt-F.Store v y) around edges = with_made around v (y ∷ []) edges
stmt_made passed host (Stmt-F.Put v i y) around edges = with_made around v (i ∷ y ∷ []) edges
stmt_made passed host (Stmt-F.Output y other offset) around edges =
    with_told (nat_eq other.0 host) (y ∷ []) (with_told (nat_eq other.0 host) around.guards edges)
stmt_made passed host (Stmt-F.If g then_block else_block offset) around edges =
    let inner = within around g true in
    in_order else_block inner (in_order then_block inner edges)
stmt_made passed host (Stmt-F.For count body) around edges = in_order body around edges

-- the edges of a statement, behind others
abbrev pub with_stmt_made : Bool → ℕ → Stmt → Adding
with_stmt_made passed host = fold-Stmt Adding (stmt_made passed host)

abbrev pub with_body_made : Bool → ℕ → List Stmt → Adding
with_body_made passed host body = in_order (map (with_stmt_made passed host) body)

-- the edges of statements under no guard
abbrev pub influence_edges_of : Bool → ℕ → List Stmt → List Edge
influence_edges_of passed host body = with_body_made passed host body no_guards []
