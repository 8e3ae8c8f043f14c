-- What asks for each check of a program, in the order of the checks.
use Rattle.std.specs.Prelude.{Option, Some, None, List, [], ◌∷◌, ◌++◌, map, slice_get}
use Rattle.std.specs.List.{flat_map}
use Rattle.std.specs.Option.{option_map_or}
use Rattle.vd_base.specs.declared.ids.SlotId.{SlotId}
use Rattle.vd_core.specs.declared.normal.Right.{Right}
use Rattle.vd_core.specs.declared.normal.Right.TheVariants.{Lit, Turn, Copy, Apply, Input, Declassify, Endorse, Load, Get}
use Rattle.vd_core.specs.declared.normal.Stmt.{Stmt}
use Rattle.vd_core.specs.declared.normal.Stmt.TheOpen.{Stmt-F}
use Rattle.vd_core.specs.declared.normal.Stmt.TheFolds.{fold-Stmt}
use Rattle.vd_core.specs.declared.normal.Written.{Written}
use Rattle.vd_core.specs.declared.normal.NormalForm.{NormalForm}
use Rattle.vd_constraints.specs.declared.origin.Origin.{Origin}
use Rattle.vd_constraints.specs.declared.origin.Origin.TheVariants as origin

-- of a right side
abbrev pub right_origins : Right → List Origin
right_origins (Lit n) = []
right_origins Turn = []
right_origins (Copy y) = []
right_origins (Load v) = []
right_origins (Apply op ys) = []
right_origins (Get v i) = []
right_origins (Input h) = origin.Input h ∷ origin.Asked h ∷ []
right_origins (Declassify y form) = []
right_origins (Endorse y form) = origin.Endorse ∷ []

-- of the label that the source writes at a slot, if it does
abbrev pub label_origins : Option Written → List Origin
label_origins None = []
label_origins (Some written) = origin.Readers ∷ origin.Answerers ∷ []

abbrev pub slot_origins : NormalForm → SlotId → List Origin
slot_origins p x = option_map_or (λ slot. label_origins slot.label) (slice_get p.slots x.0) []

-- one after another
abbrev pub in_order : List (List Origin) → List Origin
in_order = flat_map (λ origins. origins)

abbrev pub origins_step : NormalForm → Stmt-F (List Origin) → List Origin
origins_step p (Stmt-F.Let x r) = right_origins r ++ slot_origins p x
origins_step p (Stmt-F.NewVar v y) = slot_origins p v
origins_step p (Stmt-F.NewArray v size) = slot_origins p v
origins_step p (Stmt-F.Store v y) = []
origins_step p (Stmt-F.Put v i y) = []
origins_step p (Stmt-F.Output y h offset) = origin.Output h ∷ origin.Told h ∷ []
origins_step p (Stmt-F.If y then_block else_block offset) = in_order then_block ++ in_order else_block
origins_step p (Stmt-F.For count body) = in_order body

-- of a statement
abbrev pub stmt_origins : NormalForm → Stmt → List Origin
stmt_origins p = fold-Stmt (List Origin) (origins_step p)

-- of statements
abbrev pub body_origins : NormalForm → List Stmt → List Origin
body_origins p body = in_order (map (stmt_origins p) body)

-- of a program
abbrev pub origins_of : NormalForm → List Origin
origins_of p = body_origins p p.body
