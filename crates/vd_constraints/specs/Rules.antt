-- The rules and checks of a let-normal program, in program order.
use Rattle.std.specs.Prelude.{ℕ, ◌+◌, true, false, Option, Some, None, List, [], ◌∷◌, ◌++◌, length, map, slice_get}
use Rattle.std.specs.List.{flat_map}
use Rattle.std.specs.Option.{option_and_then, option_map, option_map_or}
use Rattle.vd_base.specs.declared.form.Form.{Form}
use Rattle.vd_base.specs.declared.ids.HostId.{HostId}
use Rattle.vd_base.specs.declared.ids.SlotId.{SlotId}
use Rattle.vd_core.specs.declared.normal.Right.{Right}
use Rattle.vd_core.specs.declared.normal.Right.TheVariants.{Lit, Turn, Copy, Apply, Input, Declassify, Endorse, Load, Get}
use Rattle.vd_core.specs.declared.normal.Stmt.{Stmt}
use Rattle.vd_core.specs.declared.normal.Stmt.TheOpen.{Stmt-F}
use Rattle.vd_core.specs.declared.normal.Stmt.TheFolds.{fold-Stmt}
use Rattle.vd_core.specs.declared.normal.Written.{Written}
use Rattle.vd_core.specs.declared.normal.NormalForm.{NormalForm}
use Rattle.vd_formula.specs.TruthTable.{TruthTable, any_of}
use Rattle.vd_formula.specs.Forms.{formula_of}
use Rattle.vd_formula.specs.declared.label.Label.{Label}
use Rattle.vd_constraints.specs.declared.system.Place.{Place}
use Rattle.vd_constraints.specs.declared.system.Place.TheVariants.{Slot, Block}
use Rattle.vd_constraints.specs.declared.system.Part.{Part}
use Rattle.vd_constraints.specs.declared.system.Bound.{Bound}
use Rattle.vd_constraints.specs.declared.system.Bound.TheVariants.{Constant, Same, Given, Or}
use Rattle.vd_constraints.specs.declared.system.Lower.{Lower}
use Rattle.vd_constraints.specs.declared.system.Check.{Check}
use Rattle.vd_constraints.specs.Systems.{Constraints}

-- the two parts of the label at a place
abbrev pub conf : Place → Part
conf at = record { at = at; integ = false }

abbrev pub integ : Place → Part
integ at = record { at = at; integ = true }

-- the part acts for the bound
abbrev pub rule : Part → Bound → Lower
rule part bound = record { part = part; bound = bound }

-- the constant acts for the part; where in the source this is asked
abbrev pub check : TruthTable → Part → ℕ → Check
check constant part offset = record { constant = constant; part = part; offset = offset }

-- what is at the one place may go to the other
abbrev pub flows : Place → Place → List Lower
flows from to = rule (conf to) (Same (conf from)) ∷ rule (integ from) (Same (integ to)) ∷ []

abbrev pub formula : NormalForm → Form → TruthTable
formula p form = formula_of form p.principals

abbrev pub label : NormalForm → Written → Label
label p written = record { conf = formula p written.conf; integ = formula p written.integ }

-- a host that is not declared acts for no one
abbrev pub no_authority : NormalForm → Label
no_authority p = record { conf = any_of (length p.principals); integ = any_of (length p.principals) }

abbrev pub host_label : NormalForm → HostId → Label
host_label p h = option_map_or (label p) (slice_get p.labels h.0) (no_authority p)

-- where in the source a slot is made, and the label that the source writes there
abbrev pub offset_of : NormalForm → SlotId → ℕ
offset_of p x = option_map_or (λ slot. slot.offset) (slice_get p.slots x.0) 0

abbrev pub written_at : NormalForm → SlotId → Option Label
written_at p x = option_and_then (λ slot. option_map (label p) slot.label) (slice_get p.slots x.0)

-- what comes from a host: its slot is as secret as the host and trusted no more;
-- the host learns that it is asked, and the block is trusted as the host is
abbrev pub input_rules : Label → Place → Place → List Lower
input_rules host pc x = rule (conf x) (Constant host.conf) ∷ rule (integ pc) (Constant host.integ) ∷ []

abbrev pub input_checks : Label → Place → Place → ℕ → List Check
input_checks host pc x offset = check host.integ (integ x) offset ∷ check host.conf (conf pc) offset ∷ []

-- the new confidentiality; y, and the block, must be trusted by all who could not read y before
abbrev pub declassify_rules : TruthTable → Place → Place → Place → List Lower
declassify_rules to pc x y =
    rule (conf x) (Constant to)
    ∷ rule (integ y) (Same (integ x))
    ∷ rule (integ y) (Given to (conf y))
    ∷ rule (conf x) (Same (conf pc))
    ∷ rule (integ pc) (Same (integ x))
    ∷ rule (integ pc) (Given to (conf y))
    ∷ []

-- the new integrity; those who answered for y may read it, or are among the new ones
abbrev pub endorse_rules : TruthTable → Place → Place → Place → List Lower
endorse_rules to pc x y =
    rule (conf x) (Same (conf y))
    ∷ rule (integ y) (Or to (conf y))
    ∷ rule (conf x) (Same (conf pc))
    ∷ rule (integ pc) (Same (integ x))
    ∷ []

abbrev pub endorse_checks : TruthTable → Place → ℕ → List Check
endorse_checks to x offset = check to (integ x) offset ∷ []

-- a host that is told y may read it and whether it is told, and trusts both
abbrev pub output_rules : Label → Place → Place → List Lower
output_rules host pc y = rule (integ y) (Constant host.integ) ∷ rule (integ pc) (Constant host.integ) ∷ []

abbrev pub output_checks : Label → Place → Place → ℕ → List Check
output_checks host pc y offset = check host.conf (conf y) offset ∷ check host.conf (conf pc) offset ∷ []

-- a label that the source writes at x holds both ways
abbrev pub written_rules : Label → Place → List Lower
written_rules written x = rule (conf x) (Constant written.conf) ∷ rule (integ x) (Constant written.integ) ∷ []

abbrev pub written_checks : Label → Place → ℕ → List Check
written_checks written x offset = check written.conf (conf x) offset ∷ check written.integ (integ x) offset ∷ []

-- what a right side asks of its slot x, in a block whose label is at pc
abbrev pub right_rules : NormalForm → Place → SlotId → Right → List Lower
right_rules p pc x (Lit n) = []
right_rules p pc x Turn = []
right_rules p pc x (Copy y) = flows (Slot y) (Slot x)
right_rules p pc x (Load v) = flows (Slot v) (Slot x)
right_rules p pc x (Apply op ys) = flat_map (λ y. flows (Slot y) (Slot x)) ys
right_rules p pc x (Get v i) = flows (Slot v) (Slot x) ++ flows (Slot i) (Slot x)
right_rules p pc x (Input h) = input_rules (host_label p h) pc (Slot x)
right_rules p pc x (Declassify y form) = declassify_rules (formula p form) pc (Slot x) (Slot y)
right_rules p pc x (Endorse y form) = endorse_rules (formula p form) pc (Slot x) (Slot y)

abbrev pub right_checks : NormalForm → Place → SlotId → Right → List Check
right_checks p pc x (Lit n) = []
right_checks p pc x Turn = []
right_checks p pc x (Copy y) = []
right_checks p pc x (Load v) = []
right_checks p pc x (Apply op ys) = []
right_checks p pc x (Get v i) = []
right_checks p pc x (Input h) = input_checks (host_label p h) pc (Slot x) (offset_of p x)
right_checks p pc x (Declassify y form) = []
right_checks p pc x (Endorse y form) = endorse_checks (formula p form) (Slot x) (offset_of p x)

-- the system with rules, with checks, or with a block more
abbrev pub with_rules : List Lower → Constraints → Constraints
with_rules rules s = record s { lower = s.lower ++ rules }

abbrev pub with_checks : List Check → Constraints → Constraints
with_checks checks s = record s { checks = s.checks ++ checks }

abbrev pub with_block : Constraints → Constraints
with_block s = record s { blocks = s.blocks + 1 }

-- the system with what each step of a program asks
abbrev pub with_flow : Place → Place → Constraints → Constraints
with_flow from to = with_rules (flows from to)

abbrev pub with_input : Label → Place → Place → ℕ → Constraints → Constraints
with_input host pc x offset s = with_checks (input_checks host pc x offset) (with_rules (input_rules host pc x) s)

abbrev pub with_declassified : TruthTable → Place → Place → Place → Constraints → Constraints
with_declassified to pc x y = with_rules (declassify_rules to pc x y)

abbrev pub with_endorsed : TruthTable → Place → Place → Place → ℕ → Constraints → Constraints
with_endorsed to pc x y offset s = with_checks (endorse_checks to x offset) (with_rules (endorse_rules to pc x y) s)

abbrev pub with_output : Label → Place → Place → ℕ → Constraints → Constraints
with_output host pc y offset s = with_checks (output_checks host pc y offset) (with_rules (output_rules host pc y) s)

abbrev pub with_label : Label → Place → ℕ → Constraints → Constraints
with_label written x offset s = with_checks (written_checks written x offset) (with_rules (written_rules written x) s)

-- a right side, in a block whose label is at pc
abbrev pub with_right : NormalForm → Place → SlotId → Right → Constraints → Constraints
with_right p pc x r s = with_checks (right_checks p pc x r) (with_rules (right_rules p pc x r) s)

-- operands that are used for a slot
abbrev pub with_operands : List SlotId → SlotId → Constraints → Constraints
with_operands ys x = with_rules (flat_map (λ y. flows (Slot y) (Slot x)) ys)

-- a value that is stored in a variable, and one that is put into an array
abbrev pub with_stored : Place → SlotId → SlotId → Constraints → Constraints
with_stored pc v y = with_rules (flows (Slot y) (Slot v) ++ flows pc (Slot v))

abbrev pub with_put : Place → SlotId → SlotId → SlotId → Constraints → Constraints
with_put pc v i y = with_rules (flows (Slot y) (Slot v) ++ flows (Slot i) (Slot v) ++ flows pc (Slot v))

-- the label that the source writes at a slot, if it does
abbrev pub with_optional : Option Label → Place → ℕ → Constraints → Constraints
with_optional None x offset s = s
with_optional (Some written) x offset s = with_label written x offset s

abbrev pub with_written : NormalForm → SlotId → Constraints → Constraints
with_written p x s = with_optional (written_at p x) (Slot x) (offset_of p x) s

-- both branches of an If are one block, which tells of the guard and of the block around it
abbrev pub with_branch : Place → Place → Constraints → Constraints
with_branch guard pc s = with_rules (flows guard (Block s.blocks) ++ flows pc (Block s.blocks)) (with_block s)

-- one after another
abbrev pub in_order : List (NormalForm → Place → Constraints → Constraints) → NormalForm → Place → Constraints → Constraints
in_order [] p pc s = s
in_order (f ∷ fs) p pc s = in_order fs p pc (f p pc s)

abbrev pub stmt_step : Stmt-F (NormalForm → Place → Constraints → Constraints) → NormalForm → Place → Constraints → Constraints
stmt_step (Stmt-F.Let x r) p pc s = with_written p x (with_right p pc x r s)
stmt_step (Stmt-F.NewVar v y) p pc s = with_written p v (with_stored pc v y s)
stmt_step (Stmt-F.NewArray v size) p pc s = with_written p v (with_flow pc (Slot v) s)
stmt_step (Stmt-F.Store v y) p pc s = with_stored pc v y s
stmt_step (Stmt-F.Put v i y) p pc s = with_put pc v i y s
stmt_step (Stmt-F.Output y h offset) p pc s = with_output (host_label p h) pc (Slot y) offset s
stmt_step (Stmt-F.If y then_block else_block offset) p pc s =
    in_order else_block p (Block s.blocks) (in_order then_block p (Block s.blocks) (with_branch (Slot y) pc s))
stmt_step (Stmt-F.For count body) p pc s = in_order body p pc s

-- the system with what a statement adds, in a block whose label is at pc
abbrev pub with_stmt : Stmt → NormalForm → Place → Constraints → Constraints
with_stmt = fold-Stmt (NormalForm → Place → Constraints → Constraints) stmt_step

abbrev pub with_body : List Stmt → NormalForm → Place → Constraints → Constraints
with_body body = in_order (map with_stmt body)

-- the program itself is block 0
abbrev pub at_start : NormalForm → Constraints
at_start p = record { principals = p.principals; slots = length p.slots; blocks = 1; lower = []; checks = [] }

-- the system of a program
abbrev pub system_of : NormalForm → Constraints
system_of p = with_body p.body p (Block 0) (at_start p)
