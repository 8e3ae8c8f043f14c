-- What every let-normal program keeps.
use Rattle.std.specs.Prelude.{◌≡◌, ℕ, ◌+◌, ◌*◌, ◌<◌, ◌≤◌, max, nat_eq, nat_le, nat_lt, Bool, true, false, ◌&&◌, not, List, [], ◌∷◌, ◌++◌, map, length, Option, Some, None}
use Rattle.std.specs.List.{list_all, list_any, concat, range_with_len, sum, IsDistinct, AllPass}
use Rattle.std.specs.Str.{bytes_eq}
use Rattle.vd_base.specs.Limits.{most_cells, most_hosts, most_nesting, most_principals, most_statements, most_weights}
use Rattle.vd_base.specs.declared.ids.SlotId.{SlotId}
use Rattle.vd_base.specs.declared.form.Form.{Form}
use Rattle.vd_base.specs.declared.form.Form.TheOpen.{Form-F}
use Rattle.vd_base.specs.declared.form.Form.TheFolds.{fold-Form}
use Rattle.vd_base.specs.declared.operations.Op.{Op}
use Rattle.vd_base.specs.declared.operations.Op.TheVariants as op
use Rattle.vd_core.specs.declared.normal.Right.{Right}
use Rattle.vd_core.specs.declared.normal.Right.TheVariants.{Lit, Turn, Copy, Apply, Input, Declassify, Endorse, Load, Get}
use Rattle.vd_core.specs.declared.normal.Stmt.{Stmt}
use Rattle.vd_core.specs.declared.normal.Stmt.TheOpen.{Stmt-F}
use Rattle.vd_core.specs.declared.normal.Stmt.TheFolds.{fold-Stmt}
use Rattle.vd_core.specs.declared.normal.Written.{Written}
use Rattle.vd_core.specs.declared.normal.NormalForm.{NormalForm}
use Rattle.vd_base.specs.Arity.{arity}
use Rattle.vd_base.specs.Lexical.{is_name}
use Rattle.vd_base.specs.Names.{is_among}

-- The slots that statements make, in program order.

abbrev pub slots_step : Stmt-F (List ℕ) → List ℕ
slots_step (Stmt-F.Let x right) = x.0 ∷ []
slots_step (Stmt-F.NewVar v x) = v.0 ∷ []
slots_step (Stmt-F.NewArray v cells) = v.0 ∷ []
slots_step (Stmt-F.Store v x) = []
slots_step (Stmt-F.Put v i x) = []
slots_step (Stmt-F.Output x host offset) = []
slots_step (Stmt-F.If guard then_block else_block offset) = concat then_block ++ concat else_block
slots_step (Stmt-F.For count body) = concat body

abbrev pub slots_of : Stmt → List ℕ
slots_of = fold-Stmt (List ℕ) slots_step

abbrev pub slots_made : List Stmt → List ℕ
slots_made body = concat (map slots_of body)

-- The slots in sight of a statement: those made before it in its list of statements or in one around it.

pub record Sight : Type 0 where
  pub bindings : List ℕ
  pub variables : List ℕ
  pub arrays : List ℕ

abbrev pub nothing_seen : Sight
nothing_seen = record { bindings = []; variables = []; arrays = [] }

abbrev pub is_binding : Sight → SlotId → Bool
is_binding sight x = list_any (nat_eq x.0) sight.bindings

abbrev pub is_variable : Sight → SlotId → Bool
is_variable sight v = list_any (nat_eq v.0) sight.variables

abbrev pub is_array : Sight → SlotId → Bool
is_array sight v = list_any (nat_eq v.0) sight.arrays

abbrev pub with_binding : SlotId → Sight → Sight
with_binding x sight = record { bindings = x.0 ∷ sight.bindings; variables = sight.variables; arrays = sight.arrays }

abbrev pub with_variable : SlotId → Sight → Sight
with_variable v sight = record { bindings = sight.bindings; variables = v.0 ∷ sight.variables; arrays = sight.arrays }

abbrev pub with_array : SlotId → Sight → Sight
with_array v sight = record { bindings = sight.bindings; variables = sight.variables; arrays = v.0 ∷ sight.arrays }

-- a right side names slots in sight, each as what it is
abbrev pub right_sees : Right → Sight → Bool
right_sees (Lit n) sight = true
right_sees Turn sight = true
right_sees (Copy x) sight = is_binding sight x
right_sees (Apply o xs) sight = list_all (is_binding sight) xs
right_sees (Input host) sight = true
right_sees (Declassify x to) sight = is_binding sight x
right_sees (Endorse x to) sight = is_binding sight x
right_sees (Load v) sight = is_variable sight v
right_sees (Get v i) sight = is_array sight v && is_binding sight i

-- whether what a statement names is in sight, and what is in sight after it
pub record Seen : Type 0 where
  pub all : Bool
  pub after : Sight

abbrev pub Seeing : Type 0
Seeing = Sight → Seen

abbrev pub seeing_all : List Seeing → Seeing
seeing_all [] sight = record { all = true; after = sight }
seeing_all (s ∷ ss) sight =
    let one = s sight in
    let rest = seeing_all ss one.after in
    record { all = one.all && rest.all; after = rest.after }

-- what a block makes is out of sight after it
abbrev pub seeing_step : Stmt-F Seeing → Seeing
seeing_step (Stmt-F.Let x right) sight = record { all = right_sees right sight; after = with_binding x sight }
seeing_step (Stmt-F.NewVar v x) sight = record { all = is_binding sight x; after = with_variable v sight }
seeing_step (Stmt-F.NewArray v cells) sight = record { all = true; after = with_array v sight }
seeing_step (Stmt-F.Store v x) sight = record { all = is_variable sight v && is_binding sight x; after = sight }
seeing_step (Stmt-F.Put v i x) sight = record { all = is_array sight v && is_binding sight i && is_binding sight x; after = sight }
seeing_step (Stmt-F.Output x host offset) sight = record { all = is_binding sight x; after = sight }
seeing_step (Stmt-F.If guard then_block else_block offset) sight =
    record { all = is_binding sight guard && (seeing_all then_block sight).all && (seeing_all else_block sight).all; after = sight }
seeing_step (Stmt-F.For count body) sight = record { all = (seeing_all body sight).all; after = sight }

abbrev pub seeing : Stmt → Seeing
seeing = fold-Stmt Seeing seeing_step

abbrev pub statements_see : List Stmt → Seeing
statements_see body = seeing_all (map seeing body)

-- A test that every statement meets, those in blocks too. It looks at what the statement itself says.

abbrev pub blocks_meet : Stmt-F Bool → Bool
blocks_meet (Stmt-F.If guard then_block else_block offset) = list_all (λ b. b) then_block && list_all (λ b. b) else_block
blocks_meet (Stmt-F.For count body) = list_all (λ b. b) body
blocks_meet other = true

abbrev pub meets : (Stmt-F Bool → Bool) → Stmt → Bool
meets test = fold-Stmt Bool (λ s. test s && blocks_meet s)

abbrev pub all_meet : (Stmt-F Bool → Bool) → List Stmt → Bool
all_meet test body = list_all (meets test) body

-- a test of the right sides
abbrev pub of_rights : (Right → Bool) → Stmt-F Bool → Bool
of_rights test (Stmt-F.Let x right) = test right
of_rights test other = true

-- as many operands as the operation takes
abbrev pub operands_fit : Right → Bool
operands_fit (Apply o xs) = nat_eq (length xs) (arity o)
operands_fit other = true

-- a shift is by at most 31 bits
abbrev pub amount_fits : Op → Bool
amount_fits (op.Shl bits) = nat_le bits 31
amount_fits (op.Shr bits) = nat_le bits 31
amount_fits other = true

abbrev pub shift_fits : Right → Bool
shift_fits (Apply o xs) = amount_fits o
shift_fits other = true

-- a host is one of so many
abbrev pub host_is_declared : ℕ → Stmt-F Bool → Bool
host_is_declared hosts (Stmt-F.Let x (Input host)) = nat_lt host.0 hosts
host_is_declared hosts (Stmt-F.Output x host offset) = nat_lt host.0 hosts
host_is_declared hosts other = true

-- the principals that a form names are declared
abbrev pub form_step : List (List ℕ) → Form-F Bool → Bool
form_step principals Form-F.Any = true
form_step principals Form-F.Never = true
form_step principals (Form-F.Name x) = is_among principals x
form_step principals (Form-F.Both forms) = list_all (λ b. b) forms
form_step principals (Form-F.Either forms) = list_all (λ b. b) forms

abbrev pub form_is_declared : List (List ℕ) → Form → Bool
form_is_declared principals = fold-Form Bool (form_step principals)

abbrev pub label_is_declared : List (List ℕ) → Written → Bool
label_is_declared principals label = form_is_declared principals label.conf && form_is_declared principals label.integ

abbrev pub written_is_declared : List (List ℕ) → Option Written → Bool
written_is_declared principals None = true
written_is_declared principals (Some label) = label_is_declared principals label

abbrev pub right_is_declared : List (List ℕ) → Right → Bool
right_is_declared principals (Declassify x to) = form_is_declared principals to
right_is_declared principals (Endorse x to) = form_is_declared principals to
right_is_declared principals other = true

-- A statement without a Turn that stands in no loop.

abbrev pub is_turn : Right → Bool
is_turn Turn = true
is_turn other = false

abbrev pub turns_step : Stmt-F Bool → Bool
turns_step (Stmt-F.Let x right) = not (is_turn right)
turns_step (Stmt-F.If guard then_block else_block offset) = list_all (λ b. b) then_block && list_all (λ b. b) else_block
turns_step other = true

abbrev pub has_turns_in_loops : Stmt → Bool
has_turns_in_loops = fold-Stmt Bool turns_step

-- The counts that have a limit.

-- statements, in all nested lists
abbrev pub count_step : Stmt-F ℕ → ℕ
count_step (Stmt-F.If guard then_block else_block offset) = 1 + sum then_block + sum else_block
count_step (Stmt-F.For count body) = 1 + sum body
count_step other = 1

abbrev pub count_of : Stmt → ℕ
count_of = fold-Stmt ℕ count_step

abbrev pub statement_count : List Stmt → ℕ
statement_count body = sum (map count_of body)

-- weights: each statement's is the product of the counts of the loops around it
abbrev pub Weighing : Type 0
Weighing = ℕ → ℕ

abbrev pub weigh_all : List Weighing → Weighing
weigh_all ws around = sum (map (λ (w : Weighing). w around) ws)

abbrev pub weigh_step : Stmt-F Weighing → Weighing
weigh_step (Stmt-F.If guard then_block else_block offset) around = around + weigh_all then_block around + weigh_all else_block around
weigh_step (Stmt-F.For count body) around = around + weigh_all body (around * count)
weigh_step other around = around

abbrev pub weighing : Stmt → Weighing
weighing = fold-Stmt Weighing weigh_step

abbrev pub weight_sum : List Stmt → ℕ
weight_sum body = weigh_all (map weighing body) 1

-- loops around one statement
abbrev pub greatest : List ℕ → ℕ
greatest [] = 0
greatest (n ∷ ns) = max n (greatest ns)

abbrev pub nesting_step : Stmt-F ℕ → ℕ
nesting_step (Stmt-F.If guard then_block else_block offset) = max (greatest then_block) (greatest else_block)
nesting_step (Stmt-F.For count body) = 1 + greatest body
nesting_step other = 0

abbrev pub nesting_of : Stmt → ℕ
nesting_of = fold-Stmt ℕ nesting_step

abbrev pub nesting : List Stmt → ℕ
nesting body = greatest (map nesting_of body)

-- cells of arrays
abbrev pub cells_step : Stmt-F ℕ → ℕ
cells_step (Stmt-F.NewArray v cells) = cells
cells_step (Stmt-F.If guard then_block else_block offset) = sum then_block + sum else_block
cells_step (Stmt-F.For count body) = sum body
cells_step other = 0

abbrev pub cells_of : Stmt → ℕ
cells_of = fold-Stmt ℕ cells_step

abbrev pub cell_count : List Stmt → ℕ
cell_count body = sum (map cells_of body)

-- The facts.

-- slots are made once, in program order
abbrev pub SlotsInOrder : NormalForm → Type 0
SlotsInOrder program = slots_made program.body ≡ range_with_len 0 (length program.slots)

-- a slot that is named is in sight, as what it is used for
abbrev pub SlotsMadeBefore : NormalForm → Type 0
SlotsMadeBefore program = (statements_see program.body nothing_seen).all ≡ true

abbrev pub OperandsFit : NormalForm → Type 0
OperandsFit program = all_meet (of_rights operands_fit) program.body ≡ true

abbrev pub ShiftsFit : NormalForm → Type 0
ShiftsFit program = all_meet (of_rights shift_fits) program.body ≡ true

abbrev pub TurnsInLoops : NormalForm → Type 0
TurnsInLoops program = list_all has_turns_in_loops program.body ≡ true

-- names, of which no two are equal
pub record AreNames (names : List (List ℕ)) : Type 0 where
  pub each : AllPass is_name names
  pub differ : IsDistinct bytes_eq names

abbrev pub HostsDeclared : NormalForm → Type 0
HostsDeclared program = all_meet (host_is_declared (length program.hosts)) program.body ≡ true

-- the principals in right sides, in the labels of slots and in those of hosts
pub record PrincipalsDeclared (program : NormalForm) : Type 0 where
  pub rights : all_meet (of_rights (right_is_declared program.principals)) program.body ≡ true
  pub slots : AllPass (λ slot. written_is_declared program.principals slot.label) program.slots
  pub hosts : AllPass (label_is_declared program.principals) program.labels

abbrev pub LabelForEachHost : NormalForm → Type 0
LabelForEachHost program = length program.labels ≡ length program.hosts

pub record WithinLimits (program : NormalForm) : Type 0 where
  pub some_principal : 0 < length program.principals
  pub principals : length program.principals ≤ most_principals
  pub some_host : 0 < length program.hosts
  pub hosts : length program.hosts ≤ most_hosts
  pub statements : statement_count program.body ≤ most_statements
  pub loops : nesting program.body ≤ most_nesting
  pub weights : weight_sum program.body ≤ most_weights
  pub cells : cell_count program.body ≤ most_cells

pub record IsWellMade (program : NormalForm) : Type 0 where
  pub in_order : SlotsInOrder program
  pub made_before : SlotsMadeBefore program
  pub operands : OperandsFit program
  pub shifts : ShiftsFit program
  pub turns : TurnsInLoops program
  pub principals : AreNames program.principals
  pub hosts : AreNames program.hosts
  pub known_hosts : HostsDeclared program
  pub known_principals : PrincipalsDeclared program
  pub labels : LabelForEachHost program
  pub limits : WithinLimits program
