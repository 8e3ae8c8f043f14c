-- What a source does, by its names.
use Rattle.std.specs.Prelude.{ℕ, nat_eq, if◌then◌else◌, List, [], ◌∷◌, ◌++◌, map, length, take, replicate, slice_index, slice_set, Option, Some, None}
use Rattle.std.specs.Str.{bytes_eq}
use Rattle.vd_base.specs.declared.operations.Op.{Op}
use Rattle.vd_base.specs.declared.operations.Op.TheVariants as op
use Rattle.vd_base.specs.Operations.{truth_word, result_of}
use Rattle.vd_core.specs.declared.source.Prefix.{Prefix}
use Rattle.vd_core.specs.declared.source.Prefix.TheVariants as prefix'
use Rattle.vd_core.specs.declared.source.Sign.{Sign}
use Rattle.vd_core.specs.declared.source.Infix.{Infix}
use Rattle.vd_core.specs.declared.source.Infix.TheVariants as infix'
use Rattle.vd_core.specs.declared.source.Direction.{Direction}
use Rattle.vd_core.specs.declared.source.Direction.TheVariants as direction
use Rattle.vd_core.specs.declared.source.Expr.{Expr}
use Rattle.vd_core.specs.declared.source.Expr.TheOpen.{Expr-F, Segment-F}
use Rattle.vd_core.specs.declared.source.Expr.TheFolds.{fold-Expr, fold-Segment}
use Rattle.vd_core.specs.declared.source.Segment.{Segment}
use Rattle.vd_core.specs.declared.source.Host.{Host}
use Rattle.vd_core.specs.declared.source.Parameter.{Parameter}
use Rattle.vd_core.specs.declared.source.Statement.{Statement}
use Rattle.vd_core.specs.declared.source.Statement.TheOpen.{Statement-F}
use Rattle.vd_core.specs.declared.source.Statement.TheFolds.{fold-Statement}
use Rattle.vd_core.specs.declared.source.Function.{Function}
use Rattle.vd_core.specs.declared.source.Source.{Source}
use Rattle.vd_semantics.specs.declared.held.Held.{Held}
use Rattle.vd_semantics.specs.declared.held.Held.TheVariants.{Bound, Cell, Elements}
use Rattle.vd_semantics.specs.World.{World, world_at_start, input_word, after_input, after_output}
use Rattle.vd_base.specs.Names.{Named, at_name, changed, bound, place_of}
use Rattle.vd_semantics.specs.Turns.{turns}
use Rattle.vd_semantics.specs.Functions.{in_text_order}

-- what the names in sight hold, and the world outside
pub record State : Type 0 where
  pub env : Named Held
  pub world : World

-- what a call gives of its arguments
abbrev pub Callee : Type 0
Callee = List ℕ → World → ℕ × World

-- what an expression gives, by the functions and the names in sight
abbrev pub Evaluation : Type 0
Evaluation = Named Callee → Named Held → World → ℕ × World

-- the same of one step of a chain, on the word so far
abbrev pub SegmentEvaluation : Type 0
SegmentEvaluation = Named Callee → Named Held → ℕ → World → ℕ × World

abbrev pub prefix_word : Prefix → ℕ → ℕ
prefix_word prefix'.Flip x = result_of op.Flip (x ∷ [])
prefix_word prefix'.Not x = result_of op.Not (x ∷ [])

-- the operators before an operand, the nearest first
abbrev pub prefixes_word : List Sign → ℕ → ℕ
prefixes_word [] x = x
prefixes_word (s ∷ ss) x = prefixes_word ss (prefix_word s.prefix x)

abbrev pub infix_word : Infix → ℕ → ℕ → ℕ
infix_word infix'.Equal x y = result_of op.Eq (x ∷ y ∷ [])
infix_word infix'.NotEqual x y = result_of op.Ne (x ∷ y ∷ [])
infix_word infix'.Less x y = result_of op.Lt (x ∷ y ∷ [])
infix_word infix'.LessEqual x y = result_of op.Le (x ∷ y ∷ [])
infix_word infix'.Greater x y = result_of op.Lt (y ∷ x ∷ [])
infix_word infix'.GreaterEqual x y = result_of op.Le (y ∷ x ∷ [])
infix_word infix'.Or x y = result_of op.Or (x ∷ y ∷ [])
infix_word infix'.Xor x y = result_of op.Xor (x ∷ y ∷ [])
infix_word infix'.And x y = result_of op.And (x ∷ y ∷ [])
infix_word infix'.Add x y = result_of op.Add (x ∷ y ∷ [])
infix_word infix'.Sub x y = result_of op.Sub (x ∷ y ∷ [])
infix_word infix'.Mul x y = result_of op.Mul (x ∷ y ∷ [])
infix_word infix'.Div x y = result_of op.Div (x ∷ y ∷ [])
infix_word infix'.Rem x y = result_of op.Rem (x ∷ y ∷ [])

abbrev pub shift_word : Direction → ℕ → ℕ → ℕ
shift_word direction.Left bits x = result_of (op.Shl bits) (x ∷ [])
shift_word direction.Right bits x = result_of (op.Shr bits) (x ∷ [])

-- the word that a name holds; one that is not in sight, or an array, gives 0
abbrev pub held_word : Option Held → ℕ
held_word None = 0
held_word (Some (Bound w)) = w
held_word (Some (Cell w)) = w
held_word (Some (Elements ws)) = 0

-- the element at an index; out of range, or where there is no array, it is 0
abbrev pub held_element : Option Held → ℕ → ℕ
held_element None i = 0
held_element (Some (Bound w)) i = 0
held_element (Some (Cell w)) i = 0
held_element (Some (Elements ws)) i = slice_index ws i

-- a function that is not in sight gives 0
abbrev pub called : Option Callee → Callee
called None words w = (0, w)
called (Some callee) words w = callee words w

-- the steps of a chain, from the left
abbrev pub chain_evaluation : List SegmentEvaluation → SegmentEvaluation
chain_evaluation [] callees env x w = (x, w)
chain_evaluation (segment ∷ segments) callees env x w = let p = segment callees env x w in chain_evaluation segments callees env p.0 p.1

-- operands from left to right, all of them
abbrev pub evaluations : List Evaluation → Named Callee → Named Held → World → List ℕ × World
evaluations [] callees env w = ([], w)
evaluations (e ∷ es) callees env w =
    let p = e callees env w in
    let q = evaluations es callees env p.1 in
    (p.0 ∷ q.0, q.1)

-- an operation on operands
abbrev pub applied : Op → List ℕ × World → ℕ × World
applied o p = (result_of o p.0, p.1)

abbrev pub expr_evaluation : List (List ℕ) → Expr-F Evaluation SegmentEvaluation → Evaluation
expr_evaluation hosts (Expr-F.Number n) callees env w = (n, w)
expr_evaluation hosts (Expr-F.Truth b) callees env w = (truth_word b, w)
expr_evaluation hosts (Expr-F.Value x) callees env w = (held_word (at_name env x.name), w)
expr_evaluation hosts (Expr-F.Element x index) callees env w = let p = index callees env w in (held_element (at_name env x.name) p.0, p.1)
expr_evaluation hosts (Expr-F.Input host) callees env w = (input_word w (place_of hosts host.name), after_input w (place_of hosts host.name))
expr_evaluation hosts (Expr-F.Call f arguments) callees env w = let p = evaluations arguments callees env w in called (at_name callees f.name) p.0 p.1
expr_evaluation hosts (Expr-F.Min at x y) callees env w = applied op.Min (evaluations (x ∷ y ∷ []) callees env w)
expr_evaluation hosts (Expr-F.Max at x y) callees env w = applied op.Max (evaluations (x ∷ y ∷ []) callees env w)
expr_evaluation hosts (Expr-F.Mux at x y z) callees env w = applied op.Mux (evaluations (x ∷ y ∷ z ∷ []) callees env w)
expr_evaluation hosts (Expr-F.Declassify x to) callees env w = x callees env w
expr_evaluation hosts (Expr-F.Endorse x to) callees env w = x callees env w
expr_evaluation hosts (Expr-F.Unary x signs) callees env w = let p = x callees env w in (prefixes_word signs p.0, p.1)
expr_evaluation hosts (Expr-F.Chain x segments) callees env w = let p = x callees env w in chain_evaluation segments callees env p.0 p.1
expr_evaluation hosts (Expr-F.Brackets x) callees env w = x callees env w

abbrev pub segment_evaluation : Segment-F Evaluation SegmentEvaluation → SegmentEvaluation
segment_evaluation (Segment-F.Infix o at right) callees env x w = let p = right callees env w in (infix_word o x p.0, p.1)
segment_evaluation (Segment-F.Shift towards at bits) callees env x w = (shift_word towards bits x, w)

abbrev pub evaluation : List (List ℕ) → Expr → Evaluation
evaluation hosts = fold-Expr Evaluation SegmentEvaluation (expr_evaluation hosts) segment_evaluation

abbrev pub evaluation_of_segment : List (List ℕ) → Segment → SegmentEvaluation
evaluation_of_segment hosts = fold-Segment Evaluation SegmentEvaluation (expr_evaluation hosts) segment_evaluation

-- a store changes a variable alone
abbrev pub store_word : ℕ → Held → Held
store_word word (Bound w) = Bound w
store_word word (Cell w) = Cell word
store_word word (Elements ws) = Elements ws

-- a write changes one word of an array; out of range it changes nothing
abbrev pub store_element : ℕ → ℕ → Held → Held
store_element i word (Bound w) = Bound w
store_element i word (Cell w) = Cell w
store_element i word (Elements ws) = Elements (slice_set ws i word)

-- what a statement does, by the functions in sight
abbrev pub Execution : Type 0
Execution = Named Callee → State → State

abbrev pub in_sequence : List Execution → Execution
in_sequence [] callees s = s
in_sequence (f ∷ fs) callees s = in_sequence fs callees (f callees s)

abbrev pub with_name : List ℕ → Held → State → State
with_name name held s = record { env = s.env ++ (name, held) ∷ []; world = s.world }

-- at the end of a block the names go that are its own
abbrev pub left_block : State → State → State
left_block outer s = record { env = take (length outer.env) s.env; world = s.world }

abbrev pub block_execution : List Execution → Execution
block_execution fs callees s = left_block s (in_sequence fs callees s)

-- one turn of a loop, in which its name stands for the number of the turn
abbrev pub turn_execution : List ℕ → List Execution → Named Callee → ℕ → State → State
turn_execution name fs callees i s = left_block s (in_sequence fs callees (with_name name (Bound i) s))

abbrev pub statement_execution : List (List ℕ) → Statement-F Execution → Execution
statement_execution hosts (Statement-F.Let at x label e) callees s =
    let p = evaluation hosts e callees s.env s.world in
    with_name x.name (Bound p.0) (record { env = s.env; world = p.1 })
statement_execution hosts (Statement-F.Var at x kind label e) callees s =
    let p = evaluation hosts e callees s.env s.world in
    with_name x.name (Cell p.0) (record { env = s.env; world = p.1 })
statement_execution hosts (Statement-F.Array at x kind size label) callees s = with_name x.name (Elements (replicate size 0)) s
statement_execution hosts (Statement-F.Store x e) callees s =
    let p = evaluation hosts e callees s.env s.world in
    record { env = changed (store_word p.0) x.name s.env; world = p.1 }
statement_execution hosts (Statement-F.Put x index e) callees s =
    let p = evaluation hosts index callees s.env s.world in
    let q = evaluation hosts e callees s.env p.1 in
    record { env = changed (store_element p.0 q.0) x.name s.env; world = q.1 }
statement_execution hosts (Statement-F.Output at e host) callees s =
    let p = evaluation hosts e callees s.env s.world in
    record { env = s.env; world = after_output p.1 (place_of hosts host.name) p.0 }
statement_execution hosts (Statement-F.If at guard then_block else_block) callees s =
    let p = evaluation hosts guard callees s.env s.world in
    block_execution (if nat_eq p.0 0 then else_block else then_block) callees (record { env = s.env; world = p.1 })
statement_execution hosts (Statement-F.For at x count body) callees s = turns count (turn_execution x.name body callees) s

abbrev pub execution : List (List ℕ) → Statement → Execution
execution hosts = fold-Statement Execution (statement_execution hosts)

abbrev pub parameter_names : List Parameter → List (List ℕ)
parameter_names ps = map (λ p. p.name.name) ps

-- a function sees its parameters and the functions before it
abbrev pub callee_of : List (List ℕ) → Function → Named Callee → Callee
callee_of hosts f earlier words w =
    let s = in_sequence (map (execution hosts) f.body) earlier (record { env = bound Bound (parameter_names f.parameters) words; world = w }) in
    evaluation hosts f.gives earlier s.env s.world

-- the functions of a source, as its calls see them
abbrev pub callees_of : List (List ℕ) → List Function → Named Callee
callees_of hosts functions = in_text_order (callee_of hosts) [] functions

abbrev pub host_names : List Host → List (List ℕ)
host_names hs = map (λ h. h.name.name) hs

-- the world once a source has run
abbrev pub source_end : Source → World → World
source_end source w =
    let hosts = host_names source.hosts in
    (in_sequence (map (execution hosts) source.main) (callees_of hosts source.functions) (record { env = []; world = w })).world

-- the outputs to each host
abbrev pub source_outputs : Source → List (List ℕ) → List (List ℕ)
source_outputs source inputs = (source_end source (world_at_start (length source.hosts) inputs)).outputs
