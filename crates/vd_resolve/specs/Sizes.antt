-- How large the let-normal form of a source is, found on the source itself.
use Rattle.std.specs.Prelude.{◌≡◌, ℕ, ◌+◌, ◌*◌, ◌-◌, ◌^◌, max, min, Bool, true, false, not, if◌then◌else◌, List, [], ◌∷◌, ◌++◌, map, Option, Some, None}
use Rattle.vd_core.specs.declared.source.Infix.{Infix}
use Rattle.vd_core.specs.declared.source.Infix.TheVariants as infix'
use Rattle.vd_core.specs.declared.source.Parameter.{Parameter}
use Rattle.vd_core.specs.declared.source.Expr.{Expr}
use Rattle.vd_core.specs.declared.source.Expr.TheOpen.{Expr-F, Segment-F}
use Rattle.vd_core.specs.declared.source.Expr.TheFolds.{fold-Expr, fold-Segment}
use Rattle.vd_core.specs.declared.source.Segment.{Segment}
use Rattle.vd_core.specs.declared.source.Statement.{Statement}
use Rattle.vd_core.specs.declared.source.Statement.TheOpen.{Statement-F}
use Rattle.vd_core.specs.declared.source.Statement.TheFolds.{fold-Statement}
use Rattle.vd_core.specs.declared.source.Function.{Function}
use Rattle.vd_core.specs.declared.source.Sign.{Sign}
use Rattle.vd_core.specs.declared.source.Source.{Source}
use Rattle.vd_resolve.specs.declared.size.Size.{Size}
use Rattle.vd_base.specs.Names.{Named, at_name}

abbrev pub nothing : Size
nothing = record { statements = 0; weights = 0; nesting = 0; cells = 0 }

-- one statement
abbrev pub one : Size
one = record { statements = 1; weights = 1; nesting = 0; cells = 0 }

-- one after another
unfoldable pub also : Size → Size → Size
also a b = record { statements = a.statements + b.statements; weights = a.weights + b.weights; nesting = max a.nesting b.nesting; cells = a.cells + b.cells }

-- in a loop of so many turns
unfoldable pub repeated : ℕ → Size → Size
repeated count s = record { statements = s.statements; weights = s.weights * count; nesting = s.nesting + 1; cells = s.cells }

-- an inlined call counts as one more statement, which has no weight
unfoldable pub inlined : Size → Size
inlined s = record { statements = s.statements + 1; weights = s.weights; nesting = s.nesting; cells = s.cells }

-- an array of so many cells
unfoldable pub array_of : ℕ → Size
array_of length = record { statements = 1; weights = 1; nesting = 0; cells = length }

-- a count of 2^32 or more is told as 2^32 - 1
abbrev pub capped : ℕ → ℕ
capped n = min n (2 ^ 32 - 1)

unfoldable pub capped_size : Size → Size
capped_size s = record { statements = capped s.statements; weights = capped s.weights; nesting = capped s.nesting; cells = capped s.cells }

unfoldable pub IsCapped : Size → Size → Type 0
IsCapped s exact = s ≡ capped_size exact

-- The values in sight, and whether each is a variable.
abbrev pub Variables : Type 0
Variables = Named Bool

abbrev pub is_true : Option Bool → Bool
is_true None = false
is_true (Some b) = b

abbrev pub is_variable : Variables → List ℕ → Bool
is_variable variables name = is_true (at_name variables name)

-- What an expression comes to, by the functions before it and the values in sight; whether it gives a binding that
-- there is (a `let` name, a parameter, a loop's name) or that a call gives, so that a `let` of it is a copy; and whether
-- it is a bare number.
pub record Sizing : Type 0 where
  pub size : Named Size → Variables → Size
  pub plain : Variables → Bool
  pub bare : Bool

abbrev pub SegmentSizing : Type 0
SegmentSizing = Named Size → Variables → Size

-- a binding of its own
abbrev pub made : (Named Size → Variables → Size) → Sizing
made size = record { size = size; plain = λ variables. false; bare = false }

-- after what was counted before, expressions from left to right
abbrev pub sizes_after : Size → List Sizing → Named Size → Variables → Size
sizes_after before [] functions variables = before
sizes_after before (s ∷ ss) functions variables = sizes_after (also before (s.size functions variables)) ss functions variables

-- the steps of a chain likewise
abbrev pub segments_after : Size → List SegmentSizing → Named Size → Variables → Size
segments_after before [] functions variables = before
segments_after before (s ∷ ss) functions variables = segments_after (also before (s functions variables)) ss functions variables

-- an operation for each operator before an operand
abbrev pub signs_after : Size → List Sign → Size
signs_after before [] = before
signs_after before (s ∷ ss) = signs_after (also before one) ss

-- an operand to which nothing is done is itself
abbrev pub plain_alone : {A : Type 0} → List A → Bool → Bool
plain_alone [] plain = plain
plain_alone (a ∷ rest) plain = false

abbrev pub call_size : Option Size → Size
call_size None = nothing
call_size (Some s) = inlined s

abbrev pub expr_sizing : Expr-F Sizing SegmentSizing → Sizing
expr_sizing (Expr-F.Number n) = record { size = λ functions variables. one; plain = λ variables. false; bare = true }
expr_sizing (Expr-F.Truth b) = made (λ functions variables. one)
expr_sizing (Expr-F.Value x) = record { size = λ functions variables. if is_variable variables x.name then one else nothing; plain = λ variables. not (is_variable variables x.name); bare = false }
expr_sizing (Expr-F.Element x index) = made (λ functions variables. also (index.size functions variables) one)
expr_sizing (Expr-F.Input host) = made (λ functions variables. one)
expr_sizing (Expr-F.Call f arguments) = record {
  size = λ functions variables. also (sizes_after nothing arguments functions variables) (call_size (at_name functions f.name));
  plain = λ variables. true;
  bare = false;
}
expr_sizing (Expr-F.Min at x y) = made (λ functions variables. also (also (x.size functions variables) (y.size functions variables)) one)
expr_sizing (Expr-F.Max at x y) = made (λ functions variables. also (also (x.size functions variables) (y.size functions variables)) one)
expr_sizing (Expr-F.Mux at c x y) = made (λ functions variables. also (also (also (c.size functions variables) (x.size functions variables)) (y.size functions variables)) one)
expr_sizing (Expr-F.Declassify x to) = made (λ functions variables. also (x.size functions variables) one)
expr_sizing (Expr-F.Endorse x to) = made (λ functions variables. also (x.size functions variables) one)
expr_sizing (Expr-F.Unary x signs) = record {
  size = λ functions variables. signs_after (x.size functions variables) signs;
  plain = λ variables. plain_alone signs (x.plain variables);
  bare = false;
}
expr_sizing (Expr-F.Chain x segments) = record {
  size = λ functions variables. also (x.size functions variables) (segments_after nothing segments functions variables);
  plain = λ variables. plain_alone segments (x.plain variables);
  bare = false;
}
expr_sizing (Expr-F.Brackets x) = record { size = x.size; plain = x.plain; bare = false }

-- a bare number right of `*` is a part of the operation, and so is the amount of a shift
abbrev pub is_scale : Infix → Bool → Bool
is_scale infix'.Mul bare = bare
is_scale infix'.Equal bare = false
is_scale infix'.NotEqual bare = false
is_scale infix'.Less bare = false
is_scale infix'.LessEqual bare = false
is_scale infix'.Greater bare = false
is_scale infix'.GreaterEqual bare = false
is_scale infix'.Or bare = false
is_scale infix'.Xor bare = false
is_scale infix'.And bare = false
is_scale infix'.Add bare = false
is_scale infix'.Sub bare = false
is_scale infix'.Div bare = false
is_scale infix'.Rem bare = false

abbrev pub segment_sizing : Segment-F Sizing SegmentSizing → SegmentSizing
segment_sizing (Segment-F.Infix o at right) functions variables = if is_scale o right.bare then one else also (right.size functions variables) one
segment_sizing (Segment-F.Shift towards at bits) functions variables = one

abbrev pub sizing : Expr → Sizing
sizing = fold-Expr Sizing SegmentSizing expr_sizing segment_sizing

abbrev pub sizing_of_segment : Segment → SegmentSizing
sizing_of_segment = fold-Segment Sizing SegmentSizing expr_sizing segment_sizing

abbrev pub expr_size : Expr → Named Size → Variables → Size
expr_size e = (sizing e).size

-- A statement's size, and the values in sight after it.

abbrev pub StatementSizing : Type 0
StatementSizing = Named Size → Variables → Size × Variables

-- after what was counted before, statements in order
abbrev pub statements_after : Size → List StatementSizing → StatementSizing
statements_after before [] functions variables = (before, variables)
statements_after before (s ∷ ss) functions variables = let p = s functions variables in statements_after (also before p.0) ss functions p.1

abbrev pub block_size : List StatementSizing → Named Size → Variables → Size
block_size ss functions variables = (statements_after nothing ss functions variables).0

abbrev pub with_value : List ℕ → Bool → Variables → Variables
with_value name variable variables = variables ++ (name, variable) ∷ []

abbrev pub statement_sizing : Statement-F StatementSizing → StatementSizing
statement_sizing (Statement-F.Let at x label value) functions variables =
    (if (sizing value).plain variables then also (expr_size value functions variables) one else expr_size value functions variables, with_value x.name false variables)
statement_sizing (Statement-F.Var at x kind label value) functions variables = (also (expr_size value functions variables) one, with_value x.name true variables)
statement_sizing (Statement-F.Array at x kind length label) functions variables = (array_of length, with_value x.name false variables)
statement_sizing (Statement-F.Store x value) functions variables = (also (expr_size value functions variables) one, variables)
statement_sizing (Statement-F.Put x index value) functions variables = (also (also (expr_size index functions variables) (expr_size value functions variables)) one, variables)
statement_sizing (Statement-F.Output at value host) functions variables = (also (expr_size value functions variables) one, variables)
statement_sizing (Statement-F.If at guard then_block else_block) functions variables =
    (also (also (also (expr_size guard functions variables) one) (block_size then_block functions variables)) (block_size else_block functions variables), variables)
-- a loop's name is a statement of its body
statement_sizing (Statement-F.For at x count body) functions variables =
    (also one (repeated count (also one (block_size body functions (with_value x.name false variables)))), variables)

abbrev pub statement_size : Statement → StatementSizing
statement_size = fold-Statement StatementSizing statement_sizing

-- no parameter is a variable
abbrev pub parameter_variables : List Parameter → Variables
parameter_variables ps = map (λ p. (p.name.name, false)) ps

-- the body of a function, with what it gives
abbrev pub function_size : Named Size → Function → Size
function_size functions f =
    let p = statements_after nothing (map statement_size f.body) functions (parameter_variables f.parameters) in
    also p.0 (expr_size f.gives functions p.1)

-- the functions in order, each by those before it
abbrev pub function_sizes : Named Size → List Function → Named Size
function_sizes before [] = before
function_sizes before (f ∷ fs) = function_sizes (before ++ (f.name.name, function_size before f) ∷ []) fs

abbrev pub bodies_size : List Function → List Statement → Size
bodies_size fs main = block_size (map statement_size main) (function_sizes [] fs) []

abbrev pub source_size : Source → Size
source_size source = bodies_size source.functions source.main
