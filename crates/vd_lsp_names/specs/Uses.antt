-- The names of a source in the order of its text, each with what it declares or with what is in sight under it where it stands.
use Rattle.std.specs.Prelude.{ℕ, List, [], ◌∷◌, ◌++◌, map, Option, Some, None}
use Rattle.vd_base.specs.Names.{Named, at_name}
use Rattle.vd_core.specs.declared.source.Expr.{Expr}
use Rattle.vd_core.specs.declared.source.Expr.TheOpen.{Expr-F, Segment-F}
use Rattle.vd_core.specs.declared.source.Expr.TheFolds.{fold-Expr, fold-Segment}
use Rattle.vd_core.specs.declared.source.Function.{Function}
use Rattle.vd_core.specs.declared.source.Host.{Host}
use Rattle.vd_core.specs.declared.source.Ident.{Ident}
use Rattle.vd_core.specs.declared.source.Parameter.{Parameter}
use Rattle.vd_core.specs.declared.source.Segment.{Segment}
use Rattle.vd_core.specs.declared.source.Source.{Source}
use Rattle.vd_core.specs.declared.source.Statement.{Statement}
use Rattle.vd_core.specs.declared.source.Statement.TheOpen.{Statement-F}
use Rattle.vd_core.specs.declared.source.Statement.TheFolds.{fold-Statement}
use Rattle.vd_core.specs.declared.source.WrittenForm.{WrittenForm}
use Rattle.vd_core.specs.declared.source.WrittenForm.TheOpen.{WrittenForm-F}
use Rattle.vd_core.specs.declared.source.WrittenForm.TheFolds.{fold-WrittenForm}
use Rattle.vd_core.specs.declared.source.WrittenLabel.{WrittenLabel}
use Rattle.vd_lsp_names.specs.declared.kinds.Declared.{Declared}
use Rattle.vd_lsp_names.specs.declared.kinds.Outer.{Outer}
use Rattle.vd_lsp_names.specs.declared.kinds.Role.{Role}
use Rattle.vd_lsp_names.specs.declared.kinds.Role.TheVariants as role
use Rattle.vd_lsp_names.specs.declared.kinds.Use.{Use}

-- one name more
abbrev pub mention : Ident → Named Declared → List Use → List Use
mention x names found = found ++ record { at = x.span; declared = at_name names x.name } ∷ []

abbrev pub declares : Ident → Declared → List Use → List Use
declares x declared found = found ++ record { at = x.span; declared = Some declared } ∷ []

abbrev pub declaration : Role → Ident → Option ℕ → Declared
declaration role x statement = record { role = role; at = x.span; statement = statement }

-- ---- labels: the principals that they name

abbrev pub FormNaming : Type 0
FormNaming = Named Declared → List Use → List Use

abbrev pub all_forms : List FormNaming → FormNaming
all_forms [] principals found = found
all_forms (f ∷ fs) principals found = all_forms fs principals (f principals found)

abbrev pub form_names : WrittenForm-F FormNaming → FormNaming
form_names WrittenForm-F.Any principals found = found
form_names WrittenForm-F.Never principals found = found
form_names (WrittenForm-F.Name x) principals found = mention x principals found
form_names (WrittenForm-F.Both fs) principals found = all_forms fs principals found
form_names (WrittenForm-F.Either fs) principals found = all_forms fs principals found

abbrev pub form_naming : WrittenForm → FormNaming
form_naming = fold-WrittenForm FormNaming form_names

abbrev pub label_naming : WrittenLabel → FormNaming
label_naming label principals found = form_naming label.integ principals (form_naming label.conf principals found)

abbrev pub written_naming : Option WrittenLabel → FormNaming
written_naming None principals found = found
written_naming (Some label) principals found = label_naming label principals found

-- ---- expressions, where these values are in sight

abbrev pub Naming : Type 0
Naming = Outer → Named Declared → List Use → List Use

abbrev pub in_turn : List Naming → Naming
in_turn [] outer values found = found
in_turn (n ∷ ns) outer values found = in_turn ns outer values (n outer values found)

abbrev pub expr_names : Expr-F Naming Naming → Naming
expr_names (Expr-F.Number n) outer values found = found
expr_names (Expr-F.Truth b) outer values found = found
expr_names (Expr-F.Value x) outer values found = mention x values found
expr_names (Expr-F.Element x index) outer values found = index outer values (mention x values found)
expr_names (Expr-F.Input host) outer values found = mention host outer.hosts found
expr_names (Expr-F.Call f arguments) outer values found = in_turn arguments outer values (mention f outer.functions found)
expr_names (Expr-F.Min at x y) outer values found = y outer values (x outer values found)
expr_names (Expr-F.Max at x y) outer values found = y outer values (x outer values found)
expr_names (Expr-F.Mux at c x y) outer values found = y outer values (x outer values (c outer values found))
expr_names (Expr-F.Declassify x to) outer values found = form_naming to outer.principals (x outer values found)
expr_names (Expr-F.Endorse x to) outer values found = form_naming to outer.principals (x outer values found)
expr_names (Expr-F.Unary x signs) outer values found = x outer values found
expr_names (Expr-F.Chain x segments) outer values found = in_turn segments outer values (x outer values found)
expr_names (Expr-F.Brackets x) outer values found = x outer values found

abbrev pub segment_names : Segment-F Naming Naming → Naming
segment_names (Segment-F.Infix o at right) outer values found = right outer values found
segment_names (Segment-F.Shift towards at bits) outer values found = found

abbrev pub naming : Expr → Naming
naming = fold-Expr Naming Naming expr_names segment_names

abbrev pub naming_of_segment : Segment → Naming
naming_of_segment = fold-Segment Naming Naming expr_names segment_names

-- ---- statements: what was found so far, and the values in sight

pub record Walk : Type 0 where
  pub found : List Use
  pub values : Named Declared

abbrev pub walk_of : List Use → Named Declared → Walk
walk_of found values = record { found = found; values = values }

abbrev pub Walking : Type 0
Walking = Outer → Walk → Walk

abbrev pub in_order : List Walking → Walking
in_order [] outer walk = walk
in_order (w ∷ ws) outer walk = in_order ws outer (w outer walk)

-- the names of a block end with it
abbrev pub block_walking : List Walking → Walking
block_walking ws outer walk = walk_of (in_order ws outer walk).found walk.values

abbrev pub with_value : Ident → Declared → Named Declared → Named Declared
with_value x declared values = values ++ (x.name, declared) ∷ []

-- a declaration with its label and its value, which does not see it
abbrev pub binding : Declared → Ident → Option WrittenLabel → Expr → Walking
binding declared x label value outer walk =
    walk_of (naming value outer walk.values (written_naming label outer.principals (declares x declared walk.found)))
    (with_value x declared walk.values)

abbrev pub statement_names : Statement-F Walking → Walking
statement_names (Statement-F.Let at x label value) outer walk =
    binding (declaration role.Constant x (Some at.start)) x label value outer walk
statement_names (Statement-F.Var at x kind label value) outer walk =
    binding (declaration role.Variable x (Some at.start)) x label value outer walk
statement_names (Statement-F.Array at x kind size label) outer walk =
    let declared = declaration role.Array x (Some at.start) in
    walk_of (written_naming label outer.principals (declares x declared walk.found)) (with_value x declared walk.values)
statement_names (Statement-F.Store x value) outer walk =
    walk_of (naming value outer walk.values (mention x walk.values walk.found)) walk.values
statement_names (Statement-F.Put x index value) outer walk =
    walk_of (naming value outer walk.values (naming index outer walk.values (mention x walk.values walk.found))) walk.values
statement_names (Statement-F.Output at value host) outer walk =
    walk_of (mention host outer.hosts (naming value outer walk.values walk.found)) walk.values
statement_names (Statement-F.If at guard then_block else_block) outer walk =
    block_walking else_block outer (block_walking then_block outer (walk_of (naming guard outer walk.values walk.found) walk.values))
statement_names (Statement-F.For at x count body) outer walk =
    let declared = declaration role.Turn x (Some at.start) in
    walk_of (in_order body outer (walk_of (declares x declared walk.found) (with_value x declared walk.values))).found walk.values

abbrev pub walking : Statement → Walking
walking = fold-Statement Walking statement_names

-- ---- declarations outside of blocks, each with those before it

-- names that are declared one after another
pub record Listed : Type 0 where
  pub found : List Use
  pub names : Named Declared

abbrev pub listed_of : List Use → Named Declared → Listed
listed_of found names = record { found = found; names = names }

abbrev pub listed : Role → Ident → Listed → Listed
listed role x list = listed_of (declares x (declaration role x None) list.found) (with_value x (declaration role x None) list.names)

abbrev pub principals_named : Listed → List Ident → Listed
principals_named list [] = list
principals_named list (x ∷ xs) = principals_named (listed role.Principal x list) xs

-- the label of a host comes behind its name
abbrev pub host_named : Named Declared → Host → Listed → Listed
host_named principals h list =
    listed_of (label_naming h.label principals (listed role.Host h.name list).found) (listed role.Host h.name list).names

abbrev pub hosts_named : Named Declared → Listed → List Host → Listed
hosts_named principals list [] = list
hosts_named principals list (h ∷ hs) = hosts_named principals (host_named principals h list) hs

abbrev pub parameter_named : Walk → Ident → Walk
parameter_named walk x =
    walk_of (declares x (declaration role.Parameter x None) walk.found) (with_value x (declaration role.Parameter x None) walk.values)

abbrev pub parameters_named : Walk → List Parameter → Walk
parameters_named walk [] = walk
parameters_named walk (p ∷ ps) = parameters_named (parameter_named walk p.name) ps

-- what a function declares, and what its statements name; it does not see itself
abbrev pub body_walk : Outer → Function → List Use → Walk
body_walk outer f found =
    in_order (map walking f.body) outer
    (parameters_named (walk_of (declares f.name (declaration role.Function f.name None) found) []) f.parameters)

abbrev pub function_naming : Outer → Function → List Use → List Use
function_naming outer f found = naming f.gives outer (body_walk outer f found).values (body_walk outer f found).found

abbrev pub with_function : Function → Outer → Outer
with_function f outer = record outer { functions = with_value f.name (declaration role.Function f.name None) outer.functions }

-- what was found so far, and what is declared
pub record Declaring : Type 0 where
  pub found : List Use
  pub outer : Outer

abbrev pub declaring_of : List Use → Outer → Declaring
declaring_of found outer = record { found = found; outer = outer }

abbrev pub functions_named : Declaring → List Function → Declaring
functions_named so_far [] = so_far
functions_named so_far (f ∷ fs) =
    functions_named (declaring_of (function_naming so_far.outer f so_far.found) (with_function f so_far.outer)) fs

abbrev pub main_naming : Declaring → List Statement → List Use
main_naming so_far main = (in_order (map walking main) so_far.outer (walk_of so_far.found [])).found

-- the principals and the hosts, where no function is in sight
abbrev pub outer_named : List Use → Source → Declaring
outer_named found source =
    let principals = principals_named (listed_of found []) source.principals in
    let hosts = hosts_named principals.names (listed_of principals.found []) source.hosts in
    declaring_of hosts.found (record { principals = principals.names; hosts = hosts.names; functions = [] })

-- The names of a source in the order of its text.
abbrev pub uses_of : Source → List Use
uses_of source = main_naming (functions_named (outer_named [] source) source.functions) source.main
