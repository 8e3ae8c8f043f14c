-- What is in sight behind a statement, in the resolver's walk and in that over names.
use Rattle.std.proofs.Common.{◌≡◌, ℕ, true, false, List, [], ◌∷◌, ◌++◌, map, Option, Some, option_map, Result, Ok, Err, refl, sym, ap, subst, ◌∙◌, if◌then◌else◌, bytes_eq}
use Rattle.vd_base.specs.Names.{Named, at_name}
use Rattle.vd_base.specs.declared.ids.Span.{Span}
use Rattle.vd_base.specs.declared.operations.Kind.{Kind}
use Rattle.vd_base.specs.declared.operations.Kind.TheVariants.{Word, Bool as Truth}
use Rattle.vd_core.specs.declared.source.Ident.{Ident}
use Rattle.vd_core.specs.declared.source.Statement.{Statement, roll-Statement, map-Statement, ind-Statement}
use Rattle.vd_core.specs.declared.source.Statement.TheOpen.{Statement-F}
use Rattle.vd_core.specs.declared.source.Statement.TheFolds.{fold-roll-Statement}
use Rattle.vd_core.specs.declared.source.WrittenLabel.{WrittenLabel}
use Rattle.vd_resolve.specs.Causes.{Passing, block_passing, declared_once, go_on, in_order as in_order_told, new_met, passing, plain, put_telling, statement_passing, store_met, telling, where_meet}
use Rattle.vd_resolve.specs.Faults.{Cause, Kinds}
use Rattle.vd_resolve.specs.Rules.{Scope, declared, is_kind, is_stored, known, written_label_check}
use Rattle.vd_resolve.specs.declared.met.Met.TheVariants as met
use Rattle.vd_resolve.specs.Tables.{Table, names, places}
use Rattle.vd_resolve.specs.declared.symbol.Symbol.{Symbol}
use Rattle.vd_resolve.specs.declared.symbol.Symbol.TheVariants.{Constant, Variable, Array}
use Rattle.vd_lsp_names.specs.Sights.{places_in}
use Rattle.vd_lsp_names.specs.Uses.{Walk, Walking, declaration, in_order, statement_names, walking, with_value}
use Rattle.vd_lsp_names.specs.declared.kinds.Declared.{Declared}
use Rattle.vd_lsp_names.specs.declared.kinds.Outer.{Outer}
use Rattle.vd_lsp_names.specs.declared.kinds.Role.TheVariants as role

ok_is : {A E : Type 0} (a b : A) → ◌≡◌ {A = Result A E} (Ok a) (Ok b) → a ≡ b
ok_is a b e = cc

err_ok : {A E : Type 0} (c : E) (b : A) → ◌≡◌ {A = Result A E} (Err c) (Ok b) → ⊥
err_ok c b e = cc

-- a step that does not stop
gone_on : {A B : Type 0} (r : Result A Cause) (f : A → Result B Cause) (b : B) → go_on r f ≡ Ok b → (a : A) × (r ≡ Ok a) × (f a ≡ Ok b)
gone_on (Ok a) f b e = (a, refl, e)
gone_on (Err c) f b e = absurd (err_ok c b e)

declared_places : {A : Type 0} (x : Ident) (a : A) (table after : Table A) → declared_once x a table ≡ Ok after → places after ≡ places table ++ (x.name, x.span) ∷ []
declared_places x a table after e =
    let p = gone_on (where_meet (new_met x table) (declared x a (names table))) (λ next. Ok (next, places table ++ (x.name, x.span) ∷ [])) after e in
    sym (ap (λ t. t.1) (ok_is (p.0, places table ++ (x.name, x.span) ∷ []) after p.2))

map_last : (values : Named Declared) (x : List ℕ) (d : Declared) → places_in (values ++ (x, d) ∷ []) ≡ places_in values ++ (x, d.at) ∷ []
map_last [] x d = refl
map_last (v ∷ vs) x d = ap (λ z. (v.0, v.1.at) ∷ z) (map_last vs x d)

-- one more name
grown : (values : Named Declared) (x : Ident) (d : Declared) (table after : Table Symbol) → d.at ≡ x.span → places_in values ≡ places table → places after ≡ places table ++ (x.name, x.span) ∷ []
    → places_in (with_value x d values) ≡ places after
grown values x d table after at same more = map_last values x.name d ∙ ap (λ s. places_in values ++ (x.name, s) ∷ []) at ∙ ap (λ z. z ++ (x.name, x.span) ∷ []) same ∙ sym more

abbrev Sees : Passing → Walking → Type 0
Sees p w = (scope : Scope) (table next : Table Symbol) (outer : Outer) (walk : Walk) → places_in walk.values ≡ places table → p scope table ≡ Ok next → places_in (w outer walk).values ≡ places next

abbrev stored_told : Ident → Kind → Table Symbol → Result (Unit {0}) Cause
stored_told x kind table = where_meet (Kinds (store_met kind (at_name (names table) x.name))) (is_stored x.span kind (at_name (names table) x.name))

abbrev blocks_told : List Passing → List Passing → Scope → Table Symbol → Result (Table Symbol) Cause
blocks_told a b scope table = go_on (block_passing a scope table) (λ after. block_passing b scope after)

abbrev if_told : Span → Kind → List Passing → List Passing → Scope → Table Symbol → Result (Table Symbol) Cause
if_told at kind a b scope table = go_on (where_meet (Kinds (met.Guard kind)) (is_kind at Truth kind)) (λ fit. blocks_told a b scope table)

-- a block leaves the names as they are
block_same : (ps : List Passing) (scope : Scope) (table next : Table Symbol) → block_passing ps scope table ≡ Ok next → table ≡ next
block_same ps scope table next e = let p = gone_on (in_order_told ps scope table) (λ inner. Ok table) next e in ok_is table next p.2

-- a label that is checked behind a declaration
abbrev labelled : Option WrittenLabel → Scope → Table Symbol → Result (Table Symbol) Cause
labelled label scope after = go_on (plain (written_label_check label scope.principals)) (λ done. Ok after)

labelled_same : (label : Option WrittenLabel) (scope : Scope) (after next : Table Symbol) → labelled label scope after ≡ Ok next → after ≡ next
labelled_same label scope after next e = let r = gone_on (plain (written_label_check label scope.principals)) (λ done. Ok after) next e in ok_is after next r.2

-- a declaration, and then its label
abbrev declares_told : Ident → Symbol → Option WrittenLabel → Scope → Table Symbol → Result (Table Symbol) Cause
declares_told x symbol label scope table = go_on (declared_once x symbol table) (λ after. labelled label scope after)

declares_sees : (x : Ident) (symbol : Symbol) (label : Option WrittenLabel) (scope : Scope) (table next : Table Symbol) (values : Named Declared) (d : Declared) → d.at ≡ x.span
    → places_in values ≡ places table → declares_told x symbol label scope table ≡ Ok next → places_in (with_value x d values) ≡ places next
declares_sees x symbol label scope table next values d at same e =
    let q = gone_on (declared_once x symbol table) (λ after. labelled label scope after) next e in
    grown values x d table q.0 at same (declared_places x symbol table q.0 q.1) ∙ ap places (labelled_same label scope q.0 next q.2)

-- of a variable, whose kind is checked between the two
abbrev var_told : Ident → Kind → Kind → Option WrittenLabel → Scope → Table Symbol → Result (Table Symbol) Cause
var_told x kind given label scope table =
    go_on (declared_once x (Variable kind) table) (λ after. go_on (where_meet (Kinds (met.Value given)) (is_kind x.span kind given)) (λ fit. labelled label scope after))

var_sees : (x : Ident) (kind given : Kind) (label : Option WrittenLabel) (scope : Scope) (table next : Table Symbol) (values : Named Declared) (d : Declared) → d.at ≡ x.span
    → places_in values ≡ places table → var_told x kind given label scope table ≡ Ok next → places_in (with_value x d values) ≡ places next
var_sees x kind given label scope table next values d at same e =
    let q = gone_on (declared_once x (Variable kind) table) (λ after. go_on (where_meet (Kinds (met.Value given)) (is_kind x.span kind given)) (λ fit. labelled label scope after)) next e in
    let f = gone_on (where_meet (Kinds (met.Value given)) (is_kind x.span kind given)) (λ fit. labelled label scope q.0) next q.2 in
    grown values x d table q.0 at same (declared_places x (Variable kind) table q.0 q.1) ∙ ap places (labelled_same label scope q.0 next f.2)

-- a test, behind which the names are as they were
tested_same : {A : Type 0} (r : Result A Cause) (table next : Table Symbol) → go_on r (λ done. Ok table) ≡ Ok next → table ≡ next
tested_same r table next e = let p = gone_on r (λ done. Ok table) next e in ok_is table next p.2

layer_sees : (y : Statement-F Statement) → Sees (statement_passing (map-Statement Statement Passing passing y)) (statement_names (map-Statement Statement Walking walking y))
layer_sees (Statement-F.Let at x label value) scope table next outer walk same e =
    let p = gone_on (telling value scope (names table)) (λ kind. declares_told x (Constant kind) label scope table) next e in
    declares_sees x (Constant p.0) label scope table next walk.values (declaration role.Constant x (Some at.start)) refl same p.2
layer_sees (Statement-F.Var at x kind label value) scope table next outer walk same e =
    let p = gone_on (telling value scope (names table)) (λ given. var_told x kind given label scope table) next e in
    var_sees x kind p.0 label scope table next walk.values (declaration role.Variable x (Some at.start)) refl same p.2
layer_sees (Statement-F.Array at x kind size label) scope table next outer walk same e =
    declares_sees x (Array kind) label scope table next walk.values (declaration role.Array x (Some at.start)) refl same e
layer_sees (Statement-F.Store x value) scope table next outer walk same e =
    let p = gone_on (telling value scope (names table)) (λ kind. go_on (stored_told x kind table) (λ done. Ok table)) next e in
    same ∙ ap places (tested_same (stored_told x p.0 table) table next p.2)
layer_sees (Statement-F.Put x index value) scope table next outer walk same e =
    let i = gone_on (telling index scope (names table)) (λ i. go_on (telling value scope (names table)) (λ kind. go_on (put_telling x.span i kind (at_name (names table) x.name)) (λ done. Ok table))) next e in
    let p = gone_on (telling value scope (names table)) (λ kind. go_on (put_telling x.span i.0 kind (at_name (names table) x.name)) (λ done. Ok table)) next i.2 in
    same ∙ ap places (tested_same (put_telling x.span i.0 p.0 (at_name (names table) x.name)) table next p.2)
layer_sees (Statement-F.Output at value host) scope table next outer walk same e =
    let p = gone_on (telling value scope (names table)) (λ kind. go_on (plain (known scope.hosts host)) (λ done. Ok table)) next e in
    same ∙ ap places (tested_same (plain (known scope.hosts host)) table next p.2)
layer_sees (Statement-F.If at guard then_block else_block) scope table next outer walk same e =
    let p = gone_on (telling guard scope (names table)) (λ kind. if_told at kind (map passing then_block) (map passing else_block) scope table) next e in
    let f = gone_on (where_meet (Kinds (met.Guard p.0)) (is_kind at Truth p.0)) (λ fit. blocks_told (map passing then_block) (map passing else_block) scope table) next p.2 in
    let t = gone_on (block_passing (map passing then_block) scope table) (λ after. block_passing (map passing else_block) scope after) next f.2 in
    same ∙ ap places (block_same (map passing then_block) scope table t.0 t.1 ∙ block_same (map passing else_block) scope t.0 next t.2)
layer_sees (Statement-F.For at x count body) scope table next outer walk same e =
    let p = gone_on (declared_once x (Constant Word) table) (λ inner. go_on (block_passing (map passing body) scope inner) (λ left. Ok table)) next e in
    same ∙ ap places (tested_same (block_passing (map passing body) scope p.0) table next p.2)

abbrev M : Type 0
M = (s : Statement) × Sees (passing s) (walking s)

pub statement_sees : (s : Statement) → Sees (passing s) (walking s)
statement_sees = ind-Statement (λ s. Sees (passing s) (walking s)) (λ x y is. subst (λ z. Sees (passing (roll-Statement z)) (walking (roll-Statement z))) is
    (subst (λ p. Sees p (walking (roll-Statement (map-Statement M Statement (λ m. m.0) y)))) (sym (fold-roll-Statement Passing statement_passing (map-Statement M Statement (λ m. m.0) y)))
    (subst (Sees (statement_passing (map-Statement Statement Passing passing (map-Statement M Statement (λ m. m.0) y)))) (sym (fold-roll-Statement Walking statement_names (map-Statement M Statement (λ m. m.0) y)))
    (layer_sees (map-Statement M Statement (λ m. m.0) y)))))

pub statements_see : (ss : List Statement) (scope : Scope) (table next : Table Symbol) (outer : Outer) (walk : Walk) → places_in walk.values ≡ places table
    → in_order_told (map passing ss) scope table ≡ Ok next → places_in (in_order (map walking ss) outer walk).values ≡ places next
statements_see [] scope table next outer walk same e = same ∙ ap places (ok_is table next e)
statements_see (s ∷ ss) scope table next outer walk same e =
    let p = gone_on (passing s scope table) (λ after. in_order_told (map passing ss) scope after) next e in
    statements_see ss scope p.0 next outer (walking s outer walk) (statement_sees s scope table p.0 outer walk same p.1) p.2

stands : (values : Named Declared) (name : List ℕ) → option_map (λ (d : Declared). d.at) (at_name values name) ≡ at_name (places_in values) name
stands [] name = refl
stands (v ∷ vs) name =
    elim (bytes_eq v.0 name) as (λ b. option_map (λ (d : Declared). d.at) (if b then Some v.1 else at_name vs name) ≡ (if b then Some v.1.at else at_name (places_in vs) name)) [
      | true ↦ refl
      | false ↦ stands vs name
    ]

pub names_stand : (values : Named Declared) (table : Named Span) (name : List ℕ) → places_in values ≡ table → option_map (λ (d : Declared). d.at) (at_name values name) ≡ at_name table name
names_stand values table name same = stands values name ∙ ap (λ t. at_name t name) same
