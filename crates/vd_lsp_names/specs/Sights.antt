-- What is in sight in a walk over names is what is in sight in the resolver's own walk, at the same places.
use Rattle.std.specs.Prelude.{◌≡◌, ℕ, List, map, option_map, Ok}
use Rattle.vd_base.specs.Names.{Named, at_name}
use Rattle.vd_base.specs.declared.ids.Span.{Span}
use Rattle.vd_core.specs.declared.source.Statement.{Statement}
use Rattle.vd_resolve.specs.Causes.{in_order as in_order_told, passing}
use Rattle.vd_resolve.specs.Rules.{Scope}
use Rattle.vd_resolve.specs.Tables.{Table, places}
use Rattle.vd_resolve.specs.declared.symbol.Symbol.{Symbol}
use Rattle.vd_lsp_names.specs.Uses.{Walk, in_order, walking}
use Rattle.vd_lsp_names.specs.declared.kinds.Declared.{Declared}
use Rattle.vd_lsp_names.specs.declared.kinds.Outer.{Outer}

abbrev pub places_in : Named Declared → Named Span
places_in names = map {B = List ℕ × Span} (λ entry. (entry.0, entry.1.at)) names

-- Where the resolver passes statements, the same names are in sight behind them.
abbrev pub StatementsSee : Type 0
StatementsSee = (statements : List Statement) (scope : Scope) (table next : Table Symbol) (outer : Outer) (walk : Walk)
    → places_in walk.values ≡ places table → in_order_told (map passing statements) scope table ≡ Ok next
    → places_in (in_order (map walking statements) outer walk).values ≡ places next

-- The declaration that a name has stands where the resolver has it.
abbrev pub NamesStand : Type 0
NamesStand = (names : Named Declared) (table : Named Span) (name : List ℕ) → places_in names ≡ table
    → option_map (λ declared. declared.at) (at_name names name) ≡ at_name table name

pub record SightsAreTheResolvers : Type 0 where
  pub statements : StatementsSee
  pub names : NamesStand
