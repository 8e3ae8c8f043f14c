use Rattle.std.proofs.Common.{◌≡◌, drop, take, length, map}
use Rattle.vd_resolve.specs.declared.size.Size.{Size}
use Rattle.vd_resolve.specs.Causes.{passing, in_order}
use Rattle.vd_resolve.specs.Rules.{checking, in_sequence}
use Rattle.vd_resolve.specs.Sizes.{IsCapped, statement_size, statements_after, nothing}
use Rattle.vd_resolve.specs.Tables.{names, places}
use Rattle.vd_resolve.specs.Walks.{variables}
use Rattle.vd_resolve.specs.Scopes.{scope_of, sizes_of}
use Rattle.vd_resolve.proofs.declarations.Declarations.+checking.Given as goal

abbrev pub invariant-statements-loop-statement : goal.invariant-statements-loop-statement
invariant-statements-loop-statement l =
    (in_sequence (map checking (drop l.statement-index l.statements)) (scope_of l.self) (names l.values) ≡ in_sequence (map checking l.statements) (scope_of l.self) (names l.initial.values))
    × (in_order (map passing (drop l.statement-index l.statements)) (scope_of l.self) l.values ≡ in_order (map passing l.statements) (scope_of l.self) l.initial.values)
    × (take (length (names l.initial.values)) (names l.values) ≡ names l.initial.values)
    × (take (length (places l.initial.values)) (places l.values) ≡ places l.initial.values)
    × ((exact : Size) × IsCapped l.size exact
    × (statements_after exact (map statement_size (drop l.statement-index l.statements)) (sizes_of l.self) (variables (names l.values))
    ≡ statements_after nothing (map statement_size l.statements) (sizes_of l.self) (variables (names l.initial.values))))
