use Rattle.std.proofs.Common.{◌≡◌, drop, take, length, map}
use Rattle.vd_lsp_names.specs.Uses.{in_order, walk_of, walking}
use Rattle.vd_lsp_names.proofs.kinds.Outer.+walking.Given as goal

abbrev pub invariant-statements-loop-statement : goal.invariant-statements-loop-statement
invariant-statements-loop-statement l =
    (in_order (map walking (drop l.statement-index l.statements)) l.self (walk_of l.found l.values) ≡ in_order (map walking l.statements) l.self (walk_of l.initial.found l.initial.values))
    × (take (length l.initial.values) l.values ≡ l.initial.values)
