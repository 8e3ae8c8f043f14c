use Rattle.std.proofs.Common.{◌≡◌, [], take, drop}
use Rattle.vd_resolve.specs.Causes.{functions_told}
use Rattle.vd_resolve.specs.Rules.{functions_check}
use Rattle.vd_resolve.specs.Sizes.{function_sizes}
use Rattle.vd_resolve.specs.Tables.{names, places}
use Rattle.vd_resolve.specs.Walks.{HaveSizes, signatures}
use Rattle.vd_resolve.proofs.function.check_bodies.Given as goal

abbrev pub invariant-loop-k : goal.invariant-loop-k
invariant-loop-k l =
    HaveSizes (names l.callees) (function_sizes [] (take l.k l.functions))
    × (functions_check (names l.fn.principals) (names l.fn.hosts) (signatures (names l.callees)) (drop l.k l.functions) ≡ functions_check (names l.fn.principals) (names l.fn.hosts) [] l.functions)
    × (functions_told (names l.fn.principals) (names l.fn.hosts) (signatures (names l.callees), places l.callees) (drop l.k l.functions)
    ≡ functions_told (names l.fn.principals) (names l.fn.hosts) ([], []) l.functions)
