use Rattle.std.proofs.Common.{◌≡◌, ◌++◌, ◌∷◌, [], replicate, true}
use Rattle.vd_cost_network_tables.proofs.assembly.settings.Given as goal

abbrev pub invariant-loop : goal.invariant-loop
invariant-loop l = l.settings ≡ l.fn.candidates ++ replicate l.counter (true ∷ true ∷ [])
