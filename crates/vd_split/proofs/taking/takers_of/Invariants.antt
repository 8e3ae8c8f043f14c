use Rattle.std.proofs.Common.{◌≡◌, ◌≤◌, ◌-◌, ◌++◌}
use Rattle.vd_split.specs.Suite.{picked}
use Rattle.vd_split.specs.Places.{takers}
use Rattle.vd_split.proofs.taking.takers_of.Given as goal

abbrev pub invariant-loop-number : goal.invariant-loop-number
invariant-loop-number g l =
    (l.hosts ++ picked l.number (l.number-end - l.number) (takers (g.P.Protocols.offer l.protocols).calls l.protos l.then_block l.else_block)
    ≡ picked 0 l.number-end (takers (g.P.Protocols.offer l.protocols).calls l.protos l.then_block l.else_block)) × (l.number ≤ l.number-end)
