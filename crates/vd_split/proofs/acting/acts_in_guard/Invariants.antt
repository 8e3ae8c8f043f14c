use Rattle.std.proofs.Common.{◌≡◌, ◌≤◌, ◌-◌}
use Rattle.std.specs.List.{list_any}
use Rattle.vd_base.specs.declared.protocols.Proto.TheVariants.{Local}
use Rattle.vd_split.specs.Suite.{picked}
use Rattle.vd_split.specs.Places.{takers}
use Rattle.vd_split.proofs.acting.acts_in_guard.Given as goal

abbrev pub invariant-loop-number : goal.invariant-loop-number
invariant-loop-number g l =
    (list_any (λ k. (g.P.Protocols.offer l.protocols).calls.moves_at l.from (Local k) l.host.0) (picked l.number (l.number-end - l.number) (takers (g.P.Protocols.offer l.protocols).calls l.protos l.then_block l.else_block))
    ≡ list_any (λ k. (g.P.Protocols.offer l.protocols).calls.moves_at l.from (Local k) l.host.0) (picked 0 l.number-end (takers (g.P.Protocols.offer l.protocols).calls l.protos l.then_block l.else_block))) × (l.number ≤ l.number-end)
