use Rattle.std.proofs.Common.{◌≡◌, ◌≤◌, ◌-◌}
use Rattle.std.specs.List.{list_any}
use Rattle.vd_base.specs.HostSets.{host}
use Rattle.vd_base.specs.declared.protocols.Proto.TheVariants.{Local}
use Rattle.vd_base.specs.Holders.{is_holder}
use Rattle.vd_split.specs.Suite.{picked}
use Rattle.vd_split.proofs.acting.acts_in_index.Given as goal

abbrev pub invariant-loop-number : goal.invariant-loop-number
invariant-loop-number g l =
    (list_any (λ k. (g.P.Protocols.offer l.protocols).calls.moves_at l.from (Local k) l.host.0) (picked l.number (l.number-end - l.number) (λ h. is_holder l.proto (host h)))
    ≡ list_any (λ k. (g.P.Protocols.offer l.protocols).calls.moves_at l.from (Local k) l.host.0) (picked 0 l.number-end (λ h. is_holder l.proto (host h)))) × (l.number ≤ l.number-end)
