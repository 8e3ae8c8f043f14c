use Rattle.std.proofs.Common.{◌≡◌, ◌≤◌, ◌-◌, ◌++◌}
use Rattle.vd_base.specs.HostSets.{host}
use Rattle.vd_base.specs.Holders.{is_holder}
use Rattle.vd_split.specs.Suite.{picked}
use Rattle.vd_split.proofs.slots.hosts_at.Given as goal

abbrev pub invariant-loop-number : goal.invariant-loop-number
invariant-loop-number g l =
    (l.hosts ++ picked l.number (l.number-end - l.number) (λ h. is_holder l.proto (host h)) ≡ picked 0 l.number-end (λ h. is_holder l.proto (host h))) × (l.number ≤ l.number-end)
