use Rattle.std.proofs.Common.{◌≡◌, ◌-◌, ◌||◌, not, length, map}
use Rattle.std.specs.List.{list_all, range_with_len}
use Rattle.vd_base.specs.HostSets.{host}
use Rattle.vd_space.specs.Validity.{guard_told, takes_part, is_told}
use Rattle.vd_space.proofs.validity.is_guard_told.Given as goal

abbrev pub invariant-loop-host : goal.invariant-loop-host
invariant-loop-host l =
    list_all (λ h. not (takes_part l.problem l.prefix l.guard h) || is_told l.problem l.prefix h l.guard.slot) (map host (range_with_len l.host (length l.problem.hosts - l.host)))
    ≡ guard_told l.problem l.prefix l.guard
