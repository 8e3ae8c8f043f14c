use Rattle.std.proofs.Common.{◌≡◌, ◌-◌, length}
use Rattle.std.specs.List.{list_any, range_with_len}
use Rattle.vd_space.specs.Validity.{can_stand, has_candidate, protocols}
use Rattle.vd_space.proofs.validity.has_candidate.Given as goal

-- the protocols that are left decide
abbrev pub invariant-loop-place : goal.invariant-loop-place
invariant-loop-place l =
    list_any (can_stand l.problem l.making) (range_with_len l.place (length (protocols l.problem) - l.place)) ≡ has_candidate l.problem l.making
