use Rattle.std.proofs.Common.{◌≡◌, ◌++◌, length, IsUtf8}
use Rattle.vd_cmd.specs.Groups.{between_commas}
use Rattle.vd_cmd.proofs.groups.between_commas.Given as goal

-- what is left completes what is there
abbrev pub invariant-texts : goal.invariant-texts
invariant-texts l = (l.list ++ between_commas l.rest ≡ between_commas l.word) × IsUtf8 l.rest

abbrev pub decreases-texts : goal.decreases-texts
decreases-texts l = length l.rest
