use Rattle.std.proofs.Common.{◌≡◌, length, IsUtf8}
use Rattle.vd_cmd.specs.Groups.{are_new, between_commas}
use Rattle.vd_cmd.proofs.groups.are_new.Given as goal

-- what is left decides
abbrev pub invariant-names : goal.invariant-names
invariant-names l = (are_new (between_commas l.word) ≡ are_new (between_commas l.rest)) × IsUtf8 l.rest

abbrev pub decreases-names : goal.decreases-names
decreases-names l = length l.rest
