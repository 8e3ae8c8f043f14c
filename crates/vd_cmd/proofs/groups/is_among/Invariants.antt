use Rattle.std.proofs.Common.{◌≡◌, length, IsUtf8}
use Rattle.vd_cmd.specs.Groups.{between_commas, is_among}
use Rattle.vd_cmd.proofs.groups.is_among.Given as goal

-- what is left decides
abbrev pub invariant-others : goal.invariant-others
invariant-others l = (is_among (between_commas l.word) l.name ≡ is_among (between_commas l.rest) l.name) × IsUtf8 l.rest

abbrev pub decreases-others : goal.decreases-others
decreases-others l = length l.rest
