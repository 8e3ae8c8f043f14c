use Rattle.vd_space_api.proofs.Positions.{too_long}
use Rattle.vd_space_api.proofs.places.is_valid_prefix.Goals as goal

pub returns-then-prefix-gt-MOST_SLOTS : goal.returns-then-prefix-gt-MOST_SLOTS
returns-then-prefix-gt-MOST_SLOTS c = too_long c.args.problem.now c.args.list.now c.args.prefix.now c.requires.limits c.if-prefix-gt-MOST_SLOTS.true
