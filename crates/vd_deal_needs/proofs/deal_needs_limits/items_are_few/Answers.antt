use Rattle.vd_deal_needs.proofs.Programs.{items_are_few, small_programs_can_be_dealt}
use Rattle.vd_deal_needs.proofs.deal_needs_limits.items_are_few.Goals as goal

pub returns-clause-items : goal.returns-clause-items
returns-clause-items c = items_are_few

pub returns-clause-dealt : goal.returns-clause-dealt
returns-clause-dealt c = small_programs_can_be_dealt
