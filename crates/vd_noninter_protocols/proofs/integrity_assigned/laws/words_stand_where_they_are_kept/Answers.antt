use Rattle.vd_noninter_protocols.proofs.Assigned.{words_guarded}
use Rattle.vd_noninter_protocols.proofs.integrity_assigned.laws.words_stand_where_they_are_kept.Goals as goal

pub returns : goal.returns
returns c = words_guarded
