use Rattle.vd_views.proofs.Lengths.{excuses_are_as_long, show_equally_many}
use Rattle.vd_views.proofs.PairUp.{deals_pair_up, there_are_as_many}
use Rattle.vd_views.proofs.views_programs.deals_belong_to_each_other.Goals as goal

pub returns-clause-pair_up : goal.returns-clause-pair_up
returns-clause-pair_up c = deals_pair_up

pub returns-clause-as_many : goal.returns-clause-as_many
returns-clause-as_many c = there_are_as_many

pub returns-clause-as_long : goal.returns-clause-as_long
returns-clause-as_long c = excuses_are_as_long

pub returns-clause-equally_many : goal.returns-clause-equally_many
returns-clause-equally_many c = show_equally_many
