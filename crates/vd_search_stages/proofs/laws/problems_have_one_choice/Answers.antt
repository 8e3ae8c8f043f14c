use Rattle.vd_search_stages.proofs.Once.{has_one, some_choices}
use Rattle.vd_search_stages.proofs.laws.problems_have_one_choice.Goals as goal

pub returns : goal.returns
returns c = record { one = has_one; function = some_choices }
