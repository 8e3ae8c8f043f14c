use Rattle.vd_search_stages.proofs.SoFar.{full_same, none_where_bare, whole_same}
use Rattle.vd_search_stages.proofs.laws.validities_agree.Goals as goal

pub returns : goal.returns
returns c = record { full = full_same; whole = whole_same; bare = none_where_bare }
