use Rattle.vd_space.proofs.Counted.{as_many}
use Rattle.vd_space.proofs.Programs.{names_below, is_labelled}
use Rattle.vd_space.proofs.Sized.{is_within_limits}
use Rattle.vd_space.proofs.Weighed.{is_problem}
use Rattle.vd_space.proofs.laws.programs_have_problems.Goals as goal

pub returns : goal.returns
returns c = record { slots = as_many; named = names_below; labelled = is_labelled; limits = is_within_limits; problem = is_problem }
