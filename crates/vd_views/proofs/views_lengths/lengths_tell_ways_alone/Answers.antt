use Rattle.vd_views.proofs.OnTheWay.{lengths_follow_code, lengths_follow_programs, lengths_tell_ways}
use Rattle.vd_views.proofs.views_lengths.lengths_tell_ways_alone.Goals as goal

pub returns-clause-code : goal.returns-clause-code
returns-clause-code c = lengths_follow_code

pub returns-clause-programs : goal.returns-clause-programs
returns-clause-programs c = lengths_follow_programs

pub returns-clause-ways : goal.returns-clause-ways
returns-clause-ways c = lengths_tell_ways
