use Rattle.vd_hostcode.proofs.Outcomes.{written_is_read}
use Rattle.vd_hostcode.proofs.laws.written_programs_are_read.Goals as goal

pub returns : goal.returns
returns c = written_is_read
