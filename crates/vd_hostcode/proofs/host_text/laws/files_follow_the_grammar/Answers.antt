use Rattle.vd_hostcode.proofs.Programs.{follow_grammar}
use Rattle.vd_hostcode.proofs.host_text.laws.files_follow_the_grammar.Goals as goal

pub returns : goal.returns
returns c = follow_grammar
