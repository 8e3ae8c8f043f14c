use Rattle.vd_backend_laws.proofs.Sent.{words_are_sent}
use Rattle.vd_backend_laws.proofs.backend_openings.so_many_words_are_sent.Goals as goal

pub returns : goal.returns
returns c = words_are_sent
