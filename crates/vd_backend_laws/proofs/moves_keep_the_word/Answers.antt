use Rattle.vd_backend_laws.proofs.Moves.{move_gives}
use Rattle.vd_backend_laws.proofs.moves_keep_the_word.Goals as goal

pub returns : goal.returns
returns c = move_gives
