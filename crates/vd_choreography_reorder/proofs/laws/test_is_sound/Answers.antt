use Rattle.vd_choreography_reorder.proofs.Sound.{sound}
use Rattle.vd_choreography_reorder.proofs.laws.test_is_sound.Goals as goal

pub returns : goal.returns
returns c = sound
