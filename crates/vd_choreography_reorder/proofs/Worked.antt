-- The worked lines.
use Rattle.std.proofs.Common.{refl}
use Rattle.vd_execution.specs.Registers.{put}
use Rattle.vd_choreography_reorder.specs.Examples.{DrawnWordsAreToldTogether, OpenedWordsStay, WordsGoSideBySide}

pub stays : OpenedWordsStay
unfolding put
stays = (refl, refl)

pub ahead : WordsGoSideBySide
unfolding put
ahead = refl

pub drawn : DrawnWordsAreToldTogether
unfolding put
drawn = refl
