use Rattle.vd_choreography_reorder.proofs.Following.{followed_tells}
use Rattle.vd_choreography_reorder.proofs.choreography_following.followed_code_tells_the_same.Goals as goal

pub returns : goal.returns
returns c = followed_tells
