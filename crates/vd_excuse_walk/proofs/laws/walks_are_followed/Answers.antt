use Rattle.vd_excuse_walk.proofs.Along.{steps_follow}
use Rattle.vd_excuse_walk.proofs.laws.walks_are_followed.Goals as goal

pub returns : goal.returns
returns c = λ h t n start apart steps d r is. steps_follow h t n start apart steps d r is
