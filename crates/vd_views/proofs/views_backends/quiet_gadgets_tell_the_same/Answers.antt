use Rattle.vd_views.proofs.Sides.{telling_quiet}
use Rattle.vd_views.proofs.views_backends.quiet_gadgets_tell_the_same.Goals as goal

pub returns : goal.returns
returns c = λ K t y gs w v kin q. telling_quiet K t y kin gs w v q
