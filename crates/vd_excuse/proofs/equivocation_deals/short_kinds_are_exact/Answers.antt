use Rattle.vd_excuse.proofs.Short.{short_kinds_are_exact}
use Rattle.vd_excuse.proofs.equivocation_deals.short_kinds_are_exact.Goals as goal

pub returns : goal.returns
returns c = short_kinds_are_exact
