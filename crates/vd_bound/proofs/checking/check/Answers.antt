use Rattle.vd_bound.proofs.Answered.{proves_of}
use Rattle.vd_bound.proofs.checking.check.Goals as goal

pub returns-clause-proved : goal.returns-clause-proved
returns-clause-proved g c = λ bounded. proves_of (g.P.Prefixes.tree c.args.prefix.now) bounded c.args.certificate.now.cost c.as_slice.result.now c.check_marks.result c.check_marks.ensures.exact
