use Rattle.std.specs.Prelude.{pos}
use Rattle.vd_search_stages.proofs.SoFar.{bare_bounded}
use Rattle.vd_search_stages.proofs.so_far.DecidedPrefixes.slots.Goals as goal

pub returns-clause-bounded : goal.returns-clause-bounded
returns-clause-bounded c = bare_bounded c.args.self.now.problem.now (λ _. pos 0) c.args.self.now.bare
