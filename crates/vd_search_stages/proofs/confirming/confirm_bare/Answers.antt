use Rattle.std.proofs.Common.{refl}
use Rattle.std.specs.Prelude.{pos}
use Rattle.vd_search_stages.proofs.Answered.{confirms_bare}
use Rattle.vd_search_stages.proofs.confirming.confirm_bare.Goals as goal

pub returns : goal.returns
returns c =
    confirms_bare c.args.path.problem.now c.args.path.problem.now c.args.certificate.now c.as_slice.result.now (λ _. pos 0) c.check.result c.as_slice.ensures refl
    c.requires.by_uses c.args.path.bare c.check.ensures.exact c.check.ensures.proved
