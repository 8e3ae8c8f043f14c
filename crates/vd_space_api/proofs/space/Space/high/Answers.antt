use Rattle.std.proofs.Common.{◌∙◌, sym, ap, w64}
use Rattle.std.proofs.lemmas.Int.{to_z-of_z}
use Rattle.vd_space.specs.Validity.{protocols}
use Rattle.vd_space_api.proofs.Along.{high_same}
use Rattle.vd_space_api.proofs.space.Space.high.Goals as goal

pub returns : goal.returns
returns c =
    to_z-of_z w64 c.high_of_prefix.result (record { sfits = c.high_of_prefix.type_inv })
    ∙ high_same c.args.self.now c.problem.result.now c.list.result.now c.args.prefix.now c.args.terms.now.shifts c.high_of_prefix.result c.problem.ensures.same (c.list.ensures.all ∙ ap protocols (sym c.problem.ensures.same)) c.high_of_prefix.ensures
