use Rattle.std.proofs.Common.{◌∙◌, subst}
use Rattle.vd_space.specs.declared.problem.Problem.{Problem}
use Rattle.vd_space.specs.WellFormed.{AreProtocols}
use Rattle.vd_space.proofs.Front.{are_protocols}
use Rattle.vd_space_api.proofs.Kept.{listed, well_formed}
use Rattle.vd_space_api.proofs.space.Space.list.Goals as goal

pub returns : goal.returns
returns c =
    let problem = c.self.inside.problem in
    let list = c.self.inside.list in
    subst (λ (p : Problem). AreProtocols p c.as_slice.result.now) c.self.view_is
    (are_protocols problem (well_formed problem list c.self.invariant).labelled c.as_slice.result.now (c.as_slice.ensures ∙ listed problem list c.self.invariant))
