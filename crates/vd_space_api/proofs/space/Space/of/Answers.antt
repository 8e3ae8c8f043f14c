use Rattle.std.proofs.Common.{ap, ◌∙◌, length}
use Rattle.vd_base.specs.Protocols.{protocols_of}
use Rattle.vd_space_api.proofs.Kept.{made}
use Rattle.vd_space_api.proofs.space.Space.of.Goals as goal

pub invariant_of-result : goal.invariant_of-result
invariant_of-result c =
    let well_made = c.form.ensures.well_made in
    made c.args.program.now c.args.labels.now c.in_ok-problem.problem c.in_ok-list.list well_made c.requires c.in_ok-problem.ensures (c.in_ok-list.ensures ∙ ap (λ labels. protocols_of (length labels)) (c.as_slice.ensures ∙ ap (λ form. form.labels) c.form.ensures.same))
