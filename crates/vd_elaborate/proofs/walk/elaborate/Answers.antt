use Rattle.std.proofs.Common.{◌≤◌, length, ap, sym, ◌∙◌, subst, arith}
use Rattle.vd_base.specs.Limits.{most_hosts}
use Rattle.vd_core.specs.declared.normal.NormalForm.{NormalForm}
use Rattle.vd_core.specs.Facts.{IsWellMade}
use Rattle.vd_semantics.specs.ProgramMeaning.{program_outputs}
use Rattle.vd_elaborate.specs.Normal.{normal_form}
use Rattle.vd_elaborate.proofs.Kept.{outputs_kept}
use Rattle.vd_core.specs.declared.source.Source.{Source}
use Rattle.vd_elaborate.specs.Normal.{main_made}
use Rattle.vd_elaborate.proofs.AnfWellformedGrowth.{main_size}
use Rattle.vd_elaborate.proofs.WellMade.{within_limits, well_made}
use Rattle.vd_elaborate.specs.Lowered.{Fits}
use Rattle.vd_elaborate.proofs.Growth.{hosts_length}
use Rattle.vd_elaborate.proofs.walk.elaborate.Goals as goal

pub make_form-requires-clause-few_hosts : goal.make_form-requires-clause-few_hosts
make_form-requires-clause-few_hosts c =
    let source = c.args.resolved.now in
    let same = hosts_length source.hosts in
    let few = (within_limits source c.source.ensures.resolved c.source.ensures.named).hosts in
    subst (λ (s : Source). length s.hosts ≤ most_hosts) (sym c.source.ensures.same) (omega arith)

pub make_form-requires-clause-fits : goal.make_form-requires-clause-fits
make_form-requires-clause-fits c =
    let source = c.args.resolved.now in
    let size = main_size source in
    let few = (within_limits source c.source.ensures.resolved c.source.ensures.named).statements in
    subst (λ (s : Source). Fits (main_made s)) (sym c.source.ensures.same) (omega arith)

pub new-requires : goal.new-requires
new-requires c =
    subst IsWellMade (sym (c.in_ok-form.ensures ∙ ap normal_form c.source.ensures.same)) (well_made c.args.resolved.now c.source.ensures.resolved c.source.ensures.named)

pub returns-clause-outputs : goal.returns-clause-outputs
returns-clause-outputs c = λ inputs.
    ap (λ (p : NormalForm). program_outputs p inputs) (c.new.ensures ∙ c.in_ok-form.ensures ∙ ap normal_form c.source.ensures.same) ∙ outputs_kept c.args.resolved.now inputs
