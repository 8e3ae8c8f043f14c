use Rattle.std.proofs.Common.{List, IfOk}
use Rattle.vd_constraints.specs.declared.labels.Labels.{Labels}
use Rattle.vd_execution.specs.Gadgets.{Gadget}
use Rattle.vd_execution.specs.Plans.{Plan}
use Rattle.vd_excuse_walk.specs.declared.equivocation_laws.step.Step.{Step}
use Rattle.vd_views.specs.Explained.{IsOfTwo, plan_of}
use Rattle.vd_excuse.specs.Claims.{LeadTo}
use Rattle.vd_excuse.proofs.Stepped.{for_all, lead}
use Rattle.vd_excuse.proofs.lines.steps_at.Goals as goal

pub returns : goal.returns
returns c =
    for_all c.steps_of.result (λ (l : Labels). IsOfTwo c.args.program.now l c.args.protocols.now) (λ (steps : List Step). LeadTo steps (plan_of c.args.program.now c.args.protocols.now))
    (lead c.pairs_are_read_off.ensures c.args.program.now c.args.protocols.now c.in_ok-lines.lines (c.in_ok-lines.ensures {u = tt})
    (λ (plan : Plan Gadget). IfOk c.steps_of.result (λ (steps : List Step). LeadTo steps plan)) c.steps_of.ensures)
