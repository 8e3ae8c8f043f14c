use Rattle.std.proofs.Common.{ℕ, ◌+◌, ◌-◌, List, IfOk, ap, subst, ◌∙◌}
use Rattle.vd_link.specs.Frames.{greeting}
use Rattle.vd_host_session.proofs.Refusals.{gets_by_accept}
use Rattle.vd_host_session.proofs.meeting.link_from.Goals as goal

pub returns-clause-gets : goal.returns-clause-gets
returns-clause-gets g c =
    gets_by_accept c.args.task.now c.args.first c.args.place _ _ _ _ c.requires.later (ap (λ (n : ℕ). c.args.first + (c.args.place - n)) c.from.ensures) c.accept.ensures.accepts

pub returns-clause-greets : goal.returns-clause-greets
returns-clause-greets g c =
    subst (λ (bytes : List ℕ). IfOk c.accept.result (λ link. g.N.Net.greets link bytes))
    (c.greeting_of-greeting.ensures ∙ ap (λ (peer : ℕ). greeting c.args.task.now.plan peer c.args.task.now.me.0) c.peer_at.ensures)
    c.accept.ensures.greets
