use Rattle.std.proofs.Common.{refl}
use Rattle.vd_link.specs.States.{link_of}
use Rattle.vd_host_session.proofs.Refusals.{no_greeting, no_link, no_memory}
use Rattle.vd_host_session.proofs.meeting.meet.Goals as goal

pub returns-in-Err-clause-meets : goal.returns-in-Err-clause-meets
returns-in-Err-clause-meets g c =
    (no_link c.args.task.now c.args.first c.args.place c.peer_at-peer.result.0 _ _ c.in-Err.fault _ c.peer_at-peer.ensures c.fault_of.ensures (c.in-Err.ensures {u = tt}), λ number. refl)

pub returns-in-Err-new-clause-meets : goal.returns-in-Err-new-clause-meets
returns-in-Err-new-clause-meets g c =
    (no_memory g.N.Link.Link.view c.args.task.now c.args.first c.args.place _ _ c.in-Ok.link c.in-Err-new.link c.in-Err-new.ensures.err (c.in-Ok.ensures {u = tt}), λ number. refl)

pub returns-in-Err-greet-clause-meets : goal.returns-in-Err-greet-clause-meets
returns-in-Err-greet-clause-meets g c =
    let new = c.in-Ok-new.ensures.ok in (
      no_greeting g.N.Link.Link.view c.args.task.now c.args.first c.args.place c.peer_at-peer.result.0 _ _ _ c.in-Ok.link (link_of c.in-Ok-new.session) (link_of c.in-Err-greet.session) c.link.result c.in-Err-greet.fault _
          c.peer_at-peer.ensures new.0 new.1 c.link.ensures c.fault_of_greeting.ensures c.in-Err-greet.ensures.err (c.in-Ok.ensures {u = tt}),
      λ number. refl,
    )
