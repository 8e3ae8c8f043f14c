-- What a session stands for.
use Rattle.std.specs.Prelude.{ℕ, Bool, List}
use Rattle.vd_base.specs.declared.ids.HostId.{HostId}
use Rattle.vd_link.specs.Sessions.{Ends}
use Rattle.vd_link.specs.declared.session.Greeted.{Greeted}
use Rattle.vd_link.specs.declared.session.Session.{Session}

-- who speaks to whom, and by which plan
abbrev pub ends : HostId → HostId → List ℕ → Ends
ends me peer plan = record { me = me.0; peer = peer.0; plan = plan }

abbrev pub ends_of : {L S : Type 0} → Session L S → Ends
ends_of session = ends session.me session.peer session.plan

-- the link that it goes over
abbrev pub link_of : {L S : Type 0} → Session L S → L
link_of session = session.link

-- the offset of the next byte that is received
abbrev pub offset_of : {L : Type 0} → Session L Greeted → ℕ
offset_of session = session.state.received

-- whether it has answered a fault
abbrev pub has_failed : {L : Type 0} → Session L Greeted → Bool
has_failed session = session.state.failed
