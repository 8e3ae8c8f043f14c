use Rattle.std.proofs.Common.{◌≡◌}
use Rattle.vd_engine.specs.Drives.{sessions_of}
use Rattle.vd_host_session.specs.Stages.{AreMet}
use Rattle.vd_host_session.proofs.meeting.meet_all.Given as goal

abbrev pub invariant-loop-place : goal.invariant-loop-place
invariant-loop-place g l = record {
  met : AreMet l.task l.first l.place (g.N.Net.view l.initial.net) (g.N.Net.view l.net) (sessions_of g.N.Link.Link.view l.links);
  given : (g.N.Net.view l.net).given ≡ (g.N.Net.view l.initial.net).given;
}
