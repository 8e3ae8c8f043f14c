use Rattle.std.proofs.Common.{◌≡◌, ◌≤◌, ℕ}
use Rattle.vd_engine.specs.Drives.{sessions_of}
use Rattle.vd_engine.specs.Links.{session_at}
use Rattle.vd_host_session.specs.Histories.{HandedBack}
use Rattle.vd_host_session.proofs.returning.hand_back.Given as goal

abbrev pub invariant-loop-number : goal.invariant-loop-number
invariant-loop-number g l = record {
  back : HandedBack (sessions_of g.N.Link.Link.view l.initial.links) (g.N.Net.view l.initial.net) l.number (g.N.Net.view l.net);
  rest : (other : ℕ) → l.number ≤ other → session_at l.links other ≡ session_at l.initial.links other;
}
