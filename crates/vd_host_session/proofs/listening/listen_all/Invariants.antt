use Rattle.vd_host_session.proofs.Listeners.{IsListening}
use Rattle.vd_host_session.proofs.listening.listen_all.Given as goal

abbrev pub invariant-loop-place : goal.invariant-loop-place
invariant-loop-place g l = IsListening l.task (g.N.Net.view l.initial.net) (g.N.Net.view l.net) l.place l.first
