-- What becomes of a host.
use Rattle.std.proofs.Common.{◌≡◌, ◌<◌, ℕ, length, Option, Ok, Err, Result, IsSome, refl, sym, subst, ◌∙◌}
use Rattle.vd_base.specs.declared.faults.Failed.{Failed}
use Rattle.vd_machine.specs.Kept.{Kept}
use Rattle.vd_outside.specs.Link.{LinkView}
use Rattle.vd_outside.specs.Net.{NetView}
use Rattle.vd_outside.specs.Sink.{SinkView, WritesAll}
use Rattle.vd_engine.specs.Drives.{Sessions}
use Rattle.vd_engine.specs.declared.engine.Ended.{Ended}
use Rattle.vd_host_session.specs.Histories.{HandedBack, HungUp, listening}
use Rattle.vd_host_session.specs.Peers.{number_at}
use Rattle.vd_host_session.specs.Plays.{Driven, DrivesAndTells, Meets, NoRoom, NotAnnounced, NotGiven, NotGreeted, NotListening, Plays}
use Rattle.vd_host_session.specs.Stages.{AreMet, Fails, HasListened, NoGreeting, NoLink, NoMemory, Unheard}
use Rattle.vd_host_session.specs.declared.fault.HostFault.{HostFault}
use Rattle.vd_host_session.specs.declared.fault.HostFault.TheVariants as fault
use Rattle.vd_host_session.specs.declared.task.Task.{Task}

pub are_met_still : (task : Task) (first count : ℕ) (start now : NetView) (sessions later : Sessions) → AreMet task first count start now sessions
    → ((number : ℕ) → later number ≡ sessions number) → AreMet task first count start now later
are_met_still task first count start now sessions later m same = record {
  all = m.all;
  peers = m.peers;
  met = m.met;
  are = λ n. same n ∙ m.are n;
  stand = λ place less. subst IsSome (sym (same (number_at task.me.0 place))) (m.stand place less);
  later = λ place least. same (number_at task.me.0 place) ∙ m.later place least;
  own = same task.me.0 ∙ m.own;
}

pub plays_unheard : (machine : Kept) (task : Task) (start end : NetView) (out : SinkView) (told : HostFault) → Unheard task start end told
    → Plays machine task start end out out (Err told)
plays_unheard machine task start end out told u =
    subst (λ (f : HostFault). Plays machine task start end out out (Err f)) (sym u.told) (NotListening u.count u.net u.cause u.there u.before u.call refl)

pub plays_unannounced : (machine : Kept) (task : Task) (start end : NetView) (before now : SinkView) (first : ℕ) (failed : Failed) → HasListened task start end first
    → WritesAll {E = Failed} listening before now (Err failed) → Plays machine task start end before now (Err fault.Write)
plays_unannounced machine task start end before now first failed h writes = NotAnnounced failed (record { listened = h.listened; written = writes })

meets_of : (task : Task) (start net met : NetView) (before now : SinkView) (first count : ℕ) (sessions : Sessions) → HasListened task start net first
    → WritesAll {E = Failed} listening before now (Ok tt) → AreMet task first count net met sessions → Meets task start met before now count sessions
meets_of task start net met before now first count sessions h writes m = record {
  net = net;
  announced = record { listened = h.listened; written = writes };
  first = first;
  first_is = h.first_is;
  met = m;
}

pub plays_unmet : (machine : Kept) (task : Task) (start net met now back end : NetView) (ob on : SinkView) (first count : ℕ) (sessions : Sessions) {told : HostFault} {link : Option LinkView}
    → HasListened task start net first → WritesAll {E = Failed} listening ob on (Ok tt) → AreMet task first count net met sessions → count < length task.addresses
    → Fails task first count met now told link → HandedBack sessions now 4 back → HungUp link back end → Plays machine task start end ob on (Err told)
unfolding meets_of
plays_unmet machine task start net met now back end ob on first count sessions h writes m there (NoLink cause gets) handed hung =
    NotGiven count sessions met now cause (meets_of task start net met ob on first count sessions h writes m) there gets (subst (λ (n : NetView). HandedBack sessions now 4 n) (sym hung) handed)
plays_unmet machine task start net met now back end ob on first count sessions h writes m there (NoMemory given gets) handed hung =
    NoRoom count sessions met now back given (meets_of task start net met ob on first count sessions h writes m) there gets handed hung
plays_unmet machine task start net met now back end ob on first count sessions h writes m there (NoGreeting given link refusal gets greets) handed hung =
    NotGreeted count sessions met now back given link refusal (meets_of task start net met ob on first count sessions h writes m) there gets greets handed hung

pub plays_driven : (machine : Kept) (task : Task) (start net met end : NetView) (ob out on : SinkView) (first : ℕ) (sessions later : Sessions) (result : Result Ended HostFault)
    → HasListened task start net first → WritesAll {E = Failed} listening ob out (Ok tt) → AreMet task first (length task.addresses) net met sessions
    → DrivesAndTells machine sessions later out on result → HandedBack later met 4 end → Plays machine task start end ob on result
plays_driven machine task start net met end ob out on first sessions later result h writes m drives handed =
    Driven sessions later met out result (meets_of task start net met ob out first (length task.addresses) sessions h writes m) drives handed
