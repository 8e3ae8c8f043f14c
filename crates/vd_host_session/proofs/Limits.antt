-- The limit of waits stays, whatever becomes of a host.
use Rattle.std.proofs.Common.{◌≡◌, ◌∙◌, ℕ, List, Option, Ok, Err, Result, refl}
use Rattle.vd_base.specs.declared.faults.CallFault.{CallFault}
use Rattle.vd_machine.specs.Kept.{Kept}
use Rattle.vd_outside.specs.Link.{LinkView}
use Rattle.vd_outside.specs.Net.{NetView}
use Rattle.vd_outside.specs.Sink.{SinkView}
use Rattle.vd_engine.specs.Drives.{Sessions}
use Rattle.vd_engine.specs.declared.engine.Ended.{Ended}
use Rattle.vd_host_session.specs.Histories.{ByAccept, ByConnect, Gets, HandedBack, Held, Listened, Met, NoListener, NoSession, NoneBack, NoneMet, OneBack, OneListener, OneMet}
use Rattle.vd_host_session.specs.Laws.{LimitsStay}
use Rattle.vd_host_session.specs.Peers.{Peer}
use Rattle.vd_host_session.specs.Plays.{Driven, Meets, NoRoom, NotAnnounced, NotGiven, NotGreeted, NotListening, Plays}
use Rattle.vd_host_session.specs.declared.fault.HostFault.{HostFault}
use Rattle.vd_host_session.specs.declared.task.Task.{Task}

listened_within : (start : NetView) {peers : List Peer} {now : NetView} → Listened start peers now → now.limit ≡ start.limit
listened_within start NoListener = refl
listened_within start (OneListener peers peer number net now before call) = call.limit ∙ listened_within start before

gets_within : (first me : ℕ) (peer : Peer) (net now : NetView) {result : Result LinkView CallFault} → Gets first me peer net now result → now.limit ≡ net.limit
gets_within first me peer net now (ByAccept before accepts) = accepts.limit
gets_within first me peer net now (ByConnect before connects) = connects.limit

met_within : (task : Task) (first : ℕ) (start : NetView) {all : List Held} {now : NetView} → Met task first start all now → now.limit ≡ start.limit
met_within task first start NoneMet = refl
met_within task first start (OneMet all held net now before gets greets) = gets_within first task.me.0 held.peer net now gets ∙ met_within task first start before

back_within : (sessions : Sessions) (start : NetView) {count : ℕ} {now : NetView} → HandedBack sessions start count now → now.limit ≡ start.limit
back_within sessions start NoneBack = refl
back_within sessions start (NoSession count now before none) = back_within sessions start before
back_within sessions start (OneBack count link received failed net now before stands hung) = hung.limit ∙ back_within sessions start before

meets_within : (task : Task) (start now : NetView) (ob on : SinkView) (count : ℕ) (sessions : Sessions) → Meets task start now ob on count sessions → now.limit ≡ start.limit
meets_within task start now ob on count sessions meets =
    met_within task meets.first meets.net meets.met.met ∙ listened_within start meets.announced.listened

pub limit_stays : LimitsStay
limit_stays machine task start end ob on result plays = by plays
  where
    by : {result : Result Ended HostFault} → Plays machine task start end ob on result → end.limit ≡ start.limit
    by (NotListening count net cause there listened call same) = call.limit ∙ listened_within start listened
    by (NotAnnounced failed announces) = listened_within start announces.listened
    by (NotGiven count sessions met net cause meets there gets back) =
        back_within sessions net back ∙ gets_within meets.first task.me.0 _ met net gets ∙ meets_within task start met ob on count sessions meets
    by (NoRoom count sessions met net back given meets there gets handed hung) =
        hung.limit ∙ back_within sessions net handed ∙ gets_within meets.first task.me.0 _ met net gets ∙ meets_within task start met ob on count sessions meets
    by (NotGreeted count sessions met net back given link refusal meets there gets greets handed hung) =
        hung.limit ∙ back_within sessions net handed ∙ gets_within meets.first task.me.0 _ met net gets ∙ meets_within task start met ob on count sessions meets
    by (Driven sessions later met out result meets drives back) =
        back_within later met back ∙ meets_within task start met ob out _ sessions meets
