-- The links of one run of a host, and what went over them.
use Rattle.std.specs.Prelude.{ℕ, List, [], ◌∷◌, Option, Some, None, Result, IfSome, IsTrue, if◌then◌else◌, nat_eq, drop, length}
use Rattle.vd_machine.specs.Kept.{Kept}
use Rattle.vd_outside.specs.Link.{LinkView}
use Rattle.vd_outside.specs.Net.{NetView}
use Rattle.vd_outside.specs.Sink.{SinkView}
use Rattle.vd_engine.specs.Drives.{SessionView, Sessions}
use Rattle.vd_engine.specs.declared.engine.Ended.{Ended}
use Rattle.vd_host_session.specs.Histories.{Held}
use Rattle.vd_host_session.specs.Peers.{number_at}
use Rattle.vd_host_session.specs.Plays.{Driven, NoRoom, NotAnnounced, NotGiven, NotGreeted, NotListening, Plays}
use Rattle.vd_host_session.specs.declared.fault.HostFault.{HostFault}
use Rattle.vd_host_session.specs.declared.task.Task.{Task}

-- a link to a peer, as the net gave it and as it was handed back
pub record Used : Type 0 where
  pub given : LinkView
  pub back : LinkView

abbrev pub used_by : LinkView → Option SessionView → Option Used
used_by given None = None
used_by given (Some session) = Some (record { given = given; back = session.link })

-- the link to the host with this number, among those on which the greetings were exchanged
abbrev pub used_in : List Held → Sessions → ℕ → Option Used
used_in [] later number = None
used_in (held ∷ more) later number = if nat_eq held.peer.number number then used_by held.given (later number) else used_in more later number

-- the same, where one link more was given
abbrev pub used_or : (peer : ℕ) → (given back : LinkView) → (number : ℕ) → Option Used → Option Used
used_or peer given back number others = if nat_eq peer number then Some (record { given = given; back = back }) else others

-- The link to the host with this number, if the net gave one in this run.
abbrev pub link_to : {machine : Kept} {task : Task} {start end : NetView} {out out_now : SinkView} {result : Result Ended HostFault}
    → Plays machine task start end out out_now result → ℕ → Option Used
link_to (NotListening count net cause there listened call same) number = None
link_to (NotAnnounced failed announces) number = None
link_to (NotGiven count sessions met net cause meets there gets back) number = used_in meets.met.all sessions number
link_to {task = task} (NoRoom count sessions met net back given meets there gets handed hung) number =
    used_or (number_at task.me.0 count) given given number (used_in meets.met.all sessions number)
link_to {task = task} (NotGreeted count sessions met net back given link refusal meets there gets greets handed hung) number =
    used_or (number_at task.me.0 count) given link number (used_in meets.met.all sessions number)
link_to (Driven sessions later met out result meets drives back) number = used_in meets.met.all later number

-- the bytes that come on a link, and those that went out on it
abbrev pub bytes_that_came : Option Used → List ℕ
bytes_that_came None = []
bytes_that_came (Some link) = link.given.coming

abbrev pub bytes_that_went : Option Used → List ℕ
bytes_that_went None = []
bytes_that_went (Some link) = drop (length link.given.sent) link.back.sent

-- it tells its bytes to the end
abbrev pub TellsBytes : Option Used → Type 0
TellsBytes link = IfSome link (λ used. IsTrue used.back.told)
