-- Why a host answers a fault of a peer or of its output.
use Rattle.std.proofs.Common.{arith, ◌≡◌, ◌<◌, ◌≤◌, ◌+◌, ◌⊎◌, ⊎_elim, ℕ, zero, suc, List, length, Option, Some, None, Result, Ok, Err, IsErrOf, refl, sym, ap, subst, ◌∙◌}
use Rattle.vd_base.specs.declared.faults.CallFault.{CallFault}
use Rattle.vd_base.specs.declared.faults.CallFault.TheVariants as call_fault
use Rattle.vd_execution.specs.Step.{Deed}
use Rattle.vd_machine.specs.Kept.{Kept}
use Rattle.vd_machine.specs.declared.want.Want.{Want}
use Rattle.vd_outside.specs.Causes.{Rose}
use Rattle.vd_outside.specs.Link.{LinkView}
use Rattle.vd_outside.specs.Net.{NetView}
use Rattle.vd_outside.specs.Sink.{SinkView}
use Rattle.vd_link.specs.declared.faults.GreetFault.{GreetFault}
use Rattle.vd_link.specs.declared.faults.GreetFault.TheVariants as greet_fault
use Rattle.vd_engine.specs.Drives.{At, FailsAt, SessionView, Sessions}
use Rattle.vd_engine.specs.Events.{Event}
use Rattle.vd_engine.specs.Hosts.{seen_at, wants_with}
use Rattle.vd_engine.specs.declared.engine.Ended.{Ended}
use Rattle.vd_engine.specs.declared.fault.EngineFault.{EngineFault}
use Rattle.vd_engine.specs.declared.fault.EngineFault.TheVariants as engine_fault
use Rattle.vd_host_session.specs.Histories.{ByAccept, ByConnect, DrivesOver, Gets, HandedBack, Held, Listened, Met, NoListener, NoSession, NoneBack, NoneMet, OneBack, OneListener, OneMet, call_status, engine_status, greet_status}
use Rattle.vd_host_session.specs.Laws.{FaultsHaveCauses, HasCause}
use Rattle.vd_host_session.specs.Peers.{Peer, peer_at}
use Rattle.vd_host_session.specs.Plays.{Driven, DrivesAndTells, Meets, NoRoom, NotAnnounced, NotGiven, NotGreeted, NotListening, Plays, Stopped, Told, Untold}
use Rattle.vd_host_session.specs.Stages.{AreMet}
use Rattle.vd_host_session.specs.declared.fault.HostFault.{HostFault}
use Rattle.vd_host_session.specs.declared.task.Task.{Task}
use Rattle.vd_host_session.proofs.Numbers.{later_number, less_or_least}

-- ---- the count of the net never falls

rose_within : (a b c d : ℕ) → a ≤ b → Rose b c → c ≤ d → Rose a d
rose_within a b c d low rose high = omega (arith, low, rose, high)

listened_later : (start : NetView) {peers : List Peer} {now : NetView} → Listened start peers now → start.faults ≤ now.faults
listened_later start NoListener = omega arith
listened_later start (OneListener peers peer number net now before call) = let first = listened_later start before in let second = call.later in omega (arith, first, second)

gets_later : (first me : ℕ) (peer : Peer) (net now : NetView) (result : Result LinkView CallFault) → Gets first me peer net now result → net.faults ≤ now.faults
gets_later first me peer net now result (ByAccept later call) = call.later
gets_later first me peer net now result (ByConnect earlier call) = call.later

gets_rose : (first me : ℕ) (peer : Peer) (net now : NetView) (cause : CallFault) → Gets first me peer net now (Err cause) → IsErrOf {T = LinkView} (Err cause) call_fault.Failed → Rose net.faults now.faults
gets_rose first me peer net now cause (ByAccept later call) is = call.failed is
gets_rose first me peer net now cause (ByConnect earlier call) is = call.failed is

met_later : (task : Task) (first : ℕ) (start : NetView) {all : List Held} {now : NetView} → Met task first start all now → start.faults ≤ now.faults
met_later task first start NoneMet = omega arith
met_later task first start (OneMet all held net now before gets greets) =
    let one = met_later task first start before in
    let two = gets_later first task.me.0 held.peer net now (Ok held.given) gets in
    omega (arith, one, two)

back_later : (sessions : Sessions) (start : NetView) {count : ℕ} {now : NetView} → HandedBack sessions start count now → start.faults ≤ now.faults
back_later sessions start NoneBack = omega arith
back_later sessions start (NoSession count now before none) = back_later sessions start before
back_later sessions start (OneBack count link received failed net now before some hangs) = let one = back_later sessions start before in let two = hangs.later in omega (arith, one, two)

same_or_less : (host count : ℕ) → host < count + 1 → (host ≡ count) ⊎ (host < count)
same_or_less host count less = grind arith

same_session : (a b : SessionView) → Some a ≡ Some b → a ≡ b
same_session a b e = cc

-- a link that failed came back
back_rose : (sessions : Sessions) (start : NetView) (host : ℕ) (session : SessionView) → sessions host ≡ Some session → 0 < session.link.faults
    → {count : ℕ} {now : NetView} → HandedBack sessions start count now → host < count → Rose start.faults now.faults
back_rose sessions start host session is failed NoneBack less = absurd (omega (arith, less))
back_rose sessions start host session is failed (NoSession count now before none) less =
    ⊎_elim (λ (e : host ≡ count). absurd (let no : Some session ≡ None = sym is ∙ ap sessions e ∙ none in cc)) (λ (l : host < count). back_rose sessions start host session is failed before l) (same_or_less host count less)
back_rose sessions start host session is failed (OneBack count link received broken net now before some hangs) less =
    ⊎_elim (λ (e : host ≡ count). rose_within start.faults net.faults now.faults now.faults (back_later sessions start before) (hangs.link_failed (fails e)) (omega arith))
    (λ (l : host < count). (let one = back_rose sessions start host session is failed before l in let two = hangs.later in omega (arith, one, two))) (same_or_less host count less)
  where
    fails : host ≡ count → 0 < link.faults
    fails e = subst (λ (s : SessionView). 0 < s.link.faults) (same_session session (record { link = link; received = received; failed = broken }) (sym is ∙ ap sessions e ∙ some)) failed

-- ---- no session is with a host of no declared number

none_far : (task : Task) (first count : ℕ) (start now : NetView) (sessions : Sessions) (host : ℕ) → count ≤ 3 → task.me.0 ≤ 3 → 4 ≤ host → AreMet task first count start now sessions → sessions host ≡ None
none_far task first count start now sessions zero few low far m = absurd (omega (arith, far))
none_far task first count start now sessions (suc place) few low far m =
    subst (λ (n : ℕ). sessions n ≡ None) (later_number task.me.0 place (omega (arith, far, low))) (m.later place (omega (arith, far, few)))

-- ---- the causes

by_call : {T : Type 0} (peer : Peer) (start end : NetView) (ob on : SinkView) (cause : CallFault) → (IsErrOf {T = T} (Err cause) call_fault.Failed → Rose start.faults end.faults) → HasCause start end ob on (Err (call_status peer cause))
by_call peer start end ob on call_fault.Failed rose = rose refl
by_call peer start end ob on call_fault.Memory rose = tt

by_greeting : (peer : Peer) (start end : NetView) (ob on : SinkView) (refusal : GreetFault) → (IsErrOf {T = Unit {0}} (Err refusal) greet_fault.Peer → Rose start.faults end.faults) → HasCause start end ob on (Err (greet_status peer refusal))
by_greeting peer start end ob on greet_fault.Peer rose = rose refl
by_greeting peer start end ob on (greet_fault.BadFrame offset byte) rose = tt
by_greeting peer start end ob on (greet_fault.WrongProgram ours theirs) rose = tt
by_greeting peer start end ob on (greet_fault.WrongHost wanted named) rose = tt
by_greeting peer start end ob on greet_fault.End rose = tt

-- a link that failed while its machine was driven
failed_at : (host : ℕ) (events : List Event) (wants : Want) (does : Deed) (before now : Option SessionView) → At (FailsAt host events wants does) before now
    → (b : SessionView) × (s : SessionView) × (before ≡ Some b) × (now ≡ Some s) × (0 < s.link.faults)
failed_at host events wants does (Some b) (Some s) fails = (b, s, refl, refl, (let rose = fails.rose in omega (arith, rose)))
failed_at host events wants does (Some b) None fails = absurd fails
failed_at host events wants does None now fails = absurd fails

below_four : (n : ℕ) → (4 ≤ n → ⊥) → n < 4
below_four n out = ⊎_elim (λ (less : n < 4). less) (λ (far : 4 ≤ n). absurd (out far)) (less_or_least n 4)

by_driving : (machine : Kept) (start met end : NetView) (ob out on : SinkView) (before later : Sessions) (cause : EngineFault) → ((host : ℕ) → 4 ≤ host → before host ≡ None) → start.faults ≤ met.faults → ob.faults ≤ out.faults
    → DrivesOver machine before later out on (Err cause) → HandedBack later met 4 end → HasCause start end ob on (Err (engine_status cause))
by_driving machine start met end ob out on before later (engine_fault.Peer peer) none low early drives back =
    let f = failed_at peer.0 drives.events (wants_with machine.lists drives.machine) (seen_at drives.machine) (before peer.0) (later peer.0) drives.driven.0 in
    let small : peer.0 < 4 = below_four peer.0 (λ far. (let no : Some f.0 ≡ None = sym f.2 ∙ none peer.0 far in cc)) in
    rose_within start.faults met.faults end.faults end.faults low (back_rose later met peer.0 f.1 f.3 f.4 back small) (omega arith)
by_driving machine start met end ob out on before later engine_fault.Write none low early drives back =
    (let rose = drives.driven.4.rose in rose_within ob.faults out.faults on.faults on.faults early rose (omega arith))
by_driving machine start met end ob out on before later (engine_fault.BadFrame peer offset byte) none low early drives back = tt
by_driving machine start met end ob out on before later (engine_fault.Unequal left right) none low early drives back = tt
by_driving machine start met end ob out on before later (engine_fault.ShortInput cursor count) none low early drives back = tt
by_driving machine start met end ob out on before later (engine_fault.ShortDeal kind cursor count) none low early drives back = tt
by_driving machine start met end ob out on before later (engine_fault.EndOfLink peer) none low early drives back = tt

by_machine : (machine : Kept) (start met end : NetView) (ob out on : SinkView) (before later : Sessions) → ((host : ℕ) → 4 ≤ host → before host ≡ None) → start.faults ≤ met.faults → ob.faults ≤ out.faults
    → {result : Result Ended HostFault} → DrivesAndTells machine before later out on result → HandedBack later met 4 end → HasCause start end ob on result
by_machine machine start met end ob out on before later none low early (Told mid done drives written) back = tt
by_machine machine start met end ob out on before later none low early (Untold mid done failed drives written) back =
    (let first = drives.driven.3.later in let rose = written.failed in rose_within ob.faults mid.faults on.faults on.faults (omega (arith, early, first)) rose (omega arith))
by_machine machine start met end ob out on before later none low early (Stopped cause drives) back = by_driving machine start met end ob out on before later cause none low early drives back

meets_later : (task : Task) (start now : NetView) (ob on : SinkView) (count : ℕ) (sessions : Sessions) → Meets task start now ob on count sessions → start.faults ≤ now.faults
meets_later task start now ob on count sessions m =
    let one = listened_later start m.announced.listened in
    let two = met_later task m.first m.net m.met.met in
    omega (arith, one, two)

pub causes : FaultsHaveCauses
causes machine task start end ob on result few own plays = by plays
  where
    by : {result : Result Ended HostFault} → Plays machine task start end ob on result → HasCause start end ob on result
    by (NotListening count net cause there listened call same) =
        by_call {T = ℕ} (peer_at task (task.me.0 + count)) start end ob on cause (λ is. rose_within start.faults net.faults end.faults end.faults (listened_later start listened) (call.failed is) (omega arith))
    by (NotAnnounced failed announces) = announces.written.failed
    by (NotGiven count sessions met net cause meets there gets back) =
        by_call {T = LinkView} (peer_at task count) start end ob on cause
        (λ is. rose_within start.faults met.faults net.faults end.faults (meets_later task start met ob on count sessions meets) (gets_rose meets.first task.me.0 (peer_at task count) met net cause gets is) (back_later sessions net back))
    by (NoRoom count sessions met net back given meets there gets handed hung) = tt
    by (NotGreeted count sessions met net back given link refusal meets there gets greets handed hung) =
        by_greeting (peer_at task count) start end ob on refusal
        (λ is.
        (let rose = greets.failed is in
        let one = meets_later task start met ob on count sessions meets in
        let two = gets_later meets.first task.me.0 (peer_at task count) met net (Ok given) gets in
        let three = back_later sessions net handed in
        rose_within start.faults back.faults end.faults end.faults (omega (arith, one, two, three)) (hung.link_failed (omega (arith, rose))) (omega arith)))
    by (Driven sessions later met out result meets drives back) =
        by_machine machine start met end ob out on sessions later
        (λ host far. none_far task meets.first (length task.addresses) meets.net met sessions host few (omega (arith, few, own)) far meets.met)
        (meets_later task start met ob out (length task.addresses) sessions meets) meets.announced.written.later drives back
