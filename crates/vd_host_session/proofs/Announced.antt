-- Listeners that are made, and links that are handed back, one after the other.
use Rattle.std.proofs.Common.{arith, ◌≡◌, ◌≢◌, ◌≤◌, ◌<◌, ◌+◌, ℕ, List, length, Option, Some, None, Ok, Err, IsSome, option_map, refl, sym, ap, subst, ◌∙◌}
use Rattle.std.proofs.lemmas.List.FromFn.{map-range_with_len_more}
use Rattle.vd_base.specs.declared.faults.CallFault.{CallFault}
use Rattle.vd_execution.specs.Code.{Code}
use Rattle.vd_outside.specs.Link.{LinkView}
use Rattle.vd_outside.specs.Net.{NetView, Listens, HangsUp}
use Rattle.vd_link.specs.States.{link_of}
use Rattle.vd_link.specs.declared.session.Greeted.{Greeted}
use Rattle.vd_link.specs.declared.session.Session.{Session}
use Rattle.vd_engine.specs.Drives.{session_view, sessions_of}
use Rattle.vd_engine.specs.Hosts.{PacketsAreWith, stands_in}
use Rattle.vd_engine.specs.Links.{session_at}
use Rattle.vd_engine.specs.declared.links.Links.{Links}
use Rattle.vd_engine.proofs.Front.{also_with}
use Rattle.vd_host_session.specs.Histories.{HandedBack, Listened, NoSession, OneBack, OneListener, call_status}
use Rattle.vd_host_session.specs.Peers.{Peer, first_later, number_at, peer_at}
use Rattle.vd_host_session.specs.Stages.{AreMet, Unheard}
use Rattle.vd_host_session.specs.declared.fault.HostFault.{HostFault}
use Rattle.vd_host_session.specs.declared.task.Task.{Task}

pub listened_more : (task : Task) (start net now : NetView) (count place number : ℕ) → task.me.0 + count ≡ place → Listened start (first_later task count) net → Listens (peer_at task place).address net now (Ok number)
    → Listened start (first_later task (count + 1)) now
listened_more task start net now count place number is before call =
    subst (λ (peers : List Peer). Listened start peers now) (sym (map-range_with_len_more (peer_at task) task.me.0 count place is)) (OneListener (first_later task count) (peer_at task place) number net now before call)

pub unheard : (task : Task) (start net now : NetView) (count place : ℕ) (cause : CallFault) (fault : HostFault) → place < length task.addresses → task.me.0 + count ≡ place → Listened start (first_later task count) net
    → Listens (peer_at task place).address net now (Err cause) → fault ≡ call_status (peer_at task place) cause → Unheard task start now fault
unheard task start net now count place cause fault less is before call told = record {
  count = count;
  there = omega (arith, less, is);
  net = net;
  cause = cause;
  before = before;
  call = subst (λ (p : ℕ). Listens (peer_at task p).address net now (Err cause)) (sym is) call;
  told = subst (λ (p : ℕ). fault ≡ call_status (peer_at task p) cause) (sym is) told;
}

-- a host with no session has no link to hand back
none_back : {L : Type 0} (view : L → LinkView) (links : Links L) (start now : NetView) (count : ℕ) → HandedBack (sessions_of view links) start count now → session_at links count ≡ None
    → HandedBack (sessions_of view links) start (count + 1) now
none_back view links start now count back none = NoSession count now back (ap (option_map (session_view view)) none)

one_back : {L : Type 0} (view : L → LinkView) (links : Links L) (session : Session L Greeted) (start net now : NetView) (count : ℕ) → HandedBack (sessions_of view links) start count net
    → session_at links count ≡ Some session → HangsUp (view (link_of session)) net now → HandedBack (sessions_of view links) start (count + 1) now
one_back view links session start net now count back stands hangs =
    OneBack count (view (link_of session)) (session_view view session).received (session_view view session).failed net now back (ap (option_map (session_view view)) stands) hangs

-- a session that was taken out, or that there is none
pub taken_back : {L : Type 0} (view : L → LinkView) (first links : Links L) (session : Session L Greeted) (link closed : L) (start net now : NetView) (count : ℕ) (taken : Option (Session L Greeted))
    → HandedBack (sessions_of view first) start count net → session_at links count ≡ session_at first count → taken ≡ session_at links count → taken ≡ Some session
    → link ≡ closed → closed ≡ link_of session → HangsUp (view link) net now → HandedBack (sessions_of view first) start (count + 1) now
taken_back view first links session link closed start net now count taken back same was is returned kept hangs =
    one_back view first session start net now count back (sym same ∙ sym was ∙ is) (subst (λ l. HangsUp (view l) net now) (returned ∙ kept) hangs)

pub nothing_back : {L : Type 0} (view : L → LinkView) (first links : Links L) (start now : NetView) (count : ℕ) (taken : Option (Session L Greeted))
    → HandedBack (sessions_of view first) start count now → session_at links count ≡ session_at first count → taken ≡ session_at links count → taken ≡ None
    → HandedBack (sessions_of view first) start (count + 1) now
nothing_back view first links start now count taken back same was is = none_back view first start now count back (sym same ∙ sym was ∙ is)

-- the sessions of later hosts stay
pub others_stay : {L : Type 0} (first links later : Links L) (count : ℕ) → ((other : ℕ) → count ≤ other → session_at links other ≡ session_at first other)
    → ((other : ℕ) → other ≢ count → session_at later other ≡ session_at links other) → (other : ℕ) → count + 1 ≤ other → session_at later other ≡ session_at first other
others_stay first links later count rest others other least = others other (λ e. omega (arith, least, e)) ∙ rest other (omega (arith, least))

some_inside : {A B : Type 0} (f : A → B) (o : Option A) → IsSome (option_map f o) → IsSome o
some_inside f (Some x) some = refl
some_inside f None some = some

-- where all peers are met, the packets of a code that names them alone pass
pub peers_stand : {L : Type 0} (view : L → LinkView) (task : Task) (first count : ℕ) (start now : NetView) (links : Links L) (code : Code) → AreMet task first count start now (sessions_of view links)
    → PacketsAreWith (λ number. (place : ℕ) × (place < count) × (number ≡ number_at task.me.0 place)) code → PacketsAreWith (stands_in links) code
peers_stand view task first count start now links code m packets =
    also_with (λ number. (place : ℕ) × (place < count) × (number ≡ number_at task.me.0 place)) (stands_in links) code
    (λ number peer. subst (λ (n : ℕ). IsSome (session_at links n)) (sym peer.2) (some_inside (session_view view) (session_at links (number_at task.me.0 peer.0)) (m.stand peer.0 peer.1))) packets
