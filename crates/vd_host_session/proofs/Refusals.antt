-- How a peer is met, or why not.
use Rattle.std.proofs.Common.{arith, ◌≡◌, ◌<◌, ◌≤◌, ◌+◌, ◌-◌, ℕ, suc, List, Option, Some, None, Result, Ok, Err, option_map, refl, sym, ap, subst, ◌∙◌}
use Rattle.vd_base.specs.declared.faults.CallFault.{CallFault}
use Rattle.vd_outside.specs.Link.{LinkView}
use Rattle.vd_outside.specs.Net.{NetView, Accepts, Connects}
use Rattle.vd_link.specs.Sessions.{Ends, Greets}
use Rattle.vd_link.specs.declared.faults.GreetFault.{GreetFault}
use Rattle.vd_host_session.specs.Histories.{ByAccept, ByConnect, Gets, call_status, ends_with, greet_status}
use Rattle.vd_host_session.specs.Peers.{address_of, number_at, peer_at}
use Rattle.vd_host_session.specs.Stages.{Fails, NoGreeting, NoLink, NoMemory}
use Rattle.vd_host_session.specs.declared.fault.HostFault.{HostFault}
use Rattle.vd_host_session.specs.declared.fault.HostFault.TheVariants as fault
use Rattle.vd_host_session.specs.declared.task.Task.{Task}
use Rattle.vd_host_session.proofs.Numbers.{earlier_number, later_number}

pub gets_by_accept : (task : Task) (first place listener : ℕ) (net now : NetView) (result : Result LinkView CallFault) → task.me.0 ≤ place → listener ≡ first + (place - task.me.0)
    → Accepts listener net now result → Gets first task.me.0 (peer_at task place) net now result
gets_by_accept task first place listener net now result behind is accepts =
    let number = later_number task.me.0 place behind in
    ByAccept (omega (arith, number, behind))
    (subst (λ (n : ℕ). Accepts n net now result) (let e : listener ≡ first + (number_at task.me.0 place - suc task.me.0) = omega (arith, number, is) in e) accepts)

pub gets_by_connect : (task : Task) (first place : ℕ) (address : List ℕ) (net now : NetView) (result : Result LinkView CallFault) → place < task.me.0 → address ≡ address_of task place
    → Connects address net now result → Gets first task.me.0 (peer_at task place) net now result
gets_by_connect task first place address net now result before is connects =
    let number = earlier_number task.me.0 place before in
    ByConnect (omega (arith, number, before)) (subst (λ (a : List ℕ). Connects a net now result) is connects)

-- the fault of a call, by the number of the peer alone
pub no_link : (task : Task) (first place peer : ℕ) (before now : NetView) (cause : CallFault) (told : HostFault) → peer ≡ number_at task.me.0 place
    → ((address : List ℕ) → told ≡ call_status (record { number = peer; address = address }) cause)
    → Gets first task.me.0 (peer_at task place) before now (Err cause) → Fails task first place before now told None
no_link task first place peer before now cause told is status gets =
    subst (λ (f : HostFault). Fails task first place before now f None)
    (sym (status (address_of task place) ∙ ap (λ (n : ℕ). call_status (record { number = n; address = address_of task place }) cause) is)) (NoLink cause gets)

pub no_memory : {L : Type 0} (view : L → LinkView) (task : Task) (first place : ℕ) (before now : NetView) (link back : L) → back ≡ link
    → Gets first task.me.0 (peer_at task place) before now (Ok (view link)) → Fails task first place before now fault.Memory (Some (view back))
no_memory view task first place before now link back is gets =
    subst (λ l. Fails task first place before now fault.Memory (Some (view l))) (sym is) (NoMemory (view link) gets)

ends_are : (task : Task) (place peer : ℕ) (ends : Ends) → peer ≡ number_at task.me.0 place → ends ≡ record { me = task.me.0; peer = peer; plan = task.plan }
    → ends ≡ ends_with task (peer_at task place)
ends_are task place peer ends is are = subst (λ (n : ℕ). ends ≡ record { me = task.me.0; peer = n; plan = task.plan }) is are

pub no_greeting : {L : Type 0} (view : L → LinkView) (task : Task) (first place peer : ℕ) (before now : NetView) (ends : Ends) (link begun closed back : L) (refusal : GreetFault) (told : HostFault)
    → peer ≡ number_at task.me.0 place → begun ≡ link → ends ≡ record { me = task.me.0; peer = peer; plan = task.plan } → back ≡ closed
    → ((address : List ℕ) → told ≡ greet_status (record { number = peer; address = address }) refusal)
    → Greets ends (view begun) (view closed) (Err refusal) → Gets first task.me.0 (peer_at task place) before now (Ok (view link))
    → Fails task first place before now told (Some (view back))
no_greeting view task first place peer before now ends link begun closed back refusal told is same are returned status greets gets =
    subst (λ l. Fails task first place before now told (Some (view l))) (sym returned)
    (subst (λ (f : HostFault). Fails task first place before now f (Some (view closed)))
    (sym (status (address_of task place) ∙ ap (λ (n : ℕ). greet_status (record { number = n; address = address_of task place }) refusal) is))
    (NoGreeting (view link) (view closed) refusal gets
    (subst (λ (e : Ends). Greets e (view link) (view closed) (Err refusal)) (ends_are task place peer ends is are)
    (subst (λ l. Greets ends (view l) (view closed) (Err refusal)) same greets))))

-- where there is no session as it is told, there is none
pub none_inside : {A B : Type 0} (f : A → B) (o : Option A) → option_map f o ≡ None → o ≡ None
none_inside f (Some x) is = absurd cc
none_inside f None is = refl
