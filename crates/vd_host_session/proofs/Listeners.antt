-- A host listens for its later peers, one after the other.
use Rattle.std.proofs.Common.{arith, ◌≡◌, ◌≢◌, ◌<◌, ◌≤◌, ◌+◌, ◌-◌, ⊎_elim, ℕ, List, length, Ok, Err, sym, ap, subst, ◌∙◌}
use Rattle.std.proofs.Math.Nat.{eq-or-lt_of_le}
use Rattle.vd_base.specs.declared.faults.CallFault.{CallFault}
use Rattle.vd_outside.specs.Net.{NetView, Listens}
use Rattle.vd_host_session.specs.Histories.{Listened, NoListener, call_status}
use Rattle.vd_host_session.specs.Peers.{address_of, first_later, number_at}
use Rattle.vd_host_session.specs.Stages.{HasListened, Unheard}
use Rattle.vd_host_session.specs.declared.fault.HostFault.{HostFault}
use Rattle.vd_host_session.specs.declared.task.Task.{Task}
use Rattle.vd_host_session.proofs.Announced.{listened_more, unheard}

-- it listens for the peers up to a place; the first listener has this number
pub record IsListening (task : Task) (start now : NetView) (place first : ℕ) : Type 0 where
  pub behind : task.me.0 ≤ place
  pub listened : Listened start (first_later task (place - task.me.0)) now
  pub given : start.given + (place - task.me.0) ≡ now.given
  pub first_is : task.me.0 < place → first ≡ start.given
  pub low : first ≤ start.given

pub listening_none : (task : Task) (start : NetView) → IsListening task start start task.me.0 0
listening_none task start = record {
  behind = omega arith;
  listened = (let none : 0 ≡ task.me.0 - task.me.0 = omega arith in subst (λ (n : ℕ). Listened start (first_later task n) start) none NoListener);
  given = omega arith;
  first_is = λ less. absurd (omega (arith, less));
  low = omega arith;
}

pub listening_more : (task : Task) (start net now : NetView) (place first number later : ℕ) (address : List ℕ) → IsListening task start net place first
    → address ≡ address_of task place → Listens address net now (Ok number) → (place ≡ task.me.0 → later ≡ number) → (place ≢ task.me.0 → later ≡ first)
    → IsListening task start now (place + 1) later
listening_more task start net now place first number later address i is_address call same other =
    let behind = i.behind in
    let given = i.given in
    let numbers = call.number in
    let n0 = numbers.0 in
    let n1 = numbers.1 in
    record {
      behind = omega (arith, behind);
      listened = (let at : task.me.0 + (place - task.me.0) ≡ place = omega (arith, behind) in
          let more : (place - task.me.0) + 1 ≡ (place + 1) - task.me.0 = omega (arith, behind) in
          subst (λ (n : ℕ). Listened start (first_later task n) now) more (listened_more task start net now (place - task.me.0) place number at i.listened (subst (λ (a : List ℕ). Listens a net now (Ok number)) is_address call)));
      given = omega (arith, behind, given, n1);
      first_is = λ less. is;
      low = (let e = is in omega (arith, e));
    }
  where
    first_one : task.me.0 ≡ place → later ≡ start.given
    first_one e = let l = same (sym e) in let n = call.number.0 in let g = i.given in omega (arith, l, n, g, e)

    earlier_one : task.me.0 < place → later ≡ start.given
    earlier_one less = other (λ e. omega (arith, less, e)) ∙ i.first_is less

    is : later ≡ start.given
    is = ⊎_elim (λ (e : task.me.0 ≡ place). first_one e) (λ (less : task.me.0 < place). earlier_one less) (eq-or-lt_of_le i.behind)

pub listening_all : (task : Task) (start now : NetView) (place first : ℕ) → place ≡ length task.addresses → IsListening task start now place first → HasListened task start now first
listening_all task start now place first is i =
    let given = i.given in
    record {
      listened = subst (λ (n : ℕ). Listened start (first_later task (n - task.me.0)) now) is i.listened;
      first_is = λ less. i.first_is (omega (arith, less, is));
      low = i.low;
      given = omega (arith, given, is);
    }

pub unheard_at : (task : Task) (start net now : NetView) (place first peer : ℕ) (address : List ℕ) (cause : CallFault) (told : HostFault) → place < length task.addresses → IsListening task start net place first
    → address ≡ address_of task place → Listens address net now (Err cause) → peer ≡ number_at task.me.0 place
    → ((any : List ℕ) → told ≡ call_status (record { number = peer; address = any }) cause) → Unheard task start now told
unheard_at task start net now place first peer address cause told less i is_address call is status =
    let behind = i.behind in
    unheard task start net now (place - task.me.0) place cause told less (omega (arith, behind)) i.listened (subst (λ (a : List ℕ). Listens a net now (Err cause)) is_address call)
    (status (address_of task place) ∙ ap (λ (n : ℕ). call_status (record { number = n; address = address_of task place }) cause) is)
