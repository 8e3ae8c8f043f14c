-- A machine that is driven opens no session and ends none, and its links tell only what they told before.
use Rattle.std.proofs.Common.{arith, ◌≡◌, ⊎_elim, ℕ, zero, suc, true, false, IsTrue, List, Option, Some, None, Result, Ok, Err, nat_eq, refl, sym, subst}
use Rattle.std.specs.Prelude.{◌≢◌}
use Rattle.std.proofs.lemmas.Bool.Decides.{eqb_tells}
use Rattle.vd_execution.specs.Step.{Deed}
use Rattle.vd_machine.specs.declared.want.Want.{Want}
use Rattle.vd_outside.specs.Sink.{SinkView}
use Rattle.vd_engine.specs.Drives.{At, CarriesAll, CarriesAt, CarriesOthers, EndsAt, FailsAt, IsDriven, NoPacket, SessionView, Sessions}
use Rattle.vd_engine.specs.Events.{Event}
use Rattle.vd_engine.specs.declared.engine.Ended.{Ended}
use Rattle.vd_engine.specs.declared.fault.EngineFault.{EngineFault}
use Rattle.vd_engine.specs.declared.fault.EngineFault.TheVariants as fault
use Rattle.vd_host_session.proofs.Front.{count_at, one_at}

abbrev pub Stays : Option SessionView → Option SessionView → Type 0
Stays None None = Unit {0}
Stays (Some before) (Some now) = IsTrue now.link.told → IsTrue before.link.told
Stays before now = ⊥

carried : (host : ℕ) (events : List Event) (before now : Option SessionView) → CarriesAt host events before now → Stays before now
carried host events None None carries = tt
carried host events None (Some now) carries = absurd carries
carried host events (Some before) None carries = absurd carries
carried host events (Some before) (Some now) carries = carries.was_told

failed_at : (host : ℕ) (events : List Event) (wants : Want) (does : Deed) (before now : Option SessionView) → At (FailsAt host events wants does) before now → Stays before now
failed_at host events wants does None now at = absurd at
failed_at host events wants does (Some before) None at = absurd at
failed_at host events wants does (Some before) (Some now) at = at.breaks.was_told

wrong_at : (host : ℕ) (events : List Event) (wants : Want) (offset byte : ℕ) (before now : Option SessionView) → At (NoPacket host events wants offset byte) before now → Stays before now
wrong_at host events wants offset byte None now at = absurd at
wrong_at host events wants offset byte (Some before) None at = absurd at
wrong_at host events wants offset byte (Some before) (Some now) at = at.breaks.was_told

ended_at : (host : ℕ) (events : List Event) (wants : Want) (before now : Option SessionView) → At (EndsAt host events wants) before now → Stays before now
ended_at host events wants None now at = absurd at
ended_at host events wants (Some before) None at = absurd at
ended_at host events wants (Some before) (Some now) at = at.breaks.was_told

all_but_one : (failing : ℕ) (events : List Event) (before now : Sessions) → Stays (before failing) (now failing) → CarriesOthers failing events before now → (host : ℕ) → Stays (before host) (now host)
all_but_one failing events before now at others host = ⊎_elim
    (λ (h : (nat_eq host failing ≡ true) × (host ≡ failing)). subst (λ (k : ℕ). Stays (before k) (now k)) (sym h.1) at)
    (λ (h : (nat_eq host failing ≡ false) × (host ≢ failing)). carried host events (before host) (now host) (others host h.1))
    (eqb_tells host failing)

all_carried : (events : List Event) (before now : Sessions) → CarriesAll events before now → (host : ℕ) → Stays (before host) (now host)
all_carried events before now carries host = carried host events (before host) (now host) (carries host)

pub driven_stays : (events : List Event) (wants : Want) (does : Deed) (before now : Sessions) (ob on : SinkView) (result : Result Ended EngineFault) → IsDriven events wants does before now ob on result
    → (host : ℕ) → Stays (before host) (now host)
driven_stays events wants does before now ob on (Ok done) driven = all_carried events before now driven.2
driven_stays events wants does before now ob on (Err (fault.Peer host)) driven =
    all_but_one host.0 events before now (failed_at host.0 events wants does (before host.0) (now host.0) driven.0) driven.1
driven_stays events wants does before now ob on (Err fault.Write) driven = all_carried events before now driven.3
driven_stays events wants does before now ob on (Err (fault.BadFrame host offset byte)) driven =
    all_but_one host.0 events before now (wrong_at host.0 events wants offset byte (before host.0) (now host.0) driven.0) driven.1
driven_stays events wants does before now ob on (Err (fault.Unequal left right)) driven = all_carried events before now driven.1
driven_stays events wants does before now ob on (Err (fault.ShortInput cursor count)) driven = all_carried events before now driven.1
driven_stays events wants does before now ob on (Err (fault.ShortDeal kind cursor count)) driven = all_carried events before now driven.1
driven_stays events wants does before now ob on (Err (fault.EndOfLink host)) driven =
    all_but_one host.0 events before now (ended_at host.0 events wants (before host.0) (now host.0) driven.0) driven.1

-- there are as many sessions as before
one_stays : (before now : Option SessionView) → Stays before now → one_at now ≡ one_at before
one_stays None None stays = refl
one_stays None (Some now) stays = absurd stays
one_stays (Some before) None stays = absurd stays
one_stays (Some before) (Some now) stays = refl

pub count_stays : (before now : Sessions) → ((host : ℕ) → Stays (before host) (now host)) → (n : ℕ) → count_at now n ≡ count_at before n
count_stays before now stays zero = refl
count_stays before now stays (suc n) =
    let rest = count_stays before now stays n in
    let one = one_stays (before n) (now n) (stays n) in
    omega (arith, rest, one)

-- a session that there is now was there before, and one that was there is there now
pub record Both (before now : Option SessionView) : Type 0 where
  pub was : SessionView
  pub is : SessionView
  pub was_there : before ≡ Some was
  pub is_there : now ≡ Some is
  pub was_told : IsTrue is.link.told → IsTrue was.link.told

pub stood : (before now : Option SessionView) (session : SessionView) → Stays before now → now ≡ Some session → Both before now
stood None None session stays e = absurd cc
stood None (Some now) session stays e = absurd stays
stood (Some before) None session stays e = absurd stays
stood (Some before) (Some now) session stays e = record { was = before; is = now; was_there = refl; is_there = refl; was_told = stays }

pub stands_still : (before now : Option SessionView) (session : SessionView) → Stays before now → before ≡ Some session → Both before now
stands_still None now session stays e = absurd cc
stands_still (Some before) None session stays e = absurd stays
stands_still (Some before) (Some now) session stays e = record { was = before; is = now; was_there = refl; is_there = refl; was_told = stays }
