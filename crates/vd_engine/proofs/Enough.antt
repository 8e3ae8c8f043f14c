-- A host that has all that it wants runs to its end.
use Rattle.std.proofs.Common.{◌≡◌, ◌≢◌, ◌++◌, ⊎_elim, ℕ, true, false, IsTrue, List, Option, Some, None, Ok, Err, IfSome, nat_eq, refl, sym, subst, ◌∙◌}
use Rattle.std.proofs.lemmas.Bool.Decides.{eqb_tells}
use Rattle.vd_execution.specs.Step.{Deed}
use Rattle.vd_machine.specs.declared.want.Want.{Want}
use Rattle.vd_machine.specs.declared.want.Want.TheVariants as want
use Rattle.vd_link.specs.Frames.{frame, frames}
use Rattle.vd_link.specs.Sessions.{IsLinkFault}
use Rattle.vd_link.specs.declared.faults.LinkFault.{LinkFault}
use Rattle.vd_link.specs.declared.faults.LinkFault.TheVariants as link_fault
use Rattle.vd_link.proofs.Front.{front_same, no_fault}
use Rattle.vd_engine.specs.Drives.{At, CarriesAll, CarriesAt, CarriesOthers, EndsAt, FailsAt, NoPacket, SessionView, Sessions, TakesFrom, offset_behind}
use Rattle.vd_engine.specs.Enough.{AreTold, EnoughEndsWell, HasCome, HaveCome, IsThere, NotRisen, PacketComes}
use Rattle.vd_engine.specs.Events.{Event, received_from}
use Rattle.vd_engine.specs.declared.fault.EngineFault.TheVariants as fault

-- the packet that is awaited comes
awaited_comes : (sessions : Sessions) (events : List Event) (w : Want) (host count : ℕ) → TakesFrom w host count → IsThere sessions events w → IfSome (sessions host) (PacketComes host count events)
awaited_comes sessions events want.Nothing host count takes there = absurd takes
awaited_comes sessions events (want.Words from many) host count takes there =
    subst (λ (n : ℕ). IfSome (sessions host) (PacketComes host n events)) takes.1 (subst (λ (h : ℕ). IfSome (sessions h) (PacketComes h many events)) takes.0 there)
awaited_comes sessions events want.Ended host count takes there = absurd takes
awaited_comes sessions events (want.ShortInput i j) host count takes there = absurd takes
awaited_comes sessions events (want.ShortDeal kind i j) host count takes there = absurd takes
awaited_comes sessions events (want.Unequal x y) host count takes there = absurd takes

-- so it has no fault
not_wrong : (host count offset : ℕ) (events : List Event) (session : SessionView) (rest : List ℕ) (cause : LinkFault) → cause ≢ link_fault.Peer
    → session.link.coming ≡ frames (received_from host events) ++ rest → PacketComes host count events session → IsLinkFault count offset rest cause → ⊥
not_wrong host count offset events session rest cause differs came comes wrong =
    let behind : rest ≡ frame comes.words ++ comes.rest = (front_same (frames (received_from host events)) (frames (received_from host events)) rest (frame comes.words ++ comes.rest) refl (sym came ∙ comes.comes)).1 in
    no_fault comes.words comes.rest offset cause differs
    (subst (λ (n : ℕ). IsLinkFault n offset (frame comes.words ++ comes.rest) cause) (sym comes.counted) (subst (λ (l : List ℕ). IsLinkFault count offset l cause) behind wrong))

no_bad_frame : (sessions : Sessions) (host : ℕ) (events : List Event) (w : Want) (offset byte : ℕ) (x y : Option SessionView) → sessions host ≡ x → IfSome y (λ session. IsTrue session.link.told) → IsThere sessions events w
    → At (NoPacket host events w offset byte) x y → ⊥
no_bad_frame sessions host events w offset byte (Some b) (Some n) is told there at =
    let comes : PacketComes host at.count events b = subst (λ (o : Option SessionView). IfSome o (PacketComes host at.count events)) is (awaited_comes sessions events w host at.count at.next there) in
    not_wrong host at.count (offset_behind host events b) events b at.breaks.rest (link_fault.BadFrame offset byte) (λ e. cc) (at.breaks.came told) comes (at.wrong told)
no_bad_frame sessions host events w offset byte (Some b) None is told there at = at
no_bad_frame sessions host events w offset byte None y is told there at = at

no_early_end : (sessions : Sessions) (host : ℕ) (events : List Event) (w : Want) (x y : Option SessionView) → sessions host ≡ x → IfSome y (λ session. IsTrue session.link.told) → IsThere sessions events w
    → At (EndsAt host events w) x y → ⊥
no_early_end sessions host events w (Some b) (Some n) is told there at =
    let comes : PacketComes host at.count events b = subst (λ (o : Option SessionView). IfSome o (PacketComes host at.count events)) is (awaited_comes sessions events w host at.count at.next there) in
    not_wrong host at.count 0 events b at.breaks.rest link_fault.End (λ e. cc) (at.breaks.came told) comes (at.short told)
no_early_end sessions host events w (Some b) None is told there at = at
no_early_end sessions host events w None y is told there at = at

no_failure : (host : ℕ) (events : List Event) (w : Want) (does : Deed) (x y : Option SessionView) → NotRisen x y → At (FailsAt host events w does) x y → ⊥
no_failure host events w does (Some b) (Some n) quiet at = quiet at.rose
no_failure host events w does (Some b) None quiet at = at
no_failure host events w does None y quiet at = at

-- what was received is what came
came_at : (host : ℕ) (events : List Event) (x y : Option SessionView) → CarriesAt host events x y → IfSome y (λ session. IsTrue session.link.told) → HasCome (received_from host events) x
came_at host events None None carries told = carries.0
came_at host events None (Some n) carries told = absurd carries
came_at host events (Some b) None carries told = absurd carries
came_at host events (Some b) (Some n) carries told = (n.link.coming, carries.came told)

came_all : (events : List Event) (before now : Sessions) → CarriesAll events before now → AreTold now → HaveCome before events
came_all events before now carries told host = came_at host events (before host) (now host) (carries host) (told host)

came_before_fault : (host : ℕ) (events : List Event) (w : Want) (offset byte : ℕ) (x y : Option SessionView) → At (NoPacket host events w offset byte) x y
    → IfSome y (λ session. IsTrue session.link.told) → HasCome (received_from host events) x
came_before_fault host events w offset byte None y at told = absurd at
came_before_fault host events w offset byte (Some b) None at told = absurd at
came_before_fault host events w offset byte (Some b) (Some n) at told = (at.breaks.rest, at.breaks.came told)

came_before_end : (host : ℕ) (events : List Event) (w : Want) (x y : Option SessionView) → At (EndsAt host events w) x y
    → IfSome y (λ session. IsTrue session.link.told) → HasCome (received_from host events) x
came_before_end host events w None y at told = absurd at
came_before_end host events w (Some b) None at told = absurd at
came_before_end host events w (Some b) (Some n) at told = (at.breaks.rest, at.breaks.came told)

came_but_one : (failing : ℕ) (events : List Event) (before now : Sessions) → HasCome (received_from failing events) (before failing) → CarriesOthers failing events before now
    → AreTold now → HaveCome before events
came_but_one failing events before now at others told host = ⊎_elim
    (λ (h : (nat_eq host failing ≡ true) × (host ≡ failing)). subst (λ (k : ℕ). HasCome (received_from k events) (before k)) (sym h.1) at)
    (λ (h : (nat_eq host failing ≡ false) × (host ≢ failing)). came_at host events (before host) (now host) (others host h.1) (told host))
    (eqb_tells host failing)

pub enough : EnoughEndsWell
enough lists start before now ob on (Ok ended) drives there told quiet written = refl
enough lists start before now ob on (Err (fault.Peer host)) drives there told quiet written = absurd (no_failure host.0 drives.events _ _ (before host.0) (now host.0) (quiet host.0) drives.driven.0)
enough lists start before now ob on (Err fault.Write) drives there told quiet written = absurd (written drives.driven.4.rose)
enough lists start before now ob on (Err (fault.BadFrame host offset byte)) drives there told quiet written =
    absurd (no_bad_frame before host.0 drives.events _ offset byte (before host.0) (now host.0) refl (told host.0) (there drives.steps drives.events drives.machine drives.reached (came_but_one host.0 drives.events before now (came_before_fault host.0 drives.events _ offset byte (before host.0) (now host.0) drives.driven.0 (told host.0)) drives.driven.1 told)) drives.driven.0)
enough lists start before now ob on (Err (fault.Unequal left right)) drives there told quiet written =
    absurd (subst (IsThere before drives.events) drives.driven.0 (there drives.steps drives.events drives.machine drives.reached (came_all drives.events before now drives.driven.1 told)))
enough lists start before now ob on (Err (fault.ShortInput cursor count)) drives there told quiet written =
    absurd (subst (IsThere before drives.events) drives.driven.0 (there drives.steps drives.events drives.machine drives.reached (came_all drives.events before now drives.driven.1 told)))
enough lists start before now ob on (Err (fault.ShortDeal kind cursor count)) drives there told quiet written =
    absurd (subst (IsThere before drives.events) drives.driven.0 (there drives.steps drives.events drives.machine drives.reached (came_all drives.events before now drives.driven.1 told)))
enough lists start before now ob on (Err (fault.EndOfLink host)) drives there told quiet written =
    absurd (no_early_end before host.0 drives.events _ (before host.0) (now host.0) refl (told host.0) (there drives.steps drives.events drives.machine drives.reached (came_but_one host.0 drives.events before now (came_before_end host.0 drives.events _ (before host.0) (now host.0) drives.driven.0 (told host.0)) drives.driven.1 told)) drives.driven.0)
