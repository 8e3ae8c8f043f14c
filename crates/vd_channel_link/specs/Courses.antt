-- How an accept stands between two of its turns, and at its end.
use Rattle.std.specs.Prelude.{◌≡◌, ℕ, false, List, [], ◌∷◌}
use Rattle.vd_base.specs.declared.faults.CallFault.{CallFault}
use Rattle.vd_outside.specs.Link.{LinkView}
use Rattle.vd_outside.specs.Net.{HangsUp, NetView}
use Rattle.vd_channel_link.specs.Outgoing.{SealsLinks, SealsSession, sealer_of}
use Rattle.vd_channel_link.specs.Seals.{IsAnswered, IsMet, IsTurnedAway, Tries}
use Rattle.vd_channel_link.specs.Waits.{Awaits, Comes, Fails, Post, Waiter}
use Rattle.vd_channel_link.specs.declared.channel_net.answered.Answered.{Answered}
use Rattle.vd_channel_link.specs.declared.channel_net.answered.Heard.{Heard}
use Rattle.vd_channel_link.specs.declared.channel_net.answered.Heard.TheVariants.{Met, Waits}
use Rattle.vd_channel_link.specs.declared.channel_net.seal.Seal.{Seal}
use Rattle.vd_channel_link.specs.declared.fault.SealFault.{SealFault}
use Rattle.vd_channel_link.specs.declared.session.Session.{Session}

-- a link that came is hung up for this reason
pub record IsHungUp (seal : Seal) (peer : ℕ) (came : LinkView) (why : SealFault) (before now : NetView) : Type 0 where
  pub left : LinkView
  pub turned_away : IsTurnedAway seal peer came left why
  pub hangs_up : HangsUp left before now

-- a host whose link came was met, or answered, where its link does not tell its bytes
abbrev pub IsGreeted : {L : Type 0} → (L → LinkView) → Seal → (tried peer : ℕ) → (came : LinkView) → Heard L → Type 0
IsGreeted view seal tried peer came (Met met) = IsMet seal tried peer met.session came (view met.link)
IsGreeted view seal tried peer came (Waits answered) =
    ((view answered.link).told ≡ false) × IsAnswered seal tried peer (answered.ours, answered.theirs) came (view answered.link)

-- this host was answered, and waits as that one
pub record IsWaiting {L : Type 0} (view : L → LinkView) (post : Post) (tried : ℕ) (host : Answered L) (one : Waiter) : Type 0 where
  pub link : view host.link ≡ one.link
  pub untold : one.link.told ≡ false
  pub answered : IsAnswered post.seal tried post.peer (host.ours, host.theirs) one.came one.link

-- each of these hosts waits as the one at its place
abbrev pub AreWaiting : {L : Type 0} → (L → LinkView) → Post → (tried : ℕ) → List (Answered L) → List Waiter → Type 0
AreWaiting view post tried [] [] = Unit {0}
AreWaiting view post tried [] (one ∷ waiting) = ⊥
AreWaiting view post tried (answered ∷ others) [] = ⊥
AreWaiting view post tried (answered ∷ others) (one ∷ waiting) = IsWaiting view post tried answered one × AreWaiting view post tried others waiting

-- what stays since an accept began, and that all was sealed that went out
pub record Stays (post : Post) (start : NetView) (seal : Seal) (now : NetView) : Type 0 where
  pub given : now.given ≡ start.given
  pub limit : now.limit ≡ start.limit
  pub kept : Tries post.seal seal
  pub over : SealsLinks (sealer_of post.seal) start now

-- an accept after so many turns, while these wait
pub record Course {L : Type 0} (view : L → LinkView) (post : Post) (start : NetView) (turns : ℕ) (seal : Seal) (now : NetView) (answered : List (Answered L)) : Type 0 where
  pub stays : Stays post start seal now
  pub waiting : List Waiter
  pub are : AreWaiting view post seal.tried answered waiting
  pub awaits : Awaits post start turns waiting now

-- a peer was met while these wait
pub record Gives {L : Type 0} (view : L → LinkView) (post : Post) (start : NetView) (seal : Seal) (now : NetView) (answered : List (Answered L)) (session : Session) (link : LinkView) : Type 0 where
  pub stays : Stays post start seal now
  pub waiting : List Waiter
  pub are : AreWaiting view post seal.tried answered waiting
  pub comes : Comes post start waiting now
  pub came : LinkView
  pub met : IsMet post.seal seal.tried post.peer session came link
  pub sealed : SealsSession (sealer_of post.seal) start session link

-- no peer was met while these wait
pub record Ends {L : Type 0} (view : L → LinkView) (post : Post) (start : NetView) (seal : Seal) (now : NetView) (answered : List (Answered L)) (fault : CallFault) : Type 0 where
  pub stays : Stays post start seal now
  pub waiting : List Waiter
  pub are : AreWaiting view post seal.tried answered waiting
  pub fails : Fails post seal.tried start waiting now fault
