-- Meeting peers, by the sessions that are kept.
use Rattle.std.specs.Prelude.{◌≡◌, ◌<◌, ℕ, length, Result, Ok, Err, option_map}
use Rattle.vd_outside.specs.Link.{LinkView}
use Rattle.vd_outside.specs.Net.{NetView}
use Rattle.vd_engine.specs.Drives.{sessions_of}
use Rattle.vd_engine.specs.declared.links.Links.{Links}
use Rattle.vd_host_session.specs.Peers.{number_at}
use Rattle.vd_host_session.specs.Stages.{AreMet, Fails, MetOne}
use Rattle.vd_host_session.specs.declared.meeting.Unmet.{Unmet}
use Rattle.vd_host_session.specs.declared.task.Task.{Task}

-- the peer at a place is met, or it is not and no session changes
abbrev pub MeetsOne : {L : Type 0} → (L → LinkView) → Task → ℕ → ℕ → NetView → NetView → Links L → Links L → Result (Unit {0}) (Unmet L) → Type 0
MeetsOne view task first place before now links later (Ok done) = MetOne task first place before now (sessions_of view links) (sessions_of view later)
MeetsOne view task first place before now links later (Err unmet) =
    Fails task first place before now unmet.fault (option_map view unmet.link) × ((number : ℕ) → sessions_of view later number ≡ sessions_of view links number)

-- the first peers were met, and then one was not
pub record MetUntil {L : Type 0} (view : L → LinkView) (task : Task) (first : ℕ) (start now : NetView) (links : Links L) (unmet : Unmet L) : Type 0 where
  pub count : ℕ
  pub there : count < length task.addresses
  pub net : NetView
  pub met : AreMet task first count start net (sessions_of view links)
  pub fails : Fails task first count net now unmet.fault (option_map view unmet.link)

abbrev pub MeetsAll : {L : Type 0} → (L → LinkView) → Task → ℕ → NetView → NetView → Links L → Result (Unit {0}) (Unmet L) → Type 0
MeetsAll view task first start now links (Ok done) = AreMet task first (length task.addresses) start now (sessions_of view links)
MeetsAll view task first start now links (Err unmet) = MetUntil view task first start now links unmet

-- these are the peers of a host
abbrev pub IsPeerOf : Task → ℕ → Type 0
IsPeerOf task number = (place : ℕ) × (place < length task.addresses) × (number ≡ number_at task.me.0 place)
