-- What the report says of how a host stands.
use Rattle.std.specs.Prelude.{◌≡◌, ℕ, List, codes}
use Rattle.vd_base.specs.declared.host_state.HostState.{HostState}
use Rattle.vd_base.specs.declared.host_state.HostState.TheVariants.{Ended, Ready, ShortInput, ShortDeal}
use Rattle.vd_report.specs.ReportLines.{state_text}

-- these words are said of a host that stands so, and of no other
abbrev pub IsSaidOf : List ℕ → HostState → Type 0
IsSaidOf words state = (hosts : List (List ℕ)) (s : HostState) → (s ≡ state → state_text hosts s ≡ words) × (state_text hosts s ≡ words → s ≡ state)

-- A host has ended, can take a step, or lacks inputs or items of its deal, exactly where the report says so.
pub record StatesAreTold : Type 0 where
  pub ended : IsSaidOf (codes "ended") Ended
  pub ready : IsSaidOf (codes "ready") Ready
  pub short_input : IsSaidOf (codes "short input") ShortInput
  pub short_deal : IsSaidOf (codes "short deal") ShortDeal
