-- The links of a run with a deal of version 2.
use Rattle.std.proofs.Common.{◌≡◌, ℕ, List, ◌∷◌, Option, Some, None, Ok, refl, sym, ap, subst}
use Rattle.std.specs.Prelude.{slice_get, MatchOption}
use Rattle.std.proofs.Math.Logic.{∥∥₁_map}
use Rattle.vd_outside.specs.Net.{NetView}
use Rattle.vd_channel_crypto.specs.declared.deal_keys.secrets.Secrets.{Secrets}
use Rattle.vd_channel_link.specs.Outgoing.{HasSealed, Sealer, SealsLinks, sealer_in}
use Rattle.vd_channel_link.specs.Seals.{sealed_by}
use Rattle.vd_channel_link.specs.declared.channel_net.seal.Seal.{Seal}
use Rattle.vd_channel_link.proofs.Front.{seals_none}
use Rattle.vd_cmd_plan.specs.declared.status.Status.{Status}
use Rattle.vd_cmd_host.specs.Hosts.{EndsMarked, HostRuns, IsSealedFor, Marked, NetsView, NotLoaded, NotMarked, PlainRuns, Plainly, RanMarked, WentWell, WentWrong, sealer_for}
use Rattle.vd_cmd_host.specs.Loading.{LoadsHost}
use Rattle.vd_cmd_host.specs.Sealing.{DealtByKey, DealtInClear, LinksAreSealed, NothingAsked, SealsByDeal}
use Rattle.vd_cmd_host.specs.declared.loading.Loaded.{Loaded}

module _ (loaded : Loaded) (seed : List ℕ) where
  begins_by : (secrets : Option Secrets) (seal : Option Seal) (below : NetView) → MatchOption secrets ⊥ (λ (known : Secrets). seal ≡ Some (sealed_by loaded.program.me known seed))
      → HasSealed (sealer_in seal) below seal below
  begins_by None seal below is = absurd is
  begins_by (Some secrets) seal below is = record {
    held = sealed_by loaded.program.me secrets seed;
    is = is;
    by_it = sym (ap sealer_in is);
    seals = seals_none (sealer_in seal) below below refl;
  }

  pub begins_sealed : (seal : Option Seal) (below : NetView) → IsSealedFor loaded seed seal → HasSealed (sealer_in seal) below seal below
  begins_sealed seal below is = begins_by loaded.dealt.secrets seal below is

-- what was sealed by what a net was told is sealed by what the deal tells
pub sealed_links : (loaded : Loaded) (seed : List ℕ) (secrets : Secrets) (seal later : Option Seal) (start below now : NetView) → seal ≡ Some (sealed_by loaded.program.me secrets seed)
    → below ≡ start → ∥ HasSealed (sealer_in seal) below later now ∥₁ → ∥ SealsLinks (sealer_for loaded.program secrets seed) start now ∥₁
sealed_links loaded seed secrets seal later start below now is same has =
    ∥∥₁_map has (λ (so : HasSealed (sealer_in seal) below later now).
    subst (λ (by : Sealer). SealsLinks by start now) (ap sealer_in is) (subst (λ (n : NetView). SealsLinks (sealer_in seal) n now) same so.seals))

first_drawn : (seed : List ℕ) (draws rest : List (List ℕ)) → draws ≡ seed ∷ rest → slice_get draws 0 ≡ Some seed
first_drawn seed draws rest is = ap (λ (l : List (List ℕ)). slice_get l 0) is

pub are_sealed : LinksAreSealed
are_sealed words files files_now marks marks_now nets nets_now out out_now end runs = by runs
  where
    plainly : {end : Status} → PlainRuns words files files_now nets.plain nets_now.plain out out_now end → SealsByDeal words files files_now marks nets.plain nets_now.plain
    plainly (NotLoaded refusal loads same_net same_out) = NothingAsked same_net
    plainly (WentWell loaded loads is plain ran) = DealtInClear loaded loads plain
    plainly (WentWrong loaded refusal loads is plain ran) = DealtInClear loaded loads plain

    marked : (loaded : Loaded) (secrets : Secrets) → LoadsHost words files files_now (Ok loaded) → loaded.dealt.secrets ≡ Some secrets → {end : Status}
        → EndsMarked words loaded secrets marks marks_now nets nets_now out out_now end → SealsByDeal words files files_now marks nets.plain nets_now.plain
    marked loaded secrets loads dealt (NotMarked refusal claims same_nets same_out) = NothingAsked (ap (λ (n : NetsView). n.plain) same_nets)
    marked loaded secrets loads dealt (RanMarked result ran) =
        DealtByKey loaded secrets ran.claimed.seed loads dealt (λ told. first_drawn ran.claimed.seed marks.draws ran.between.draws (ran.claims.drawn told)) ran.seals

    by : {end : Status} → HostRuns words files files_now marks marks_now nets nets_now out out_now end → SealsByDeal words files files_now marks nets.plain nets_now.plain
    by (Plainly end plain same_marks same_sent) = plainly plain
    by (Marked loaded secrets end loads is dealt ends) = marked loaded secrets loads dealt ends
