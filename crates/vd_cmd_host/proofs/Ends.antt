-- How the command ends, by what its host does.
use Rattle.std.proofs.Common.{arith, ◌≡◌, ℕ, List, true, false, inl, Option, Some, None, Result, Ok, Err, refl, sym, ap, subst, ◌∙◌}
use Rattle.std.specs.Prelude.{MatchOption, is_some}
use Rattle.vd_outside.specs.Files.{FilesView}
use Rattle.vd_outside.specs.Net.{NetView}
use Rattle.vd_outside.specs.Sink.{SinkView}
use Rattle.vd_outside.specs.Marks.{MarksView}
use Rattle.vd_channel_crypto.specs.declared.deal_keys.secrets.Secrets.{Secrets}
use Rattle.vd_channel_link.specs.Outgoing.{SealsLinks}
use Rattle.vd_channel_link.specs.Seals.{sealed_by}
use Rattle.vd_channel_link.specs.declared.channel_net.seal.Seal.{Seal}
use Rattle.vd_cmd.specs.declared.command.HostWords.{HostWords}
use Rattle.vd_hostcode.specs.declared.host_text.program.HostProgram.{HostProgram}
use Rattle.vd_cmd_plan.specs.declared.status.Status.{Status}
use Rattle.vd_cmd_plan.specs.declared.status.Status.TheVariants as status
use Rattle.vd_cmd_host.specs.Hosts.{EndsMarked, HostRuns, IsSealedFor, Marked, NetsView, NotMarked, PlainRuns, Plainly, RanMarked, RunsLoaded, WentWell, WentWrong, sealer_for, status_after}
use Rattle.vd_cmd_host.specs.Loading.{IsLoaded, LoadsHost}
use Rattle.vd_cmd_host.specs.Marking.{Claims, Leaves}
use Rattle.vd_cmd_host.specs.declared.loading.Loaded.{Loaded}
use Rattle.vd_cmd_host.specs.declared.marking.Claimed.{Claimed}

-- a host with a deal of version 1 was run
pub ran_plainly : (words : HostWords) (loaded : Loaded) (files files_now : FilesView) (net net_now : NetView) (out out_now : SinkView) (result : Result (Unit {0}) Status)
    → LoadsHost words files files_now (Ok loaded) → IsLoaded words loaded → loaded.dealt.secrets ≡ None → RunsLoaded words loaded net net_now out out_now result
    → PlainRuns words files files_now net net_now out out_now (status_after result)
ran_plainly words loaded files files_now net net_now out out_now (Ok done) loads is plain ran = WentWell loaded loads is plain ran
ran_plainly words loaded files files_now net net_now out out_now (Err refusal) loads is plain ran = WentWrong loaded refusal loads is plain ran

-- one with a deal of version 2 was run
pub ran_marked : (words : HostWords) (loaded : Loaded) (secrets : Secrets) (marks between marks_now : MarksView) (nets nets_now : NetsView) (out out_now : SinkView) (result : Result (Unit {0}) Status) (claimed : Claimed)
    → Claims words secrets.id loaded.program marks between (Ok claimed) → RunsLoaded words loaded nets.sealed nets_now.sealed out out_now result
    → ∥ SealsLinks (sealer_for loaded.program secrets claimed.seed) nets.plain nets_now.plain ∥₁ → Leaves words claimed.name nets_now.sent between marks_now
    → EndsMarked words loaded secrets marks marks_now nets nets_now out out_now (status_after result)
ran_marked words loaded secrets marks between marks_now nets nets_now out out_now result claimed claims runs seals leaves =
    RanMarked result (record { claimed = claimed; between = between; claims = claims; runs = runs; seals = seals; leaves = leaves })

-- a net was told to seal by what a deal of version 2 tells
pub is_sealed : (loaded : Loaded) (seed : List ℕ) (secrets : Secrets) (seal : Option Seal) → loaded.dealt.secrets ≡ Some secrets
    → seal ≡ Some (sealed_by loaded.program.me secrets seed) → IsSealedFor loaded seed seal
is_sealed loaded seed secrets seal dealt is =
    subst (λ (known : Option Secrets). MatchOption known ⊥ (λ (told : Secrets). seal ≡ Some (sealed_by loaded.program.me told seed))) (sym dealt) is

some_of : (secrets : Option Secrets) → is_some secrets ≡ true → (known : Secrets) × (secrets ≡ Some known)
some_of (Some known) some = (known, refl)
some_of None some = absurd cc

nothing_claimed : (words : HostWords) (id : List ℕ) (program : HostProgram) (same : MarksView) → Claims words id program same same (Err status.Memory)
nothing_claimed words id program same = record {
  later = omega arith;
  ends = tt;
  cause = tt;
  still_told = λ told. told;
  fresh = λ told. tt;
  marked = λ told. tt;
  alone = λ told. tt;
  kept = λ told. refl;
  asked = λ told. tt;
  asked_until = λ told. inl refl;
  name = tt;
  drawn = λ told. tt;
  used = λ told name e. absurd (cc e);
}

-- there was no memory to go on with a deal of version 2
pub not_begun : (words : HostWords) (loaded : Loaded) (files files_now : FilesView) (marks : MarksView) (nets nets_now : NetsView) (out : SinkView)
    → LoadsHost words files files_now (Ok loaded) → IsLoaded words loaded → is_some loaded.dealt.secrets ≡ true → nets_now ≡ nets → HostRuns words files files_now marks marks nets nets_now out out status.Memory
not_begun words loaded files files_now marks nets nets_now out loads is some same =
    let known = some_of loaded.dealt.secrets some in
    Marked loaded known.0 status.Memory loads is known.1 (NotMarked status.Memory (nothing_claimed words known.0.id loaded.program marks) same refl)
