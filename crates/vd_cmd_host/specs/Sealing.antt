-- The links of a deal of version 2 are sealed.
use Rattle.std.specs.Prelude.{◌≡◌, ℕ, IsTrue, List, Some, None, Ok, slice_get}
use Rattle.vd_outside.specs.Files.{FilesView}
use Rattle.vd_outside.specs.Net.{NetView}
use Rattle.vd_outside.specs.Sink.{SinkView}
use Rattle.vd_outside.specs.Marks.{MarksView}
use Rattle.vd_channel_crypto.specs.declared.deal_keys.secrets.Secrets.{Secrets}
use Rattle.vd_channel_link.specs.Outgoing.{SealsLinks}
use Rattle.vd_cmd.specs.declared.command.HostWords.{HostWords}
use Rattle.vd_cmd_plan.specs.declared.status.Status.{Status}
use Rattle.vd_cmd_host.specs.Hosts.{HostRuns, NetsView, sealer_for}
use Rattle.vd_cmd_host.specs.Loading.{LoadsHost}
use Rattle.vd_cmd_host.specs.declared.loading.Loaded.{Loaded}

-- Nothing was asked of the net; or the files had a deal of version 1; or they had one of version 2, and over each link that came back all
-- that was sent was sealed by what the deal tells and by 32 bytes that were drawn for this run: a prefix of one hello, and of records with
-- the keys of that link.
pub data SealsByDeal (words : HostWords) (files files_now : FilesView) (marks : MarksView) (net net_now : NetView) : Type 0 where
  NothingAsked : net_now ≡ net → SealsByDeal words files files_now marks net net_now
  DealtInClear : (loaded : Loaded) → LoadsHost words files files_now (Ok loaded) → loaded.dealt.secrets ≡ None
      → SealsByDeal words files files_now marks net net_now
  DealtByKey : (loaded : Loaded) (secrets : Secrets) (seed : List ℕ) → LoadsHost words files files_now (Ok loaded)
      → loaded.dealt.secrets ≡ Some secrets → (IsTrue marks.told → slice_get marks.draws 0 ≡ Some seed)
      → ∥ SealsLinks (sealer_for loaded.program secrets seed) net net_now ∥₁
      → SealsByDeal words files files_now marks net net_now

-- So it is in each run.
abbrev pub LinksAreSealed : Type 0
LinksAreSealed = (words : HostWords) (files files_now : FilesView) (marks marks_now : MarksView) (nets nets_now : NetsView)
    (out out_now : SinkView) (end : Status) → HostRuns words files files_now marks marks_now nets nets_now out out_now end
    → SealsByDeal words files files_now marks nets.plain nets_now.plain
