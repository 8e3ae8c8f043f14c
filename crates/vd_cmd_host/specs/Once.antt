-- A deal of version 2 is used once.
use Rattle.std.specs.Prelude.{◌≡◌, ◌<◌, ◌^◌, ℕ, true, false, IsTrue, List, take, Some, None, Result, Ok}
use Rattle.vd_outside.specs.Files.{FilesView}
use Rattle.vd_outside.specs.Sink.{SinkView}
use Rattle.vd_base_codec.specs.Digits.{IsKey}
use Rattle.vd_outside.specs.Marks.{MarksView}
use Rattle.vd_outside.specs.Places.{folder_of}
use Rattle.vd_channel_crypto.specs.declared.deal_keys.secrets.Secrets.{Secrets}
use Rattle.vd_cmd.specs.declared.command.HostWords.{HostWords}
use Rattle.vd_hostcode.specs.declared.host_text.program.HostProgram.{HostProgram}
use Rattle.vd_cmd_plan.specs.declared.status.Status.{Status}
use Rattle.vd_cmd_plan.specs.declared.status.Status.TheVariants as status
use Rattle.vd_cmd_host.specs.Hosts.{HostRuns, NetsView}
use Rattle.vd_cmd_host.specs.Loading.{LoadsHost}
use Rattle.vd_cmd_host.specs.Marking.{mark_name, mark_of, mark_text}
use Rattle.vd_cmd_host.specs.declared.loading.Loaded.{Loaded}

-- Where something may have gone out over a sealed link behind the greeting, the files had a deal of version 2, whose mark was not there before and is there now.
pub record IsMarked (words : HostWords) (files files_now : FilesView) (marks marks_now : MarksView) : Type 0 where
  pub loaded : Loaded
  pub secrets : Secrets
  pub loads : LoadsHost words files files_now (Ok loaded)
  pub dealt : loaded.dealt.secrets ≡ Some secrets
  pub fresh : marks.taken (mark_of words secrets.id loaded.program) ≡ None
  pub marked : marks_now.taken (mark_of words secrets.id loaded.program) ≡ Some (mark_text secrets.id loaded.program)

-- So it is in each run over marks that tell what is taken, and a net over whose links nothing had gone out.
abbrev pub UsesOnce : HostWords → FilesView → FilesView → MarksView → MarksView → NetsView → NetsView → Type 0
UsesOnce words files files_now marks marks_now nets nets_now =
    IsTrue marks.told → nets.sent ≡ false → nets_now.sent ≡ true → IsMarked words files files_now marks marks_now

abbrev pub DealsAreUsedOnce : Type 0
DealsAreUsedOnce = (words : HostWords) (files files_now : FilesView) (marks marks_now : MarksView) (nets nets_now : NetsView) (out out_now : SinkView) (end : Status)
    → HostRuns words files files_now marks marks_now nets nets_now out out_now end → UsesOnce words files files_now marks marks_now nets nets_now

-- ---- of two runs

-- All programs of a host look for the mark of a deal at one place: in the folder of the deal's file, wherever the program's file is.
abbrev pub MarksStandByDeals : Type 0
MarksStandByDeals = (words again : HostWords) (id : List ℕ) (program other : HostProgram) → folder_of words.deal ≡ folder_of again.deal → program.me ≡ other.me
    → mark_of words id program ≡ mark_of again id other

-- Marks of two hosts have two names, and so have those of two dealings whose names differ in their first 16 bytes.
abbrev pub NamesAreApart : Type 0
NamesAreApart = (id other : List ℕ) (me you : ℕ) → IsKey id → IsKey other → me < 2 ^ 64 → you < 2 ^ 64 → mark_name id me ≡ mark_name other you
    → (take 16 id ≡ take 16 other) × (me ≡ you)

-- What stands in a mark tells the name of the dealing, the host and the plan.
pub record IsOneUse (id other : List ℕ) (program again : HostProgram) : Type 0 where
  pub dealing : id ≡ other
  pub host : program.me.0 ≡ again.me.0
  pub plan : program.plan.bytes ≡ again.plan.bytes

abbrev pub IsMarkable : (id : List ℕ) → HostProgram → Type 0
IsMarkable id program = IsKey id × IsKey program.plan.bytes × (program.me.0 < 2 ^ 64)

abbrev pub MarksTell : Type 0
MarksTell = (id other : List ℕ) (program again : HostProgram) → IsMarkable id program → IsMarkable other again → mark_text id program ≡ mark_text other again
    → IsOneUse id other program again

-- Of two runs of a host with deals of one dealing in one folder only one sends, where the mark of the first stands until the second begins.
abbrev pub NoDealServesTwice : Type 0
NoDealServesTwice = (words again : HostWords) (files files_now later later_now : FilesView) (marks marks_now marks_later marks_last : MarksView)
    (first : IsMarked words files files_now marks marks_now) (second : IsMarked again later later_now marks_later marks_last)
    → folder_of words.deal ≡ folder_of again.deal → first.secrets.id ≡ second.secrets.id → first.loaded.program.me ≡ second.loaded.program.me
    → marks_later.taken (mark_of words first.secrets.id first.loaded.program) ≡ marks_now.taken (mark_of words first.secrets.id first.loaded.program) → ⊥

-- Where a deal is refused as used nothing is asked of the net, and all marks are what they were.
abbrev pub UsedDealsStayMarked : Type 0
UsedDealsStayMarked = (words : HostWords) (files files_now : FilesView) (marks marks_now : MarksView) (nets nets_now : NetsView) (out out_now : SinkView) (name : List ℕ)
    → HostRuns words files files_now marks marks_now nets nets_now out out_now (status.DealUsed name) → IsTrue marks.told
    → (marks_now.taken ≡ marks.taken) × (nets_now ≡ nets)
