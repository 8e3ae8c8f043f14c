-- A check of a host's files: what it looks at, what it prints, and how it ends.
use Rattle.std.specs.Prelude.{◌≡◌, ◌≤◌, ℕ, ◌-◌, Bool, true, false, List, [], ◌∷◌, ◌++◌, Option, Some, None, Result, Ok, Err, length, map, nat_eq, nat_lt, if◌then◌else◌, codes, slice_index_or}
use Rattle.std.specs.List.{range_with_len}
use Rattle.vd_base.specs.declared.faults.CallFault.{CallFault}
use Rattle.vd_base.specs.declared.faults.CallFault.TheVariants as call_fault
use Rattle.vd_base.specs.declared.faults.Failed.{Failed}
use Rattle.vd_base_codec.specs.Digits.{key_text}
use Rattle.vd_channel_crypto.specs.declared.deal_keys.secrets.Secrets.{Secrets}
use Rattle.vd_cmd.specs.declared.command.CheckWords.{CheckWords}
use Rattle.vd_cmd_plan.specs.declared.status.HostStatus.{HostStatus}
use Rattle.vd_cmd_plan.specs.declared.status.HostStatus.TheVariants as host_status
use Rattle.vd_cmd_plan.specs.declared.status.Status.{Status}
use Rattle.vd_cmd_plan.specs.declared.status.Status.TheVariants as status
use Rattle.vd_deal_needs.specs.Counted.{code_in}
use Rattle.vd_deal_needs.specs.DealNeedsLawsNeeds.{counts}
use Rattle.vd_execution.specs.Step.{Source, Inputs, OwnWords, Triples, BitTriples, Pairs}
use Rattle.vd_hostcode.specs.declared.host_text.program.HostProgram.{HostProgram}
use Rattle.vd_machine.specs.Wants.{count_of}
use Rattle.vd_outside.specs.Files.{FilesView}
use Rattle.vd_outside.specs.Marks.{Looks, MarksView}
use Rattle.vd_outside.specs.Sink.{SinkView, WritesAll}
use Rattle.vd_report.specs.Lines.{number_field}
use Rattle.vd_report.specs.ReportLines.{texts_below}
use Rattle.vd_tape.specs.declared.deal_items.deal.DealKind.{DealKind}
use Rattle.vd_tape.specs.declared.deal_items.deal.DealKind.TheVariants as kind
use Rattle.vd_cmd_host.specs.Loading.{LoadsFiles}
use Rattle.vd_cmd_host.specs.Marking.{mark_name}
use Rattle.vd_cmd_host.specs.Serving.{lists_of}
use Rattle.vd_cmd_host.specs.declared.amounts.Amount.{Amount}
use Rattle.vd_cmd_host.specs.declared.amounts.PeerAmounts.{PeerAmounts}
use Rattle.vd_cmd_host.specs.declared.amounts.Amounts.{Amounts}
use Rattle.vd_cmd_host.specs.declared.loading.Loaded.{Loaded}

-- ---- how many items the code takes at most of each list, and how many the list has

abbrev pub amount_of : (takes has : Source → ℕ) → Source → Amount
amount_of takes has list = record { takes = takes list; has = has list }

abbrev pub peer_amounts : (takes has : Source → ℕ) → (peer : ℕ) → PeerAmounts
peer_amounts takes has peer = record {
  muls = amount_of takes has (Triples peer);
  ands = amount_of takes has (BitTriples peer);
  pairs = amount_of takes has (Pairs peer);
}

abbrev pub amounts_by : (hosts : ℕ) → (takes has : Source → ℕ) → Amounts
amounts_by hosts takes has = record {
  inputs = amount_of takes has Inputs;
  own = amount_of takes has OwnWords;
  shared = map (peer_amounts takes has) (range_with_len 0 hosts);
}

-- what the code of a program takes from a list at most
abbrev pub most_taken : HostProgram → Source → ℕ
most_taken program = counts (code_in program.code)

abbrev pub amounts_in : Loaded → Amounts
amounts_in loaded = amounts_by (length loaded.program.hosts) (most_taken loaded.program) (count_of (lists_of loaded))

-- ---- the first list that is short

abbrev pub either : Option HostStatus → Option HostStatus → Option HostStatus
either (Some short) other = Some short
either None other = other

-- where a host that takes all stops: it has taken what there is
abbrev pub short_input : Amount → Option HostStatus
short_input amount = if nat_lt amount.has amount.takes then Some (host_status.ShortInput amount.has amount.has) else None

abbrev pub short_deal : DealKind → Amount → Option HostStatus
short_deal kind amount = if nat_lt amount.has amount.takes then Some (host_status.ShortDeal kind amount.has amount.has) else None

abbrev pub short_with : PeerAmounts → Option HostStatus
short_with amounts = either (short_deal kind.Mul amounts.muls) (either (short_deal kind.And amounts.ands) (short_deal kind.Pair amounts.pairs))

abbrev pub short_among : List PeerAmounts → Option HostStatus
short_among [] = None
short_among (amounts ∷ rest) = either (short_with amounts) (short_among rest)

-- in the order of the lines
abbrev pub first_short : Amounts → Option HostStatus
first_short amounts = either (short_input amounts.inputs) (either (short_deal kind.Own amounts.own) (short_among amounts.shared))

-- ---- what is printed

abbrev pub name_at : List (List ℕ) → ℕ → List ℕ
name_at names host = slice_index_or names host []

-- so many of so many
abbrev pub amount_fields : Amount → List ℕ
amount_fields amount = number_field amount.takes ++ codes " of" ++ number_field amount.has

-- inputs that no run takes
abbrev pub left_over : Amount → List ℕ
left_over amount = if nat_lt amount.takes amount.has then codes "," ++ number_field (amount.has - amount.takes) ++ codes " left over" else []

abbrev pub inputs_line : Amount → List ℕ
inputs_line amount = codes "inputs" ++ amount_fields amount ++ left_over amount ++ 10 ∷ []

abbrev pub own_line : Amount → List ℕ
own_line amount = codes "own" ++ amount_fields amount ++ 10 ∷ []

-- the plan, the host, and its own lists
abbrev pub head_lines : HostProgram → Amounts → List ℕ
head_lines program amounts =
    codes "plan " ++ key_text program.plan.bytes ++ codes "\nhost " ++ name_at program.hosts program.me.0 ++ 10 ∷ []
    ++ inputs_line amounts.inputs ++ own_line amounts.own

abbrev pub kind_line : (peer kind : List ℕ) → Amount → List ℕ
kind_line peer kind amount = peer ++ kind ++ amount_fields amount ++ 10 ∷ []

abbrev pub nothing : Amount
nothing = record { takes = 0; has = 0 }

abbrev pub nothing_shared : PeerAmounts
nothing_shared = record { muls = nothing; ands = nothing; pairs = nothing }

-- a line for each kind that is shared with a peer; a host shares none with itself
abbrev pub peer_lines : (names : List (List ℕ)) → (me : ℕ) → List PeerAmounts → (peer : ℕ) → List ℕ
peer_lines names me shared peer =
    if nat_eq peer me then [] else
    kind_line (name_at names peer) (codes " mul") (slice_index_or shared peer nothing_shared).muls
    ++ kind_line (name_at names peer) (codes " and") (slice_index_or shared peer nothing_shared).ands
    ++ kind_line (name_at names peer) (codes " pair") (slice_index_or shared peer nothing_shared).pairs

abbrev pub shared_lines : (names : List (List ℕ)) → (me : ℕ) → List PeerAmounts → List ℕ
shared_lines names me shared = texts_below (peer_lines names me shared) (length names)

abbrev pub use_of : (used : Bool) → List ℕ
use_of true = codes ", used\n"
use_of false = codes ", unused\n"

-- a deal of version 1 is for tries; one of version 2 is used once
abbrev pub dealing_of : Option Secrets → (used : Bool) → List ℕ
dealing_of None used = codes ", for tries\n"
dealing_of (Some secrets) used = codes ", dealing " ++ key_text secrets.id ++ use_of used

abbrev pub deal_line : Loaded → (used : Bool) → List ℕ
deal_line loaded used = codes "deal of " ++ name_at loaded.program.hosts loaded.program.me.0 ++ dealing_of loaded.dealt.secrets used

abbrev pub check_text : Loaded → Amounts → (used : Bool) → List ℕ
check_text loaded amounts used =
    head_lines loaded.program amounts ++ shared_lines loaded.program.hosts loaded.program.me.0 amounts.shared ++ deal_line loaded used

-- ---- how it ends

-- A used deal comes first, as `host` looks for its mark before it runs.
abbrev pub end_of : CheckWords → (used : Bool) → Option HostStatus → Status
end_of words true short = status.DealUsed words.deal
end_of words false (Some short) = status.Host short
end_of words false None = status.Ended

-- where the text could not be written, that is the status
abbrev pub end_after : Result (Unit {0}) Failed → Status → Status
end_after (Ok done) end = end
end_after (Err fault) end = status.WriteFault

-- ---- whether the deal was used

-- a look that fails is a fault of the deal's file
abbrev pub seen_by : (deal : List ℕ) → Result Bool CallFault → Result Bool Status
seen_by deal (Ok used) = Ok used
seen_by deal (Err call_fault.Failed) = Err (status.ReadFault deal)
seen_by deal (Err call_fault.Memory) = Err status.Memory

-- The mark of a deal of version 2 is looked for, at the place where `host` takes it. One of version 1 has none, and no mark is asked for.
pub data LooksFor (words : CheckWords) (loaded : Loaded) (marks marks_now : MarksView) : Result Bool Status → Type 0 where
  NoMark : loaded.dealt.secrets ≡ None → marks_now ≡ marks → LooksFor words loaded marks marks_now (Ok false)
  NoRoom : marks_now ≡ marks → LooksFor words loaded marks marks_now (Err status.Memory)
  Looked : (secrets : Secrets) (looked : Result Bool CallFault) → loaded.dealt.secrets ≡ Some secrets
      → Looks words.deal (mark_name secrets.id loaded.program.me.0) marks marks_now looked
      → LooksFor words loaded marks marks_now (seen_by words.deal looked)

-- ---- the command

-- Memory runs out; or the text is written, as far as the output takes it.
pub data TellsFindings (words : CheckWords) (loaded : Loaded) (used : Bool) (out out_now : SinkView) : Status → Type 0 where
  NotTold : out_now ≡ out → TellsFindings words loaded used out out_now status.Memory
  Told : (written : Result (Unit {0}) Failed) → WritesAll (check_text loaded (amounts_in loaded) used) out out_now written
      → TellsFindings words loaded used out out_now (end_after written (end_of words used (first_short (amounts_in loaded))))

-- The files are not read; or the mark is not seen; or it is told what was found.
pub data HostChecks (words : CheckWords) (files files_now : FilesView) (marks marks_now : MarksView) (out out_now : SinkView) : Status → Type 0 where
  NotRead : (refusal : Status) → LoadsFiles words files files_now (Err refusal) → marks_now ≡ marks → out_now ≡ out
      → HostChecks words files files_now marks marks_now out out_now refusal
  NotSeen : (loaded : Loaded) (refusal : Status) → LoadsFiles words files files_now (Ok loaded)
      → LooksFor words loaded marks marks_now (Err refusal) → out_now ≡ out
      → HostChecks words files files_now marks marks_now out out_now refusal
  Checked : (loaded : Loaded) (used : Bool) (end : Status) → LoadsFiles words files files_now (Ok loaded)
      → LooksFor words loaded marks marks_now (Ok used) → TellsFindings words loaded used out out_now end
      → HostChecks words files files_now marks marks_now out out_now end
