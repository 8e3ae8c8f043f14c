-- The command `deal` for a key that is drawn, and for one that a file has.
use Rattle.std.specs.Prelude.{◌≡◌, ◌≤◌, ℕ, ◌&&◌, ◌||◌, Bool, true, IsTrue, List, ◌∷◌, length, codes, Result, Ok, Err, nat_le, nat_lt, if◌then◌else◌}
use Rattle.std.specs.List.{list_all}
use Rattle.vd_base.specs.declared.faults.CallFault.{CallFault}
use Rattle.vd_base.specs.declared.faults.CallFault.TheVariants as call_fault
use Rattle.vd_outside.specs.Files.{Contents, FilesView}
use Rattle.vd_outside.specs.Sink.{SinkView}
use Rattle.vd_outside.specs.Marks.{Draws, MarksView}
use Rattle.vd_tape.specs.declared.deal_items.deal.Counts.{Counts}
use Rattle.vd_cmd.specs.declared.command.KeyDealWords.{KeyDealWords}
use Rattle.vd_cmd.specs.declared.command.KeySource.TheVariants.{Drawn, InFile}
use Rattle.vd_cmd_plan.specs.Deliver.{stored}
use Rattle.vd_cmd_plan.specs.Plans.{Plan, answer_then, check_then, file_then}
use Rattle.vd_cmd_plan.specs.Runs.{Runs}
use Rattle.vd_cmd_plan.specs.declared.status.Status.{Status}
use Rattle.vd_cmd_plan.specs.declared.status.Status.TheVariants.{Ended, Memory, ReadFault, ShortKey}
use Rattle.vd_cmd_deal.specs.KeyDealing.{key_answer}

-- a byte of a printed text: a letter, a digit, a sign, a blank or an end of a line
abbrev pub is_printed : ℕ → Bool
is_printed b = (nat_le 32 b && nat_lt b 127) || (nat_le 9 b && nat_lt b 14)

-- the bytes are a text, as somebody writes one, and not random
abbrev pub is_written : List ℕ → Bool
is_written bytes = list_all is_printed bytes

-- a key has 32 bytes, and is no text
abbrev pub key_in : (name bytes : List ℕ) → Result (List ℕ) Status
key_in name bytes = if nat_lt (length bytes) 32 || is_written bytes then Err (ShortKey name (length bytes)) else Ok bytes

-- A key that a file has is its bytes, all 32 of them. At most so many are read.
abbrev pub KeysAreWhole : Type 0
KeysAreWhole = (name bytes key : List ℕ) → length bytes ≤ 32 → key_in name bytes ≡ Ok key → (key ≡ bytes) × (length key ≡ 32)

abbrev pub bytes_plan : Counts → (name prefix bytes : List ℕ) → Contents → Plan
bytes_plan counts name prefix bytes = check_then (key_in name bytes) (λ key. answer_then (key_answer counts key prefix))

-- the file is fetched, and the deal of its bytes is made
abbrev pub file_plan : Counts → (name prefix : List ℕ) → Contents → Plan
file_plan counts name prefix = file_then name 32 (bytes_plan counts name prefix)

-- a draw that fails is a fault of a file of this name
abbrev pub not_drawn : List ℕ → CallFault → Status
not_drawn draw call_fault.Failed = ReadFault draw
not_drawn draw call_fault.Memory = Memory

-- A key from a file, or one that the marks draw. Where none is drawn, or there was no memory before, nothing was stored.
pub data RunsKeyDeal (words : KeyDealWords) (files files_now : FilesView) (marks marks_now : MarksView) (out out_now : SinkView) : Status → Type 0 where
  FromFile : (name : List ℕ) (end : Status) → words.key ≡ InFile name → marks_now ≡ marks → Runs true (file_plan words.counts name words.prefix) files files_now out out_now end
      → RunsKeyDeal words files files_now marks marks_now out out_now end
  FromDraw : (key : List ℕ) (end : Status) → words.key ≡ Drawn → Draws marks marks_now (Ok key) → Runs true (answer_then (key_answer words.counts key words.prefix)) files files_now out out_now end
      → RunsKeyDeal words files files_now marks marks_now out out_now end
  NotDrawn : (fault : CallFault) → words.key ≡ Drawn → Draws marks marks_now (Err fault) → files_now ≡ files → out_now ≡ out
      → RunsKeyDeal words files files_now marks marks_now out out_now (not_drawn (codes "draw") fault)
  NoMemory : words.key ≡ Drawn → marks_now ≡ marks → files_now ≡ files → out_now ≡ out → RunsKeyDeal words files files_now marks marks_now out out_now Memory

-- Where a deal whose key is drawn ended well, its files are those of the bytes that the marks drew next, and of no others.
abbrev pub DrawnDealsAreOfTheDraw : Type 0
DrawnDealsAreOfTheDraw =
    (words : KeyDealWords) (files files_now : FilesView) (marks marks_now : MarksView) (out out_now : SinkView) (drawn : List ℕ)
    → RunsKeyDeal words files files_now marks marks_now out out_now Ended → words.key ≡ Drawn
    → IsTrue files.told → IsTrue marks.told → marks.draws ≡ drawn ∷ marks_now.draws
    → files_now.contents ≡ stored (key_answer words.counts drawn words.prefix).stores files.contents
