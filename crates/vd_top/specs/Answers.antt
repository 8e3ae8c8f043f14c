-- What a run of `labels`, `certify`, `choose`, `draw`, `reveals`, `compile`, `column`, `report` or `deal` has shown, where it ended well.
use Rattle.std.specs.Prelude.{◌≡◌, ℕ, IsTrue, List, ◌++◌, Some}
use Rattle.vd_outside.specs.Files.{FilesView}
use Rattle.vd_outside.specs.Sink.{SinkView}
use Rattle.vd_tape.specs.declared.deal_items.deal.Counts.{Counts}
use Rattle.vd_cmd.specs.Commands.{KeepsLimits, form_of}
use Rattle.vd_cmd.specs.declared.command.Command.{Command}
use Rattle.vd_cmd.specs.declared.command.Command.TheVariants.{KeyDeal, OnFiles}
use Rattle.vd_cmd.specs.declared.command.KeyDealWords.{KeyDealWords}
use Rattle.vd_cmd.specs.declared.command.ColumnWords.{ColumnWords}
use Rattle.vd_cmd.specs.declared.command.FilesCommand.TheVariants.{Certify, Choose, Column, Compile, Deal, Draw, Labels, Report, Reveals}
use Rattle.vd_cmd.specs.declared.command.ReportWords.{ReportWords}
use Rattle.vd_cmd.specs.declared.command.RevealsWords.{RevealsWords}
use Rattle.vd_cmd_plan.specs.declared.status.Status.{Status}
use Rattle.vd_cmd_plan.specs.declared.status.Status.TheVariants.{Ended}
use Rattle.vd_cmd_laws.specs.Answers.{TellsChoice, TellsCompiled, TellsLabels, TellsProof}
use Rattle.vd_cmd_laws.specs.Dealt.{TellsDeal}
use Rattle.vd_cmd_laws.specs.KeyedDealt.{TellsKeyed}
use Rattle.vd_cmd_data.specs.Columns.{TellsColumn}
use Rattle.vd_cmd_data.specs.Reporting.{TellsReport}
use Rattle.vd_cmd_draw.specs.Telling.{TellsDrawing}
use Rattle.vd_cmd_draw.specs.RevealsTelling.{TellsReveals}

-- the bytes that were added to the output are told so
pub record Adds (Tells : List ℕ → Type 0) (out_before out_now : SinkView) : Type 0 where
  pub printed : List ℕ
  pub added : out_now.taken ≡ out_before.taken ++ printed
  pub tells : Tells printed

-- Where the words are those of `labels`, and the files and the output tell what they hold, a run with status 0 has printed the least
-- labelling of the source: a line for each slot.
abbrev pub KeepsLabels : (words : List (List ℕ)) → FilesView → SinkView → SinkView → Status → Type 0
KeepsLabels words before out_before out_now status =
    (source : List ℕ) → form_of words ≡ Some (OnFiles (Labels source)) → IsTrue before.told → IsTrue out_now.told → status ≡ Ended
    → Adds (TellsLabels source before.contents) out_before out_now

-- Where they are those of `certify`, it has printed what a valid list of protocols costs at least, and some does cost, or that there is
-- no valid list.
abbrev pub KeepsProof : (words : List (List ℕ)) → FilesView → SinkView → SinkView → Status → Type 0
KeepsProof words before out_before out_now status =
    (source certificate : List ℕ) → form_of words ≡ Some (OnFiles (Certify source certificate)) → IsTrue before.told → IsTrue out_now.told → status ≡ Ended
    → Adds (TellsProof source before.contents) out_before out_now

-- Where they are those of `choose`, it has printed the valid list of least cost, the first of these in order, with that cost, and of the
-- files that then stand `certify` prints the same cost.
abbrev pub KeepsChoice : (words : List (List ℕ)) → FilesView → FilesView → SinkView → SinkView → Status → Type 0
KeepsChoice words before now out_before out_now status =
    (source : List ℕ) (budget : ℕ) → form_of words ≡ Some (OnFiles (Choose source budget)) → IsTrue before.told → IsTrue out_now.told → status ≡ Ended
    → Adds (TellsChoice source before.contents now.contents) out_before out_now

-- Where they are those of `draw`, it has printed the drawing of that list, and the costs of its rows add up to that of the list.
abbrev pub KeepsDrawing : (words : List (List ℕ)) → FilesView → SinkView → SinkView → Status → Type 0
KeepsDrawing words before out_before out_now status =
    (source : List ℕ) (budget : ℕ) → form_of words ≡ Some (OnFiles (Draw source budget)) → IsTrue before.told → IsTrue out_now.told → status ≡ Ended
    → Adds (TellsDrawing source before.contents) out_before out_now

-- Where they are those of `reveals`, it has printed a line for each word that comes to the host, or to each host, in clear at that list.
abbrev pub KeepsReveals : (words : List (List ℕ)) → FilesView → SinkView → SinkView → Status → Type 0
KeepsReveals words before out_before out_now status =
    (reveals : RevealsWords) → form_of words ≡ Some (OnFiles (Reveals reveals)) → IsTrue before.told → IsTrue out_now.told → status ≡ Ended
    → Adds (TellsReveals reveals before.contents) out_before out_now

-- Where they are those of `compile`, it has printed that list too, and the file of each host stands: the text of its part of the joint
-- code at that list.
abbrev pub KeepsCompiled : (words : List (List ℕ)) → FilesView → FilesView → SinkView → SinkView → Status → Type 0
KeepsCompiled words before now out_before out_now status =
    (source prefix : List ℕ) (budget : ℕ) → form_of words ≡ Some (OnFiles (Compile source prefix budget)) → IsTrue before.told → IsTrue out_now.told → status ≡ Ended
    → Adds (TellsCompiled source prefix before.contents now.contents) out_before out_now

-- Where they are those of `column`, the file is a table that gives rows of words, and it has printed the section of the host with them.
abbrev pub KeepsColumn : (words : List (List ℕ)) → FilesView → SinkView → SinkView → Status → Type 0
KeepsColumn words before out_before out_now status =
    (column : ColumnWords) → form_of words ≡ Some (OnFiles (Column column)) → IsTrue before.told → IsTrue out_now.told → status ≡ Ended
    → Adds (TellsColumn column before.contents) out_before out_now

-- Where they are those of `report`, it has printed the words that the file says the host printed, each with the names of the outputs that
-- can have told it.
abbrev pub KeepsReport : (words : List (List ℕ)) → FilesView → SinkView → SinkView → Status → Type 0
KeepsReport words before out_before out_now status =
    (report : ReportWords) → form_of words ≡ Some (OnFiles (Report report)) → IsTrue before.told → IsTrue out_now.told → status ≡ Ended
    → Adds (TellsReport report before.contents) out_before out_now

-- Where they are those of `deal`, the files that then stand, read back, are consistent deals of all hosts, and `replay` refuses none.
abbrev pub KeepsDeal : (words : List (List ℕ)) → FilesView → FilesView → Status → Type 0
KeepsDeal words before now status =
    (counts : Counts) (key : ℕ) (prefix : List ℕ) → form_of words ≡ Some (OnFiles (Deal counts key prefix)) → IsTrue before.told → status ≡ Ended
    → TellsDeal counts prefix now.contents

-- So they are where the key has 32 bytes; and each names one dealing, and has the keys of the links of its host.
abbrev pub KeepsKeyed : (words : List (List ℕ)) → FilesView → FilesView → Status → Type 0
KeepsKeyed words before now status =
    (deal : KeyDealWords) → form_of words ≡ Some (KeyDeal deal) → IsTrue before.told → status ≡ Ended → (key : List ℕ) × TellsKeyed deal.counts key deal.prefix now.contents

-- words that are run to their end have numbers within the limits
abbrev pub AreWithinLimits : (words : List (List ℕ)) → Status → Type 0
AreWithinLimits words status = (command : Command) → form_of words ≡ Some command → status ≡ Ended → KeepsLimits command
