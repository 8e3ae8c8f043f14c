-- What the stream gains when more is said of a status.
use Rattle.std.specs.Prelude.{◌≡◌, ℕ, Bool, false, List, Result, Ok, Err}
use Rattle.vd_outside.specs.Files.{FilesView}
use Rattle.vd_outside.specs.Sink.{SinkView}
use Rattle.vd_cmd_plan.specs.Lines.{Says}
use Rattle.vd_cmd_plan.specs.declared.status.Status.{Status}
use Rattle.vd_diag.specs.declared.fault.TellFault.{TellFault}
use Rattle.vd_diag_terminal.specs.Said.{IsSaid}
use Rattle.vd_diag_terminal.specs.declared.telling.Destination.{Destination}
use Rattle.vd_diag_terminal.specs.declared.telling.Destination.TheVariants.{Asked, File, Terminal}

-- the text goes to the stream, whole unless the stream failed; nothing where there was no memory for it
abbrev pub IsWritten : Result (List ℕ) TellFault → SinkView → SinkView → Result (Unit {0}) TellFault → Type 0
IsWritten (Ok text) before now result = (result ≡ Ok tt) × Says text before now
IsWritten (Err fault) before now result = (result ≡ Err fault) × (now ≡ before)

pub record SaysMore (coloured : Bool) (words : List (List ℕ)) (status : Status) (before now : FilesView) (err_before err_now : SinkView) (result : Result (Unit {0}) TellFault) : Type 0 where
  pub said : Result (List ℕ) TellFault
  pub is : IsSaid coloured words status before now said
  pub written : IsWritten said err_before err_now result

-- what goes into a file or a pipe is the line of the status and no more, unless more is asked for
abbrev pub SaysTo : Destination → List (List ℕ) → Status → FilesView → FilesView → SinkView → SinkView → Result (Unit {0}) TellFault → Type 0
SaysTo File words status before now err_before err_now result = (now ≡ before) × (err_now ≡ err_before) × (result ≡ Ok tt)
SaysTo Asked words status before now err_before err_now result = SaysMore false words status before now err_before err_now result
SaysTo (Terminal coloured) words status before now err_before err_now result = SaysMore coloured words status before now err_before err_now result
