-- The file from whose bytes more is said of a status.
use Rattle.std.specs.Prelude.{◌≡◌, ℕ, List, [], ◌∷◌, Option, Some, None, codes, if◌then◌else◌, slice_get}
use Rattle.std.specs.Option.{option_map_or}
use Rattle.std.specs.Str.{bytes_eq}
use Rattle.vd_base.specs.Limits.{most_source_bytes, most_inputs_bytes, most_schedule_bytes}
use Rattle.vd_parser.specs.declared.fault.ParseFault.{ParseFault}
use Rattle.vd_report.specs.declared.fault.ReadFault.{ReadFault}
use Rattle.vd_cmd_plan.specs.declared.status.Status.{Status}
use Rattle.vd_cmd_plan.specs.declared.status.Status.TheVariants as status
use Rattle.vd_diag_terminal.specs.declared.files.Reading.{Reading}

-- the first word of a command line names the command
abbrev pub command : List (List ℕ) → List ℕ
command words = option_map_or (λ word. word) (slice_get words 0) []

-- the words with the places that they have in `host`: those of `host-within` have a limit besides, in the place of the command
abbrev pub placed : List (List ℕ) → List (List ℕ)
placed [] = []
placed (word ∷ words) = if bytes_eq word (codes "host-within") then words else word ∷ words

abbrev pub word_at : List (List ℕ) → ℕ → Option (List ℕ)
word_at words place = slice_get (placed words) place

abbrev pub source : Reading
source = record { word = 1; limit = most_source_bytes }

abbrev pub inputs : Reading
inputs = record { word = 2; limit = most_inputs_bytes }

abbrev pub schedule : Reading
schedule = record { word = 4; limit = most_schedule_bytes }

-- the source; none of this command, whose words name none
abbrev pub source_unless : List ℕ → List (List ℕ) → Option Reading
source_unless other words = if bytes_eq (command words) other then None else Some source

-- the inputs; none of `excuse`, whose words name two files of inputs
abbrev pub inputs_of : List (List ℕ) → Option Reading
inputs_of words = if bytes_eq (command words) (codes "excuse") then None else Some inputs

-- `trial` makes its source
abbrev pub reading_of : List (List ℕ) → Status → Option Reading
reading_of words (status.Syntax fault) = source_unless (codes "trial") words
reading_of words (status.Names fault) = source_unless (codes "trial") words
reading_of words (status.Flow fault) = source_unless (codes "trial") words
reading_of words (status.NoAssignment form) = source_unless (codes "trial") words
reading_of words (status.Spent budget form) = source_unless (codes "trial") words
reading_of words (status.InputText fault) = inputs_of words
reading_of words (status.ScheduleText fault) = Some schedule
reading_of words status = None

-- the name of the file that is shown for a status
abbrev pub shown_file : List (List ℕ) → Status → Option (List ℕ)
shown_file words end = option_map_or (λ reading. word_at words reading.word) (reading_of words end) None

-- Of each file of `replay SOURCE INPUTS PREFIX SCHEDULE` a fault of its text is shown in that file; so is one of the inputs of
-- `host PROGRAM INPUTS ..`, also behind `host-within SECONDS`, and of `check PROGRAM INPUTS DEAL`.
pub record FaultsAreShownInTheirFiles : Type 0 where
  pub sources : (s i p t : List ℕ) (fault : ParseFault) → shown_file (codes "replay" ∷ s ∷ i ∷ p ∷ t ∷ []) (status.Syntax fault) ≡ Some s
  pub inputs : (s i p t : List ℕ) (fault : ReadFault) → shown_file (codes "replay" ∷ s ∷ i ∷ p ∷ t ∷ []) (status.InputText fault) ≡ Some i
  pub schedules : (s i p t : List ℕ) (fault : ReadFault) → shown_file (codes "replay" ∷ s ∷ i ∷ p ∷ t ∷ []) (status.ScheduleText fault) ≡ Some t
  pub hosts : (p i : List ℕ) (more : List (List ℕ)) (fault : ReadFault) → shown_file (codes "host" ∷ p ∷ i ∷ more) (status.InputText fault) ≡ Some i
  pub within : (s p i : List ℕ) (more : List (List ℕ)) (fault : ReadFault)
      → shown_file (codes "host-within" ∷ s ∷ p ∷ i ∷ more) (status.InputText fault) ≡ Some i
  pub checks : (p i d : List ℕ) (fault : ReadFault) → shown_file (codes "check" ∷ p ∷ i ∷ d ∷ []) (status.InputText fault) ≡ Some i
