-- What a file tells of a host's words is refused as that, and as nothing else.
use Rattle.std.proofs.Common.{◌≡◌, ℕ, ◌-◌, List, [], ◌∷◌, length, take, Option, Some, None, Result, Ok, Err, nat_le}
use Rattle.std.specs.Prelude.{codes}
use Rattle.std.specs.Option.{option_map_or}
use Rattle.std.specs.Str.{bytes_eq}
use Rattle.vd_base.specs.HostSets.{host}
use Rattle.vd_base.specs.Lexical.{number_of}
use Rattle.vd_base.specs.declared.ids.HostId.{HostId}
use Rattle.vd_report.specs.Hosts.{host_of}
use Rattle.vd_report.specs.LineWords.{line_words}
use Rattle.vd_cmd.specs.declared.command.ReportWords.{ReportWords}
use Rattle.vd_cmd_plan.specs.declared.status.Status.{Status}
use Rattle.vd_cmd_plan.specs.declared.status.Status.TheVariants.{Ended, NoHost, Report}
use Rattle.vd_cmd_plan.specs.declared.status.ReportFault.{ReportFault}
use Rattle.vd_cmd_plan.specs.declared.status.ReportFault.TheVariants as fault
use Rattle.vd_cmd_choice.specs.declared.programs.SourceProgram.{SourceProgram}
use Rattle.vd_cmd_depends.specs.Depending.{as_host}
use Rattle.vd_cmd_data.specs.declared.outputs.Place.{Place}
use Rattle.vd_cmd_data.specs.declared.readings.Reading.{Reading}
use Rattle.vd_cmd_data.specs.declared.readings.Seen.{Seen}
use Rattle.vd_cmd_data.specs.declared.spans.Span.{Span}
use Rattle.vd_cmd_data.specs.Outputs.{outputs_count, outputs_of}
use Rattle.vd_cmd_data.specs.Printed.{absent, as_number, begins_line, between, counted_by, counted_in, is_ended, is_whole, lined, number_in, numbers_in, printed_words, state_in, told_in}
use Rattle.vd_cmd_data.specs.Readings.{as_reading, named, reading_at, readings_of, seen_at}
use Rattle.vd_cmd_data.specs.Reporting.{named_words, readings_in}
use Rattle.vd_cmd_data.specs.Spans.{is_within}
use Rattle.vd_cmd_data.proofs.Refusing.{Refuses, as_refusal, by_test, each, go_on}

number : (file : List ℕ) (found : Option ℕ) → Refuses (as_number file found)
number file (Some n) = tt
number file None = λ e. cc e

numbers : (file : List ℕ) (words : List (List ℕ)) → Refuses (numbers_in file words)
numbers file words = each (λ _ word. number_in file word) (λ n word. number file (number_of word)) 1 words

counted : (file : List ℕ) (count : Option ℕ) (words : List (List ℕ)) → Refuses (counted_by file count words)
counted file None words = λ e. cc e
counted file (Some count) words = by_test (nat_le count (length words)) (numbers_in file (take count words)) (Err (Report file fault.Cut)) (numbers file (take count words)) (λ e. cc e)

of_count : (file : List ℕ) (words : List (List ℕ)) → Refuses (counted_in file words)
of_count file [] = λ e. cc e
of_count file (count ∷ words) = counted file (number_of count) words

of_state : (file : List ℕ) (words : List (List ℕ)) → Refuses (state_in file words)
of_state file [] = λ e. cc e
of_state file (state ∷ words) = by_test (bytes_eq state (codes "ended")) (counted_in file words) (Err (Report file fault.Cut)) (of_count file words) (λ e. cc e)

of_line : (file host : List ℕ) (cause : ReportFault) (words : List (List ℕ)) → Refuses (lined file host cause words)
of_line file host cause [] = λ e. cc e
of_line file host cause (word ∷ words) = by_test (begins_line host word words) (state_in file words) (lined file host cause words) (of_state file words) (of_line file host cause words)

of_words : (file host : List ℕ) (words : List (List ℕ)) → Refuses (told_in file host words)
of_words file host words = by_test (is_whole words) (numbers_in file (between words)) (lined file host (absent words) words) (numbers file (between words)) (of_line file host (absent words) words)

of_bytes : (file host bytes : List ℕ) → Refuses (printed_words file host bytes)
of_bytes file host bytes = by_test (is_ended bytes) (told_in file host (line_words bytes)) (Err (Report file fault.Cut)) (of_words file host (line_words bytes)) (λ e. cc e)

reading : (file : List ℕ) (word : ℕ) (seen : Seen) → Refuses (as_reading file word seen)
reading file word seen = by_test seen.is_some (Ok (record { name = seen.name; is_bool = seen.is_bool; word = word })) (Err (Report file fault.Words)) tt (λ e. cc e)

of_readings : (file : List ℕ) (count : Span) (places : List Place) (words : List ℕ) → Refuses (readings_of file count places words)
of_readings file count places words =
    by_test (is_within (length words) count) (named file places words) (Err (Report file fault.Words))
    (each (reading_at file places (length words)) (λ n word. reading file word (seen_at (record { before = n - 1; after = length words - n }) places)) 1 words) (λ e. cc e)

pub readings_never : (words : ReportWords) (loaded : SourceProgram) (h : HostId) (bytes : List ℕ) (status : Status) → readings_in words loaded h bytes ≡ Err status → status ≡ Ended → ⊥
readings_never words loaded h bytes status is =
    as_refusal (readings_in words loaded h bytes) status
    (go_on {A = List ℕ} {B = List Reading} (printed_words words.file words.host bytes) (named_words words.file loaded h) (of_bytes words.file words.host bytes)
    (λ told. of_readings words.file (outputs_count loaded.program h) (outputs_of loaded.text loaded.program h) told)) is

of_name : (name : List ℕ) (place : Option ℕ) → Refuses (option_map_or (λ n. Ok (host n)) place (Err (NoHost name)))
of_name name (Some n) = tt
of_name name None = λ e. cc e

pub host_never : (names : List (List ℕ)) (name : List ℕ) (status : Status) → as_host names name ≡ Err status → status ≡ Ended → ⊥
host_never names name status is = as_refusal (as_host names name) status (of_name name (host_of names name)) is
