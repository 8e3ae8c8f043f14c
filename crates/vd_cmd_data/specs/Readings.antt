-- The words that a host printed, each with the name of its output.
use Rattle.std.specs.Prelude.{ℕ, ◌-◌, Bool, true, false, ◌&&◌, not, List, [], ◌++◌, length, Result, Ok, Err, codes, if◌then◌else◌}
use Rattle.std.specs.List.{fold}
use Rattle.std.specs.Str.{bytes_eq}
use Rattle.vd_cmd_plan.specs.declared.status.Status.{Status}
use Rattle.vd_cmd_plan.specs.declared.status.Status.TheVariants.{Report}
use Rattle.vd_cmd_plan.specs.declared.status.ReportFault.TheVariants.{Words}
use Rattle.vd_cmd_data.specs.declared.outputs.Place.{Place}
use Rattle.vd_cmd_data.specs.declared.readings.Reading.{Reading}
use Rattle.vd_cmd_data.specs.declared.readings.Seen.{Seen}
use Rattle.vd_cmd_data.specs.declared.readings.Spot.{Spot}
use Rattle.vd_cmd_data.specs.declared.spans.Span.{Span}
use Rattle.vd_cmd_data.specs.Spans.{is_within}
use Rattle.vd_cmd_data.specs.Tables.{each_from}

-- a word can be that of an output, by how many stand before it and behind it
abbrev pub fits : Spot → Place → Bool
fits spot place = is_within spot.before place.around.before && is_within spot.after place.around.after

-- names with ` or ` between them; one that is the only one is not put there again
abbrev pub with_name : (names name : List ℕ) → (is_some : Bool) → List ℕ
with_name names name is_some =
    if not is_some then names ++ name
    else if bytes_eq names name then names
    else names ++ codes " or " ++ name

abbrev pub after_place : Spot → Seen → Place → Seen
after_place spot seen place =
    if fits spot place
    then record { name = with_name seen.name place.name seen.is_some; is_bool = seen.is_bool && place.is_bool; is_some = true }
    else seen

abbrev pub nothing_seen : Seen
nothing_seen = record { name = []; is_bool = true; is_some = false }

-- all outputs of which a word can be
abbrev pub seen_at : Spot → List Place → Seen
seen_at spot places = fold (after_place spot) nothing_seen places

abbrev pub as_reading : (file : List ℕ) → (word : ℕ) → Seen → Result Reading Status
as_reading file word seen =
    if seen.is_some then Ok (record { name = seen.name; is_bool = seen.is_bool; word = word }) else Err (Report file Words)

-- the word with this number, from 1 on, of so many
abbrev pub reading_at : (file : List ℕ) → List Place → (count number word : ℕ) → Result Reading Status
reading_at file places count number word = as_reading file word (seen_at (record { before = number - 1; after = count - number }) places)

abbrev pub named : (file : List ℕ) → List Place → (words : List ℕ) → Result (List Reading) Status
named file places words = each_from (reading_at file places (length words)) 1 words

-- where a run can tell so many words
abbrev pub readings_of : (file : List ℕ) → (count : Span) → List Place → (words : List ℕ) → Result (List Reading) Status
readings_of file count places words = if is_within (length words) count then named file places words else Err (Report file Words)
