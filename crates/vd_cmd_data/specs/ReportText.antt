-- What `report` prints: lines, or one JSON object.
use Rattle.std.specs.Prelude.{ℕ, Bool, true, false, List, [], ◌∷◌, ◌++◌, Option, Some, None, map, not, codes, decimal, flat_map, nat_eq, if◌then◌else◌}
use Rattle.std.specs.Str.Lossy.{utf8_lossy}
use Rattle.serde_json.specs.Data.{Data, Items, array, boolean, member, no_members, number, object, string, unsigned}
use Rattle.serde_json.specs.View.{items_of}
use Rattle.serde_json.specs.Written.{compact_text}
use Rattle.vd_cmd_data.specs.declared.readings.Reading.{Reading}

-- what a word is as true or false, where it is shown so
abbrev pub truth_of : (is_bool : Bool) → (word : ℕ) → Option Bool
truth_of is_bool word = if not is_bool then None else if nat_eq word 0 then Some false else if nat_eq word 1 then Some true else None

-- ---- lines

abbrev pub shown_value : (word : ℕ) → Option Bool → List ℕ
shown_value word None = decimal word
shown_value word (Some true) = codes "true"
shown_value word (Some false) = codes "false"

abbrev pub value_text : Reading → List ℕ
value_text reading = shown_value reading.word (truth_of reading.is_bool reading.word)

abbrev pub line_text : Reading → List ℕ
line_text reading = reading.name ++ codes " " ++ value_text reading ++ codes "\n"

abbrev pub lines_text : List Reading → List ℕ
lines_text readings = flat_map line_text readings

-- ---- JSON

abbrev pub shown_data : (word : ℕ) → Option Bool → Data
shown_data word None = number (unsigned word)
shown_data word (Some truth) = boolean truth

abbrev pub value_data : Reading → Data
value_data reading = shown_data reading.word (truth_of reading.is_bool reading.word)

abbrev pub reading_data : Reading → Data
reading_data reading = object (member (codes "name") (string (utf8_lossy reading.name)) (member (codes "value") (value_data reading) no_members))

abbrev pub outputs_data : List Reading → Items
outputs_data readings = items_of (map reading_data readings)

abbrev pub report_data : (host : List ℕ) → List Reading → Data
report_data host readings = object (member (codes "host") (string host) (member (codes "outputs") (array (outputs_data readings)) no_members))

abbrev pub json_text : (host : List ℕ) → List Reading → List ℕ
json_text host readings = compact_text (report_data host readings) ++ 10 ∷ []
