-- What is printed as JSON has no number that is not whole.
use Rattle.std.proofs.Common.{◌≡◌, ℕ, Bool, false, ◌||◌, List, [], ◌∷◌, ◌++◌, Option, Some, None, refl, ap, ◌∙◌}
use Rattle.serde_json.specs.Data.{Data}
use Rattle.serde_json.specs.Written.{compact_text, has_float, items_have_float}
use Rattle.vd_cmd_data.specs.declared.readings.Reading.{Reading}
use Rattle.vd_cmd_data.specs.ReportText.{json_text, outputs_data, reading_data, report_data, shown_data, truth_of}

value_whole : (word : ℕ) (truth : Option Bool) → has_float (shown_data word truth) ≡ false
value_whole word None = refl
value_whole word (Some b) = refl

reading_whole : (reading : Reading) → has_float (reading_data reading) ≡ false
reading_whole reading = ap (λ (b : Bool). b || false) (value_whole reading.word (truth_of reading.is_bool reading.word))

readings_whole : (readings : List Reading) → items_have_float (outputs_data readings) ≡ false
readings_whole [] = refl
readings_whole (reading ∷ more) = ap (λ (b : Bool). b || items_have_float (outputs_data more)) (reading_whole reading) ∙ readings_whole more

pub no_float : (host : List ℕ) (readings : List Reading) → has_float (report_data host readings) ≡ false
no_float host readings = ap (λ (b : Bool). b || false) (readings_whole readings)

-- what is printed of data that are those of a report, with the end of its line
pub line_is : (host : List ℕ) (readings : List Reading) (d : Data) (text : List ℕ) → d ≡ report_data host readings → (has_float d ≡ false → text ≡ compact_text d)
    → text ++ 10 ∷ [] ≡ json_text host readings
line_is host readings d text is written =
    ap (λ (t : List ℕ). t ++ 10 ∷ []) (written (ap has_float is ∙ no_float host readings) ∙ ap compact_text is)
