-- That what a host prints, and its line in the report of a replay, are read back as its words.
use Rattle.std.specs.Prelude.{◌≡◌, ℕ, ◌<◌, ◌^◌, true, List, [], ◌∷◌, ◌++◌, Ok, length, flat_map, decimal}
use Rattle.vd_base.specs.Lexical.{is_name}
use Rattle.vd_base.specs.Words.{AreWords}
use Rattle.vd_base.specs.declared.host_state.HostState.TheVariants.{Ended}
use Rattle.vd_host_session.specs.Histories.{ended, listening}
use Rattle.vd_report.specs.ReportLines.{host_line}
use Rattle.vd_cmd_data.specs.Printed.{printed_words}

abbrev pub number_line : ℕ → List ℕ
number_line n = decimal n ++ 10 ∷ []

-- all that a host prints whose program ends
abbrev pub host_text : (words : List ℕ) → List ℕ
host_text words = listening ++ flat_map number_line words ++ ended

pub record RunsAreRead : Type 0 where
  pub by_host : (file host words : List ℕ) → AreWords words → printed_words file host (host_text words) ≡ Ok words
  pub by_line : (file host words : List ℕ) (hosts : List (List ℕ)) → is_name host ≡ true → AreWords words → length words < 2 ^ 32
      → printed_words file host (host_line hosts host (record { state = Ended; printed = words })) ≡ Ok words
