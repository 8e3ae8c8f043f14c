-- What wraps in a run of `clear`.
use Rattle.std.specs.Prelude.{◌≡◌, ℕ, List, Ok}
use Rattle.vd_core.specs.declared.source.Source.{Source}
use Rattle.vd_parser.specs.Outcomes.{IsParse}
use Rattle.vd_report.specs.InputsText.{GivesInputs}
use Rattle.vd_semantics.specs.SourceMeaning.{host_names}
use Rattle.vd_semantics.specs.Wraps.{source_wraps}
use Rattle.vd_semantics.specs.declared.wraps.Wrap.{Wrap}

-- in a run of this source over the words that a text hands in
abbrev pub IsWhatWrapsIn : Source → (words : List ℕ) → List Wrap → Type 0
IsWhatWrapsIn source words wraps =
    (inputs : List (List ℕ)) → GivesInputs (host_names source.hosts) words inputs → wraps ≡ source_wraps source inputs

-- in a run of the source that a text is
abbrev pub IsWhatWraps : (bytes words : List ℕ) → List Wrap → Type 0
IsWhatWraps bytes words wraps = (source : Source) → IsParse bytes (Ok source) → IsWhatWrapsIn source words wraps
