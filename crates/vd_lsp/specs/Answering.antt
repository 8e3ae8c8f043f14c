-- What a question on a document is answered with.
use Rattle.std.specs.Prelude.{◌≡◌, ℕ, if◌then◌else◌, List, Option, Some, None}
use Rattle.vd_lsp_messages.specs.declared.kinds.Answer.{Answer}
use Rattle.vd_lsp_messages.specs.declared.kinds.Answer.TheVariants as answer
use Rattle.vd_lsp_messages.specs.declared.kinds.Document.{Document}
use Rattle.vd_lsp_messages.specs.declared.kinds.Question.{Question}
use Rattle.vd_lsp_messages.specs.declared.kinds.Question.TheVariants as question
use Rattle.vd_lsp_names.specs.Texts.{AreNamesOf, AreWordsOf}
use Rattle.vd_lsp_names.specs.declared.kinds.Use.{Use}
use Rattle.vd_lsp_wire.specs.declared.place.Place.{Place}
use Rattle.vd_lsp.specs.Hovers.{IsHover}
use Rattle.vd_lsp.specs.Names.{completions, declared_at, definition, edits, is_free, name_at, references, symbols}

-- by the names of its text
abbrev pub ByNames : Document → (List Use → Type 0) → Type 0
ByNames document P = (names : List Use) × AreNamesOf document.text names × P names

-- by the words that stand in its text
abbrev pub ByWords : Document → (List (List ℕ) → Type 0) → Type 0
ByWords document P = (words : List (List ℕ)) × AreWordsOf document.text words × P words

abbrev pub IsRenaming : Document → Place → List ℕ → List (List ℕ) → Option Answer → Type 0
IsRenaming document place word words given =
    ByNames document (λ names. given ≡
    (if is_free words word then Some (edits document names word (declared_at document.text names place)) else None))

-- What a question is answered with: with nothing of a new name that is none, or that stands in the text.
abbrev pub IsAnswer : Document → Question → Option Answer → Type 0
IsAnswer document (question.Definition place) given =
    ByNames document (λ names. given ≡ Some (definition document (declared_at document.text names place)))
IsAnswer document (question.References place) given =
    ByNames document (λ names. given ≡ Some (references document names (declared_at document.text names place)))
IsAnswer document (question.Rename place word) given = ByWords document (λ words. IsRenaming document place word words given)
IsAnswer document question.Symbols given = ByNames document (λ names. given ≡ Some (answer.Symbols (symbols document.text names)))
IsAnswer document question.Completion given = ByWords document (λ words. given ≡ Some (answer.Words (completions words)))
IsAnswer document (question.Hover place) given =
    ByNames document (λ names. (said : Answer) × IsHover document (name_at document.text names place) said × (given ≡ Some said))
