-- What is asked of a document.
use Rattle.std.specs.Prelude.{ℕ, if◌then◌else◌, List, Option, Some, None, codes, option_map, option_and_then}
use Rattle.std.specs.Str.{bytes_eq}
use Rattle.serde_json.specs.Data.{Data}
use Rattle.serde_json.specs.Find.{get, as_number, as_u64}
use Rattle.vd_lsp_wire.specs.declared.place.Place.{Place}
use Rattle.vd_lsp_messages.specs.Members.{text_at, uri_of}
use Rattle.vd_lsp_messages.specs.declared.kinds.Id.{Id}
use Rattle.vd_lsp_messages.specs.declared.kinds.Incoming.{Incoming}
use Rattle.vd_lsp_messages.specs.declared.kinds.Incoming.TheVariants as incoming
use Rattle.vd_lsp_messages.specs.declared.kinds.Question.{Question}
use Rattle.vd_lsp_messages.specs.declared.kinds.Question.TheVariants as question

abbrev pub count_of : List ℕ → Data → Option ℕ
count_of key place = option_and_then (λ value. option_and_then as_u64 (as_number value)) (get key place)

abbrev pub position_of : Data → Option Data
position_of message = option_and_then (get (codes "position")) (get (codes "params") message)

abbrev pub place_of : Data → Option Place
place_of message =
    option_and_then (λ place. option_and_then (λ line. option_map (λ column. record { line = line; column = column })
    (count_of (codes "character") place)) (count_of (codes "line") place)) (position_of message)

abbrev pub word_of : Data → Option (List ℕ)
word_of message = option_and_then (text_at (codes "newName")) (get (codes "params") message)

abbrev pub definition_of : Data → Option Question
definition_of message = option_map question.Definition (place_of message)

abbrev pub references_of : Data → Option Question
references_of message = option_map question.References (place_of message)

abbrev pub rename_of : Data → Option Question
rename_of message = option_and_then (λ place. option_map (question.Rename place) (word_of message)) (place_of message)

abbrev pub hover_of : Data → Option Question
hover_of message = option_map question.Hover (place_of message)

-- what the request of this name asks of a document, if it asks something of one
abbrev pub question_of : List ℕ → Data → Option Question
question_of name message =
    if bytes_eq name (codes "textDocument/definition") then definition_of message
    else if bytes_eq name (codes "textDocument/references") then references_of message
    else if bytes_eq name (codes "textDocument/rename") then rename_of message
    else if bytes_eq name (codes "textDocument/documentSymbol") then Some question.Symbols
    else if bytes_eq name (codes "textDocument/completion") then Some question.Completion
    else if bytes_eq name (codes "textDocument/hover") then hover_of message
    else None

-- a request with this question, where a document is named
abbrev pub asked : Id → Option (List ℕ) → Option Question → Incoming
asked id (Some uri) (Some question) = incoming.Asked id uri question
asked id (Some uri) None = incoming.Unknown id
asked id None question = incoming.Unknown id

abbrev pub asked_of : Data → Id → Option Question → Incoming
asked_of message id question = asked id (uri_of message) question

abbrev pub other_request : List ℕ → Data → Id → Incoming
other_request name message id = asked_of message id (question_of name message)
