-- What the body of a message asks for.
use Rattle.std.specs.Prelude.{ℕ, ◌≡◌, if◌then◌else◌, List, codes, IsUtf8}
use Rattle.std.specs.Option.{option_map_or}
use Rattle.std.specs.Str.{bytes_eq}
use Rattle.serde_json.specs.Data.{Data}
use Rattle.serde_json.specs.Read.{read}
use Rattle.vd_lsp_messages.specs.Members.{changed_document, has_id, id_of, is_answer, name_of, opened_document, uri_of}
use Rattle.vd_lsp_messages.specs.Questions.{other_request}
use Rattle.vd_lsp_messages.specs.declared.kinds.Id.{Id}
use Rattle.vd_lsp_messages.specs.declared.kinds.Incoming.{Incoming}
use Rattle.vd_lsp_messages.specs.declared.kinds.Incoming.TheVariants as incoming

abbrev pub request_of : List ℕ → Data → Id → Incoming
request_of name message id =
    if bytes_eq name (codes "initialize") then incoming.Initialize id
    else if bytes_eq name (codes "shutdown") then incoming.Shutdown id
    else other_request name message id

abbrev pub opened_of : Data → Incoming
opened_of message = option_map_or incoming.Opened (opened_document message) incoming.Passed

abbrev pub changed_of : Data → Incoming
changed_of message = option_map_or incoming.Changed (changed_document message) incoming.Passed

abbrev pub closed_of : Data → Incoming
closed_of message = option_map_or incoming.Closed (uri_of message) incoming.Passed

abbrev pub notice_of : List ℕ → Data → Incoming
notice_of name message =
    if bytes_eq name (codes "textDocument/didOpen") then opened_of message
    else if bytes_eq name (codes "textDocument/didChange") then changed_of message
    else if bytes_eq name (codes "textDocument/didClose") then closed_of message
    else if bytes_eq name (codes "exit") then incoming.Exit
    else incoming.Passed

abbrev pub named : List ℕ → Data → Incoming
named name message = if has_id message then request_of name message (id_of message) else notice_of name message

abbrev pub unnamed : Data → Incoming
unnamed message = if is_answer message then incoming.Passed else incoming.Invalid (id_of message)

-- A message with a method is a request where it has a name, and else a notification.
abbrev pub incoming_of : Data → Incoming
incoming_of message = option_map_or (λ name. named name message) (name_of message) (unnamed message)

-- What a body asks for: as its JSON says, where it is JSON.
pub record IsMessage (body : List ℕ) (asked : Incoming) : Type 0 where
  pub text : IsUtf8 body → asked ≡ option_map_or incoming_of (read body) incoming.Malformed
  pub other : (IsUtf8 body → ⊥) → asked ≡ incoming.Malformed
