-- The members of a message.
use Rattle.std.specs.Prelude.{ℕ, ℤ, Bool, ◌||◌, List, Option, Some, None, codes, is_some, option_map, option_and_then}
use Rattle.std.specs.Option.{option_map_or}
use Rattle.serde_json.specs.Data.{Data, Items, no_items, item}
use Rattle.serde_json.specs.Find.{get, as_str, as_array, as_number, as_i64}
use Rattle.vd_lsp_messages.specs.declared.kinds.Id.{Id}
use Rattle.vd_lsp_messages.specs.declared.kinds.Id.TheVariants as id
use Rattle.vd_lsp_messages.specs.declared.kinds.Document.{Document}

abbrev pub text_at : List ℕ → Data → Option (List ℕ)
text_at key message = option_and_then as_str (get key message)

abbrev pub number_of : Data → Option ℤ
number_of value = option_and_then as_i64 (as_number value)

abbrev pub name_of : Data → Option (List ℕ)
name_of message = text_at (codes "method") message

abbrev pub has_id : Data → Bool
has_id message = is_some (get (codes "id") message)

abbrev pub is_answer : Data → Bool
is_answer message = is_some (get (codes "result") message) || is_some (get (codes "error") message)

-- a text or a whole number of 64 bits
abbrev pub id_from : Data → Id
id_from value = option_map_or id.Text (as_str value) (option_map_or id.Number (number_of value) id.Null)

abbrev pub id_of : Data → Id
id_of message = option_map_or id_from (get (codes "id") message) id.Null

abbrev pub document_of : Data → Option Data
document_of message = option_and_then (get (codes "textDocument")) (get (codes "params") message)

abbrev pub uri_of : Data → Option (List ℕ)
uri_of message = option_and_then (text_at (codes "uri")) (document_of message)

abbrev pub version_of : Data → Option ℤ
version_of message = option_and_then (λ document. option_and_then number_of (get (codes "version") document)) (document_of message)

abbrev pub opened_text : Data → Option (List ℕ)
opened_text message = option_and_then (text_at (codes "text")) (document_of message)

unfoldable pub last_item : Items → Option Data
last_item no_items = None
last_item (item d no_items) = Some d
last_item (item d (item e es)) = last_item (item e es)

abbrev pub changes_of : Data → Option Items
changes_of message = option_and_then (λ params. option_and_then as_array (get (codes "contentChanges") params)) (get (codes "params") message)

-- each change gives the whole text, so the last one counts
abbrev pub changed_text : Data → Option (List ℕ)
changed_text message = option_and_then (λ changes. option_and_then (text_at (codes "text")) (last_item changes)) (changes_of message)

-- a document with this text, where all its parts are there
abbrev pub with_text : Data → Option (List ℕ) → Option Document
with_text message text =
    option_and_then (λ text. option_and_then (λ uri. option_map (λ version. record { uri = uri; version = version; text = text })
    (version_of message)) (uri_of message)) text

abbrev pub opened_document : Data → Option Document
opened_document message = with_text message (opened_text message)

abbrev pub changed_document : Data → Option Document
changed_document message = with_text message (changed_text message)
