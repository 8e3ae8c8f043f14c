-- What questions are answered with, as JSON. The members of an object stand in the order of their keys.
use Rattle.std.specs.Prelude.{ℕ, ℤ, List, map, codes}
use Rattle.serde_json.specs.Data.{Data, unsigned, null, number, string, array, object, Items, no_items, item, member, no_members}
use Rattle.serde_json.specs.Find.{of_integer}
use Rattle.serde_json.specs.View.{items_of}
use Rattle.vd_lsp_wire.specs.declared.place.Place.{Place}
use Rattle.vd_lsp_messages.specs.declared.kinds.Answer.{Answer}
use Rattle.vd_lsp_messages.specs.declared.kinds.Answer.TheVariants as answer
use Rattle.vd_lsp_messages.specs.declared.kinds.Edits.{Edits}
use Rattle.vd_lsp_messages.specs.declared.kinds.Range.{Range}
use Rattle.vd_lsp_messages.specs.declared.kinds.Symbol.{Symbol}
use Rattle.vd_lsp_messages.specs.declared.kinds.Word.{Word}

abbrev pub count : ℕ → Data
count n = number (unsigned n)

abbrev pub one : Data → Data
one value = array (item value no_items)

abbrev pub place_data : Place → Data
place_data place = object (member (codes "character") (count place.column) (member (codes "line") (count place.line) no_members))

abbrev pub range_data : Place → Place → Data
range_data start end = object (member (codes "end") (place_data end) (member (codes "start") (place_data start) no_members))

abbrev pub ranged : Range → Data
ranged range = range_data range.start range.end

-- a range of the document with this name
abbrev pub location_data : List ℕ → Range → Data
location_data uri range = object (member (codes "range") (ranged range) (member (codes "uri") (string uri) no_members))

abbrev pub locations_data : List ℕ → List Range → Items
locations_data uri ranges = items_of (map (location_data uri) ranges)

abbrev pub edit_data : List ℕ → Range → Data
edit_data word range = object (member (codes "newText") (string word) (member (codes "range") (ranged range) no_members))

abbrev pub edit_items : List ℕ → List Range → Items
edit_items word ranges = items_of (map (edit_data word) ranges)

abbrev pub version_data : List ℕ → ℤ → Data
version_data uri version = object (member (codes "uri") (string uri) (member (codes "version") (number (of_integer version)) no_members))

abbrev pub change_data : Edits → Data
change_data edits =
    object (member (codes "edits") (array (edit_items edits.word edits.ranges))
    (member (codes "textDocument") (version_data edits.uri edits.version) no_members))

abbrev pub edits_data : Edits → Data
edits_data edits = object (member (codes "documentChanges") (one (change_data edits)) no_members)

abbrev pub symbol_data : Symbol → Data
symbol_data symbol =
    object (member (codes "kind") (count symbol.word.sort)
    (member (codes "name") (string symbol.word.text)
    (member (codes "range") (ranged symbol.range)
    (member (codes "selectionRange") (ranged symbol.range) no_members))))

abbrev pub symbols_data : List Symbol → Items
symbols_data symbols = items_of (map symbol_data symbols)

abbrev pub word_data : Word → Data
word_data word = object (member (codes "kind") (count word.sort) (member (codes "label") (string word.text) no_members))

abbrev pub words_data : List Word → Items
words_data words = items_of (map word_data words)

abbrev pub contents_data : List ℕ → Data
contents_data text = object (member (codes "kind") (string (codes "plaintext")) (member (codes "value") (string text) no_members))

abbrev pub said_data : List ℕ → Range → Data
said_data text range = object (member (codes "contents") (contents_data text) (member (codes "range") (ranged range) no_members))

abbrev pub answer_data : Answer → Data
answer_data answer.Nothing = null
answer_data (answer.Places uri ranges) = array (locations_data uri ranges)
answer_data (answer.Edits edits) = edits_data edits
answer_data (answer.Symbols symbols) = array (symbols_data symbols)
answer_data (answer.Words words) = array (words_data words)
answer_data (answer.Said text range) = said_data text range
