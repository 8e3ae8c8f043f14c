-- The names of a document, by the places of an editor.
use Rattle.std.specs.Prelude.{ℕ, Bool, not, nat_eq, nat_lt, ◌&&◌, ◌||◌, List, [], ◌∷◌, ◌++◌, take, drop, map, Option, Some, None}
use Rattle.std.specs.List.{filter, find}
use Rattle.std.specs.Str.Lossy.{utf8_lossy}
use Rattle.vd_base.specs.Lexical.{is_name, keywords}
use Rattle.vd_base.specs.Names.{is_among}
use Rattle.vd_base.specs.declared.ids.Span.{Span}
use Rattle.vd_lsp_messages.specs.declared.kinds.Answer.{Answer}
use Rattle.vd_lsp_messages.specs.declared.kinds.Answer.TheVariants as answer
use Rattle.vd_lsp_messages.specs.declared.kinds.Document.{Document}
use Rattle.vd_lsp_messages.specs.declared.kinds.Range.{Range}
use Rattle.vd_lsp_messages.specs.declared.kinds.Symbol.{Symbol}
use Rattle.vd_lsp_messages.specs.declared.kinds.Word.{Word}
use Rattle.vd_lsp_names.specs.Asking.{is_declaration, places_of}
use Rattle.vd_lsp_names.specs.declared.kinds.Declared.{Declared}
use Rattle.vd_lsp_names.specs.declared.kinds.Role.{Role}
use Rattle.vd_lsp_names.specs.declared.kinds.Role.TheVariants as role
use Rattle.vd_lsp_names.specs.declared.kinds.Use.{Use}
use Rattle.vd_lsp_wire.specs.Places.{place_of}
use Rattle.vd_lsp_wire.specs.declared.place.Place.{Place}

-- ---- places

abbrev pub is_before : Place → Place → Bool
is_before place other = nat_lt place.line other.line || (nat_eq place.line other.line && nat_lt place.column other.column)

abbrev pub range_of : List ℕ → Span → Range
range_of text span = record { start = place_of text span.start; end = place_of text span.end }

abbrev pub ranges_of : List ℕ → List Span → List Range
ranges_of text spans = map (range_of text) spans

-- a name is at a place where it stands there, or ends
abbrev pub is_at : List ℕ → Place → Use → Bool
is_at text place name = not (is_before place (place_of text name.at.start)) && not (is_before (place_of text name.at.end) place)

abbrev pub name_at : List ℕ → List Use → Place → Option Use
name_at text names place = find (is_at text place) names

abbrev pub declared_by : Option Use → Option Declared
declared_by None = None
declared_by (Some name) = name.declared

-- what the name at a place stands for
abbrev pub declared_at : List ℕ → List Use → Place → Option Declared
declared_at text names place = declared_by (name_at text names place)

-- ---- where something is declared, and where it has names

abbrev pub definition : Document → Option Declared → Answer
definition document None = answer.Nothing
definition document (Some declared) = answer.Places document.uri (range_of document.text declared.at ∷ [])

abbrev pub references : Document → List Use → Option Declared → Answer
references document names None = answer.Nothing
references document names (Some declared) = answer.Places document.uri (ranges_of document.text (places_of declared.at.start names))

-- ---- another name

-- a name that does not stand in the text: so nothing that is there comes to mean something else
abbrev pub is_free : List (List ℕ) → List ℕ → Bool
is_free words word = is_name word && not (is_among words word)

abbrev pub edits : Document → List Use → List ℕ → Option Declared → Answer
edits document names word None = answer.Nothing
edits document names word (Some declared) = answer.Edits (record {
  uri = document.uri;
  version = document.version;
  ranges = ranges_of document.text (places_of declared.at.start names);
  word = word;
})

-- ---- words, with the numbers that the protocol has for their sorts

abbrev pub spelled : List ℕ → Span → List ℕ
spelled text span = drop span.start (take span.end text)

abbrev pub word : List ℕ → ℕ → Word
word bytes sort = record { text = utf8_lossy bytes; sort = sort }

abbrev pub sort_of_role : Role → ℕ
sort_of_role role.Principal = 11
sort_of_role role.Host = 2
sort_of_role role.Function = 12
sort_of_role role.Parameter = 13
sort_of_role role.Constant = 14
sort_of_role role.Turn = 13
sort_of_role role.Variable = 13
sort_of_role role.Array = 18

abbrev pub sort_of : Option Declared → ℕ
sort_of None = 13
sort_of (Some declared) = sort_of_role declared.role

abbrev pub symbol_of : List ℕ → Use → Symbol
symbol_of text name = record { word = word (spelled text name.at) (sort_of name.declared); range = range_of text name.at }

abbrev pub symbols : List ℕ → List Use → List Symbol
symbols text names = map (symbol_of text) (filter is_declaration names)

-- the words that stand in a text, and the keywords
abbrev pub completions : List (List ℕ) → List Word
completions words = map (λ bytes. word bytes 6) words ++ map (λ bytes. word bytes 14) keywords
