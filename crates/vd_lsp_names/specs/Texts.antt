-- The names of a text.
use Rattle.std.specs.Prelude.{◌≡◌, ◌⊎◌, ℕ, ◌<◌, Bool, nat_eq, if◌then◌else◌, List, [], ◌∷◌, ◌++◌, length, Result, Ok, Err}
use Rattle.vd_base.specs.Limits.{most_source_bytes}
use Rattle.vd_base.specs.Names.{is_among}
use Rattle.vd_core.specs.declared.source.Source.{Source}
use Rattle.vd_parser.specs.Outcomes.{IsParse}
use Rattle.vd_parser.specs.declared.fault.ParseFault.{ParseFault}
use Rattle.vd_source_lexer.specs.Kinds.{code_of}
use Rattle.vd_source_lexer.specs.Tokens.{Lexes, FirstBad, text_of}
use Rattle.vd_source_lexer.specs.declared.token.Token.{Token}
use Rattle.vd_source_lexer.specs.declared.token.TokenKind.TheVariants as kind
use Rattle.vd_lsp_names.specs.Uses.{uses_of}
use Rattle.vd_lsp_names.specs.declared.kinds.Use.{Use}

-- ---- the names of its tree

-- there are none where it has no tree
abbrev pub names_in : Result Source ParseFault → List Use
names_in (Ok source) = uses_of source
names_in (Err fault) = []

abbrev pub AreNamesOf : List ℕ → List Use → Type 0
AreNamesOf text names = (outcome : Result Source ParseFault) × IsParse text outcome × (names ≡ names_in outcome)

-- ---- the words that are names in its tokens, each once

abbrev pub is_name : Token → Bool
is_name token = nat_eq (code_of token.kind) (code_of kind.Name)

abbrev pub with_new : List (List ℕ) → List ℕ → List (List ℕ)
with_new words word = if is_among words word then words else words ++ word ∷ []

abbrev pub with_token : List ℕ → List (List ℕ) → Token → List (List ℕ)
with_token text words token = if is_name token then with_new words (text_of text token) else words

abbrev pub words_behind : List ℕ → List (List ℕ) → List Token → List (List ℕ)
words_behind text words [] = words
words_behind text words (t ∷ ts) = words_behind text (with_token text words t) ts

abbrev pub words_in : List ℕ → List Token → List (List ℕ)
words_in text tokens = words_behind text [] tokens

-- there are none where it has no tokens
abbrev pub AreWordsOfShort : List ℕ → List (List ℕ) → Type 0
AreWordsOfShort text words =
    ((tokens : List Token) × Lexes text 0 tokens × (words ≡ words_in text tokens)) ⊎ ((offset : ℕ) × FirstBad text 0 offset × (words ≡ []))

abbrev pub AreWordsOf : List ℕ → List (List ℕ) → Type 0
AreWordsOf text words = ((most_source_bytes < length text) × (words ≡ [])) ⊎ AreWordsOfShort text words
