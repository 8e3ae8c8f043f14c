-- What an inputs file says, token by token.
use Rattle.std.specs.Prelude.{◌≡◌, ℕ, List, [], ◌∷◌, ◌++◌, Option, Some, None, is_some, Result, Ok, Err, length, map, replicate, slice_index_or, slice_set, nat_lt, unwrap_or, if◌then◌else◌}
use Rattle.vd_base.specs.Limits.{most_input_words}
use Rattle.vd_report.specs.declared.token.TokenKind.{TokenKind}
use Rattle.vd_report.specs.declared.token.TokenKind.TheVariants as kind
use Rattle.vd_report.specs.declared.token.Token.{Token}
use Rattle.vd_report.specs.declared.fault.ReadFault.{ReadFault}
use Rattle.vd_report.specs.declared.fault.ReadFault.TheVariants.{Text, UnknownHost, Memory}
use Rattle.vd_report.specs.Hosts.{host_of}
use Rattle.vd_report.specs.Tokens.{tokens_at, text_of, capped}

-- for each host the words of its section, if it has had one
abbrev pub Sections : Type 0
Sections = List (Option (List ℕ))

-- a host without a section has no words
abbrev pub words_of : Option (List ℕ) → List ℕ
words_of section = unwrap_or section []

-- where a token stands
pub data Place : Type 0 where
  between : Place  -- at the start, where a section may begin
  named : ℕ → Place  -- behind the name of this host
  listing : ℕ → List ℕ → Place  -- in the section of this host, behind these words

pub data Step : Type 0 where
  go : Place → Sections → Step
  stop : Result (List (List ℕ)) ReadFault → Step

-- a name where a section may begin
abbrev pub at_name : Sections → ℕ → Option ℕ → Step
at_name sections at None = stop (Err (UnknownHost at))
at_name sections at (Some host) = if is_some (slice_index_or sections host None) then stop (Err (Text at)) else go (named host) sections

-- any token where a section may begin
abbrev pub at_section : List (List ℕ) → Sections → ℕ → List ℕ → TokenKind → Step
at_section hosts sections at text kind.End = stop (Ok (map words_of sections))
at_section hosts sections at text kind.Name = at_name sections at (host_of hosts text)
at_section hosts sections at text _ = stop (Err (Text at))

-- a token behind a section's name
abbrev pub at_colon : ℕ → Sections → ℕ → TokenKind → Step
at_colon host sections at kind.Colon = go (listing host []) sections
at_colon host sections at _ = stop (Err (Text at))

-- a token in a section: a word, of which a section has at most so many, or what may stand behind the section
abbrev pub at_word : List (List ℕ) → ℕ → List ℕ → Sections → ℕ → List ℕ → TokenKind → Step
at_word hosts host words sections at text (kind.Number word) = if nat_lt (length words) most_input_words then go (listing host (words ++ word ∷ [])) sections else stop (Err (Text at))
at_word hosts host words sections at text other = at_section hosts (slice_set sections host (Some words)) at text other

abbrev pub step : List (List ℕ) → List ℕ → Place → Sections → Token → Step
step hosts bytes between sections t = at_section hosts sections (capped t.start) (text_of bytes t) t.kind
step hosts bytes (named host) sections t = at_colon host sections (capped t.start) t.kind
step hosts bytes (listing host words) sections t = at_word hosts host words sections (capped t.start) (text_of bytes t) t.kind

-- What the tokens say from a place on. The end is the last of them, so there is always a token.
unfoldable pub reads : List (List ℕ) → List ℕ → Place → Sections → List Token → Result (List (List ℕ)) ReadFault
reads hosts bytes place sections [] = Err (Text (capped (length bytes)))
reads hosts bytes place sections (t ∷ ts) = elim (step hosts bytes place sections t) [
  | go place' sections' ↦ reads hosts bytes place' sections' ts
  | stop result ↦ result
]

-- the words of each host, or the fault of the first token that cannot stand where it stands
abbrev pub inputs_read : List (List ℕ) → List ℕ → Result (List (List ℕ)) ReadFault
inputs_read hosts bytes = reads hosts bytes between (replicate (length hosts) None) (tokens_at bytes 0)

-- Reading a section from `start` gives what closing it with these words and going on from `end` gives.
abbrev pub Ends : List ℕ → ℕ → List ℕ → ℕ → Type 0
Ends bytes start words end = (hosts : List (List ℕ)) (host : ℕ) (sections : Sections) →
    reads hosts bytes (listing host []) sections (tokens_at bytes start) ≡ reads hosts bytes between (slice_set sections host (Some words)) (tokens_at bytes end)

-- a section's words are followed by a token that cannot stand there
abbrev pub Fails : List ℕ → ℕ → ReadFault → Type 0
Fails bytes start (Text at) = (hosts : List (List ℕ)) (host : ℕ) (sections : Sections) → reads hosts bytes (listing host []) sections (tokens_at bytes start) ≡ Err (Text at)
Fails bytes start (UnknownHost at) = ⊥
Fails bytes start Memory = Unit {0}
