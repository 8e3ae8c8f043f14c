-- The grammar of inputs files: sections, each of them the name of a host, a colon and numbers.
use Rattle.std.specs.Prelude.{◌≡◌, ℕ, ◌≤◌, ◌↔◌, nat_eq, false, List, [], ◌∷◌, Some, Ok, Err, length, replicate, slice_set}
use Rattle.std.specs.List.{list_any}
use Rattle.vd_base.specs.Limits.{most_input_words}
use Rattle.vd_report.specs.declared.fault.ReadFault.{ReadFault}
use Rattle.vd_report.specs.declared.token.TokenKind.TheVariants as kind
use Rattle.vd_report.specs.declared.token.Token.{Token}
use Rattle.vd_report.specs.Hosts.{host_of}
use Rattle.vd_report.specs.Tokens.{tokens_at, text_of}
use Rattle.vd_report.specs.Inputs.{inputs_read}
use Rattle.vd_report.specs.Outcome.{FirstWrong}

-- number tokens with these values, and the tokens behind them
pub data Numbers : List Token → List ℕ → List Token → Type 0 where
  no_number : {ts : List Token} → Numbers ts [] ts
  one_number : {t : Token} {v : ℕ} {ts rest : List Token} {words : List ℕ} → t.kind ≡ kind.Number v → Numbers ts words rest → Numbers (t ∷ ts) (v ∷ words) rest

-- The tokens are these sections, each a host and its words, of hosts other than those of earlier sections, and then the end.
pub data AreSections : List (List ℕ) → List ℕ → List ℕ → List Token → List (ℕ × List ℕ) → Type 0 where
  no_section : {hosts : List (List ℕ)} {bytes earlier : List ℕ} {t : Token} {ts : List Token} → t.kind ≡ kind.End → AreSections hosts bytes earlier (t ∷ ts) []
  one_section : {hosts : List (List ℕ)} {bytes earlier words : List ℕ} {name colon : Token} {ts rest : List Token} {host : ℕ} {sections : List (ℕ × List ℕ)} →
      name.kind ≡ kind.Name → host_of hosts (text_of bytes name) ≡ Some host → list_any (nat_eq host) earlier ≡ false → colon.kind ≡ kind.Colon →
      Numbers ts words rest → length words ≤ most_input_words → AreSections hosts bytes (host ∷ earlier) rest sections →
      AreSections hosts bytes earlier (name ∷ colon ∷ ts) ((host, words) ∷ sections)

-- each section's words in the place of its host
abbrev pub filled : List (List ℕ) → List (ℕ × List ℕ) → List (List ℕ)
filled inputs [] = inputs
filled inputs (section ∷ sections) = filled (slice_set inputs section.0 section.1) sections

-- The bytes are a text of the grammar that gives these inputs.
pub record GivesInputs (hosts : List (List ℕ)) (bytes : List ℕ) (inputs : List (List ℕ)) : Type 0 where
  pub sections : List (ℕ × List ℕ)
  pub are : AreSections hosts bytes [] (tokens_at bytes 0) sections
  pub inputs_are : filled (replicate (length hosts) []) sections ≡ inputs

-- The tokens are a text of the grammar.
abbrev pub IsInputsText : List (List ℕ) → List ℕ → List Token → Type 0
IsInputsText hosts bytes tokens = (sections : List (ℕ × List ℕ)) × AreSections hosts bytes [] tokens sections

-- What a file says is the one outcome that the grammar has for it: the inputs that it gives, or the fault of the first token that cannot stand there.
pub record InputsFollowGrammar (hosts : List (List ℕ)) (bytes : List ℕ) : Type 0 where
  pub given : (inputs : List (List ℕ)) → (inputs_read hosts bytes ≡ Ok inputs) ↔ GivesInputs hosts bytes inputs
  pub refused : (fault : ReadFault) → (inputs_read hosts bytes ≡ Err fault) ↔ FirstWrong IsInputsText hosts bytes fault
