-- The answer of a reader against what a text says: running out of memory may come in its place.
use Rattle.std.specs.Prelude.{◌≡◌, ◌≢◌, ◌↔◌, ℕ, List, [], ◌∷◌, ◌++◌, None, Result, Ok, Err}
use Rattle.vd_report.specs.Hosts.{host_of}
use Rattle.vd_report.specs.Tokens.{tokens_at, text_of, capped}
use Rattle.vd_report.specs.declared.token.TokenKind.TheVariants as kind
use Rattle.vd_report.specs.declared.token.Token.{Token}
use Rattle.vd_report.specs.declared.fault.ReadFault.{ReadFault}
use Rattle.vd_report.specs.declared.fault.ReadFault.TheVariants.{Text, UnknownHost, Memory}

abbrev pub IsFaultOf : {X : Type 0} → Result X ReadFault → ReadFault → Type 0
IsFaultOf said (Text at) = said ≡ Err (Text at)
IsFaultOf said (UnknownHost at) = said ≡ Err (UnknownHost at)
IsFaultOf said Memory = Unit {0}

-- Unless memory runs out, a value is answered exactly where the text gives it.
abbrev pub Accepts : {X : Type 0} → Result X ReadFault → (X → Type 0) → Type 0
Accepts {X} result Gives = result ≢ Err Memory → (x : X) → (result ≡ Ok x) ↔ Gives x

-- Unless memory runs out, a fault is answered exactly where the text has it.
abbrev pub Refuses : {X : Type 0} → Result X ReadFault → (ReadFault → Type 0) → Type 0
Refuses result Has = result ≢ Err Memory → (fault : ReadFault) → (result ≡ Err fault) ↔ Has fault

-- some text begins with these tokens
abbrev pub Begins : (List Token → Type 0) → List Token → Type 0
Begins IsText front = (more : List Token) × IsText (front ++ more)

-- some text begins with these tokens and this one behind them
abbrev pub BeginsWith : (List Token → Type 0) → List Token → Token → Type 0
BeginsWith IsText front t = (more : List Token) × IsText (front ++ t ∷ more)

-- The fault of a token that cannot stand where it stands: that of an unknown host where it is a name that no host has and
-- could stand there if one host more had it.
abbrev pub IsFaultAt : List (List ℕ) → List ℕ → Token → Type 0 → ReadFault → Type 0
IsFaultAt hosts bytes t could_stand (Text at) = (at ≡ capped t.start) × (could_stand → ⊥)
IsFaultAt hosts bytes t could_stand (UnknownHost at) = (at ≡ capped t.start) × (t.kind ≡ kind.Name) × (host_of hosts (text_of bytes t) ≡ None) × could_stand
IsFaultAt hosts bytes t could_stand Memory = ⊥

-- The first token that cannot stand where it stands: with the tokens in front of it some text of the grammar begins, and with them and it none.
pub record FirstWrong (IsText : List (List ℕ) → List ℕ → List Token → Type 0) (hosts : List (List ℕ)) (bytes : List ℕ) (fault : ReadFault) : Type 0 where
  pub front : List Token
  pub wrong : Token
  pub behind : List Token
  pub are : front ++ wrong ∷ behind ≡ tokens_at bytes 0
  pub begins : Begins (IsText hosts bytes) front
  pub none_begins : BeginsWith (IsText hosts bytes) front wrong → ⊥
  pub at_wrong : IsFaultAt hosts bytes wrong (BeginsWith (IsText (hosts ++ text_of bytes wrong ∷ []) bytes) front wrong) fault
