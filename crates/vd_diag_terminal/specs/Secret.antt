-- What is told of inputs and of deals to a person, who may be another than the one whose they are.
use Rattle.std.specs.Prelude.{◌≡◌, ℕ, Bool, List, None}
use Rattle.vd_report.specs.declared.fault.ReadFault.{ReadFault}
use Rattle.vd_report.specs.declared.fault.ReadFault.TheVariants.{Text, UnknownHost, Memory}
use Rattle.vd_cmd_plan.specs.declared.status.Status.TheVariants.{InputText, DealText}
use Rattle.vd_diag.specs.Excerpts.{column}
use Rattle.vd_diag.specs.Inputs.{token_at}
use Rattle.vd_diag.specs.Lines.{line_number}
use Rattle.vd_diag_terminal.specs.Files.{reading_of}
use Rattle.vd_diag_terminal.specs.Said.{IsAllTold}

-- in two files the same token stands at this offset, in the same line and column
pub record AreAlikeAt (bytes other : List ℕ) (offset : ℕ) : Type 0 where
  pub same_line : line_number bytes offset ≡ line_number other offset
  pub same_column : column bytes offset ≡ column other offset
  pub same_token : token_at bytes offset ≡ token_at other offset

-- they are alike where this fault is
abbrev pub AreAlike : List ℕ → List ℕ → ReadFault → Type 0
AreAlike bytes other (Text offset) = AreAlikeAt bytes other offset
AreAlike bytes other (UnknownHost offset) = AreAlikeAt bytes other offset
AreAlike bytes other Memory = Unit {0}

-- Two inputs files that have the same token at the same place are told of alike: of all other bytes nothing is told.
-- Where the text of a deal is refused, no file is read to tell more of it.
pub record NoSecretIsTold : Type 0 where
  pub inputs : (coloured : Bool) (name bytes other text : List ℕ) (fault : ReadFault) → AreAlike bytes other fault
      → IsAllTold coloured (InputText fault) name bytes text → IsAllTold coloured (InputText fault) name other text
  pub deals : (words : List (List ℕ)) (host : List ℕ) (number offset : ℕ) → reading_of words (DealText host number offset) ≡ None
