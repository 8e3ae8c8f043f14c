-- What a file is, read as a certificate: the certificate whose text it is, or the first offset at which no text goes on.
use Rattle.std.specs.Prelude.{◌≡◌, ℕ, List, [], ◌∷◌, ◌++◌, length, Result, Ok, Err}
use Rattle.vd_search_tree.specs.declared.search_certificate.certificate.Certificate.{Certificate}
use Rattle.vd_base.specs.declared.faults.FileFault.{FileFault}
use Rattle.vd_base.specs.declared.faults.FileFault.TheVariants.{Text, Memory}
use Rattle.vd_search_tree.specs.Texts.{IsTextOf}

-- some text begins so
abbrev pub Begins : List ℕ → Type 0
Begins front = (c : Certificate) × (more : List ℕ) × IsTextOf c (front ++ more)

-- no text goes on from the front as the file does: with its next byte, or by ending
abbrev pub GoesWrong : List ℕ → List ℕ → Type 0
GoesWrong front [] = (c : Certificate) → IsTextOf c front → ⊥
GoesWrong front (byte ∷ behind) = Begins (front ++ byte ∷ []) → ⊥

-- the first offset at which no text goes on: the length of the file where only more bytes are missing
pub record IsFirstWrong (bytes : List ℕ) (offset : ℕ) : Type 0 where
  pub front : List ℕ
  pub behind : List ℕ
  pub are : bytes ≡ front ++ behind
  pub at : length front ≡ offset
  pub begins : Begins front
  pub wrong : GoesWrong front behind

-- the outcome of a file
abbrev pub HasOutcome : List ℕ → Result Certificate ℕ → Type 0
HasOutcome bytes (Ok c) = IsTextOf c bytes
HasOutcome bytes (Err offset) = IsFirstWrong bytes offset

-- Each file has one outcome, and no second.
pub record HasOneOutcome (bytes : List ℕ) : Type 0 where
  pub outcome : Result Certificate ℕ
  pub has : HasOutcome bytes outcome
  pub single : (other : Result Certificate ℕ) → HasOutcome bytes other → other ≡ outcome

-- The answer of a reader: whatever outcome the file has, it is that one, unless memory runs out.
abbrev pub Answers : List ℕ → Result Certificate FileFault → Type 0
Answers bytes (Ok c) = (outcome : Result Certificate ℕ) → HasOutcome bytes outcome → outcome ≡ Ok c
Answers bytes (Err (Text offset)) = (outcome : Result Certificate ℕ) → HasOutcome bytes outcome → outcome ≡ Err offset
Answers bytes (Err Memory) = Unit {0}

-- what is refused has a first offset at which no text goes on, unless memory runs out
abbrev pub Refuses : List ℕ → Result Certificate FileFault → Type 0
Refuses bytes (Ok c) = Unit {0}
Refuses bytes (Err (Text offset)) = IsFirstWrong bytes offset
Refuses bytes (Err Memory) = Unit {0}
