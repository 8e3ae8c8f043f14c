-- The lines of needs, as a person or the command `deal` reads them.
use Rattle.std.specs.Prelude.{◌≡◌, ℕ, ◌<◌, ◌^◌, true, if◌then◌else◌, List, [], ◌∷◌, ◌++◌, ◌-◌, Some, None, decimal, codes}
use Rattle.std.specs.Str.{bytes_eq}
use Rattle.vd_base.specs.Lexical.{is_name}
use Rattle.vd_tape.specs.declared.deal_items.deal.Counts.{Counts}
use Rattle.vd_deal_needs.specs.declared.taking.HostNeeds.{HostNeeds}
use Rattle.vd_deal_needs.specs.declared.taking.Shared.{Shared}
use Rattle.vd_report.specs.LineWords.{line_words}
use Rattle.vd_cmd.specs.Commands.{AreWithin, form_of, key_source}
use Rattle.vd_cmd.specs.Numbers.{number_within}
use Rattle.vd_cmd.specs.declared.command.Command.TheVariants.{OnFiles, KeyDeal}
use Rattle.vd_cmd.specs.declared.command.FilesCommand.TheVariants.{Deal}
use Rattle.vd_cmd.specs.declared.command.KeySource.{KeySource}
use Rattle.vd_cmd_needs.specs.Lines.{host_line, pair_line, sizes_line}

-- ---- the line of sizes

-- the words of `deal`, with those of the line of sizes
abbrev pub deal_words : Counts → (key prefix : List ℕ) → List (List ℕ)
deal_words sizes key prefix = codes "deal" ∷ line_words (sizes_line sizes) ++ key ∷ prefix ∷ []

-- They are read as these sizes: with a key of 32 bytes, and with a number.
pub record IsDealt (sizes : Counts) (prefix : List ℕ) : Type 0 where
  pub by_key : (word : List ℕ) (key : KeySource) → key_source word ≡ Some key
      → form_of (deal_words sizes word prefix) ≡ Some (KeyDeal (record { counts = sizes; key = key; prefix = prefix }))
  pub by_number : (word : List ℕ) (number : ℕ) → key_source word ≡ None → number_within 0 (2 ^ 64 - 1) word ≡ Some number
      → form_of (deal_words sizes word prefix) ≡ Some (OnFiles (Deal sizes number prefix))

-- What is printed of sizes within the limits, put behind `deal`, deals these sizes.
abbrev pub SizesAreDealt : Type 0
SizesAreDealt = (sizes : Counts) (prefix : List ℕ) → AreWithin sizes → IsDealt sizes prefix

-- ---- the lines of hosts and of two hosts

-- the number behind the name of a kind, where names and numbers stand by turns
abbrev pub behind_kind : (kind : List ℕ) → List (List ℕ) → List ℕ
behind_kind kind [] = []
behind_kind kind (word ∷ []) = []
behind_kind kind (word ∷ number ∷ words) = if bytes_eq word kind then number else behind_kind kind words

-- The line has the host's name first. Behind the name of each kind stands what the host takes of it.
pub record TellsHost (line name : List ℕ) (needs : HostNeeds) : Type 0 where
  pub kinds : List (List ℕ)
  pub read : line_words line ≡ name ∷ kinds
  pub inputs : behind_kind (codes "inputs") kinds ≡ decimal needs.inputs
  pub own : behind_kind (codes "own") kinds ≡ decimal needs.own

-- The line has both names first. Behind the name of each kind stands what the two share of it.
pub record TellsPair (line first second : List ℕ) (shared : Shared) : Type 0 where
  pub kinds : List (List ℕ)
  pub read : line_words line ≡ first ∷ second ∷ kinds
  pub muls : behind_kind (codes "mul") kinds ≡ decimal shared.muls
  pub ands : behind_kind (codes "and") kinds ≡ decimal shared.ands
  pub pairs : behind_kind (codes "pair") kinds ≡ decimal shared.pairs

-- numbers of the code's words
abbrev pub HostFits : HostNeeds → Type 0
HostFits needs = (needs.inputs < 2 ^ 32) × (needs.own < 2 ^ 32)

abbrev pub PairFits : Shared → Type 0
PairFits shared = (shared.muls < 2 ^ 32) × ((shared.ands < 2 ^ 32) × (shared.pairs < 2 ^ 32))

pub record KindsAreTold : Type 0 where
  pub hosts : (name : List ℕ) (needs : HostNeeds) → is_name name ≡ true → HostFits needs → TellsHost (host_line name needs) name needs
  pub pairs : (first second : List ℕ) (shared : Shared) → is_name first ≡ true → is_name second ≡ true → PairFits shared
      → TellsPair (pair_line first second shared) first second shared
