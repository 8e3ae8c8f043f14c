-- The words of a text, which white space parts.
use Rattle.std.proofs.Common.{◌≡◌, ℕ, Bool, true, false, List, [], ◌∷◌, ◌++◌, Result, if◌then◌else◌, length, refl, sym, ap, ◌∙◌, subst, arith, append_assoc}
use Rattle.std.specs.List.{fold}
use Rattle.vd_base.specs.Lexical.{is_space}
use Rattle.vd_report.specs.LineWords.{line_words, with_word, words_from}
use Rattle.vd_cmd_plan.specs.Plans.{Checks}
use Rattle.vd_cmd_plan.specs.declared.status.Status.{Status}
use Rattle.vd_cmd_data.specs.declared.printed.Split.{Split}
use Rattle.vd_cmd_data.specs.Printed.{after_byte}

-- what was checked in place of the same
pub checks_as : {T : Type 0} (wanted other result : Result T Status) → other ≡ wanted → Checks other result → Checks wanted result
checks_as {T} wanted other result same checks = subst (λ (r : Result T Status). Checks r result) same checks

with_before : (word : List ℕ) (rest : List (List ℕ)) → with_word word rest ≡ with_word word [] ++ rest
with_before [] rest = refl
with_before (b ∷ word) rest = refl

-- what a split comes to, with the last word
abbrev whole : Split → List (List ℕ)
whole split = split.words ++ with_word split.begun []

module _ (words : List (List ℕ)) (begun : List ℕ) where
  abbrev at : Split
  at = record { words = words; begun = begun }

goes_on : (bytes : List ℕ) (words : List (List ℕ)) (begun : List ℕ) → whole (fold after_byte (at words begun) bytes) ≡ words ++ words_from begun bytes
goes_on [] words begun = refl
goes_on (b ∷ bytes) words begun = by (goes_on bytes (words ++ with_word begun []) []) (goes_on bytes words (begun ++ b ∷ [])) (is_space b) refl
  where
    by : whole (fold after_byte (at (words ++ with_word begun []) []) bytes) ≡ (words ++ with_word begun []) ++ words_from [] bytes
        → whole (fold after_byte (at words (begun ++ b ∷ [])) bytes) ≡ words ++ words_from (begun ++ b ∷ []) bytes
        → (t : Bool) → is_space b ≡ t → whole (fold after_byte (at words begun) (b ∷ bytes)) ≡ words ++ words_from begun (b ∷ bytes)
    by parted joined true e =
        ap (λ (t : Bool). whole (fold after_byte (if t then at (words ++ with_word begun []) [] else at words (begun ++ b ∷ [])) bytes)) e
        ∙ parted
        ∙ append_assoc words (with_word begun []) (words_from [] bytes)
        ∙ ap (λ (l : List (List ℕ)). words ++ l) (sym (with_before begun (words_from [] bytes)))
        ∙ ap (λ (t : Bool). words ++ (if t then with_word begun (words_from [] bytes) else words_from (begun ++ b ∷ []) bytes)) (sym e)
    by parted joined false e =
        ap (λ (t : Bool). whole (fold after_byte (if t then at (words ++ with_word begun []) [] else at words (begun ++ b ∷ [])) bytes)) e
        ∙ joined
        ∙ ap (λ (t : Bool). words ++ (if t then with_word begun (words_from [] bytes) else words_from (begun ++ b ∷ []) bytes)) (sym e)

pub nothing_left : (rest : List ℕ) → length rest ≡ 0 → rest ≡ []
nothing_left [] is = refl
nothing_left (b ∷ rest) is = absurd (omega (arith, is))

-- the words so far and the last one are all words
pub all_split : (text : List ℕ) (split : Split) (words : List (List ℕ)) → split ≡ fold after_byte (record { words = []; begun = [] }) text
    → words ≡ split.words ++ with_word split.begun [] → words ≡ line_words text
all_split text split words is added = added ∙ ap whole is ∙ goes_on text [] []
