-- Worked lines: what goes ahead, and what stays.
use Rattle.std.specs.Prelude.{◌≡◌, ℕ, nat_eq, if◌then◌else◌, List, [], ◌∷◌}
use Rattle.vd_base.specs.HostSets.{host}
use Rattle.vd_execution.specs.declared.instructions.Reg.{Reg}
use Rattle.vd_execution.specs.declared.instructions.Binary.TheVariants as binary
use Rattle.vd_execution.specs.declared.instructions.Action.TheVariants as action
use Rattle.vd_execution.specs.declared.instructions.Act.TheVariants as act
use Rattle.vd_execution.specs.declared.instructions.Line.{Line}
use Rattle.vd_execution.specs.declared.instructions.Line.TheVariants as line
use Rattle.vd_execution.specs.Text.{register}
use Rattle.vd_choreography_reorder.specs.Testing.{Opened}
use Rattle.vd_choreography_reorder.specs.Sorting.{early_order}

-- a word goes from one host to another
abbrev pub packet : ℕ → ℕ → ℕ → ℕ → Line
packet a r b q = line.Act (act.Msg (host a) (register r ∷ []) (host b) (register q ∷ []))

-- a host makes a word of two
abbrev pub xor_at : ℕ → ℕ → ℕ → ℕ → Line
xor_at h r x y = line.Act (act.Do (host h) (action.Apply binary.Xor (register r) (register x) (register y)))

-- a host draws an own word
abbrev pub own_at : ℕ → ℕ → Line
own_at h r = line.Act (act.Do (host h) (action.Own (register r)))

abbrev pub nothing_opened : Opened
nothing_opened h = []

-- host 0 opens its register 16
abbrev pub word_opened : Opened
word_opened h = if nat_eq h 0 then register 16 ∷ [] else []

-- Host 0 awaits an answer, and then tells a word.
abbrev pub answer_first : List Line
answer_first = packet 1 5 0 40 ∷ packet 0 16 1 41 ∷ []

abbrev pub word_first : List Line
word_first = packet 0 16 1 41 ∷ packet 1 5 0 40 ∷ []

-- A word that it opens stays behind the answer, though it ranks lower; by registers alone it would go before it.
abbrev pub OpenedWordsStay : Type 0
OpenedWordsStay = (early_order word_opened answer_first ≡ answer_first) × (early_order nothing_opened answer_first ≡ word_first)

-- Two hosts tell each other masked words, host 0 makes something of them, and they tell each other two more.
abbrev pub one_after_the_other : List Line
one_after_the_other = packet 0 2 1 12 ∷ packet 1 3 0 13 ∷ xor_at 0 20 2 13 ∷ packet 0 4 1 14 ∷ packet 1 5 0 15 ∷ []

abbrev pub side_by_side : List Line
side_by_side = packet 0 2 1 12 ∷ packet 0 4 1 14 ∷ packet 1 3 0 13 ∷ packet 1 5 0 15 ∷ xor_at 0 20 2 13 ∷ []

abbrev pub WordsGoSideBySide : Type 0
WordsGoSideBySide = early_order nothing_opened one_after_the_other ≡ side_by_side

-- Host 0 draws a word, tells it and hides another one by it, two times.
abbrev pub shared_in_turn : List Line
shared_in_turn = own_at 0 2 ∷ packet 0 2 1 12 ∷ xor_at 0 20 8 2 ∷ own_at 0 3 ∷ packet 0 3 1 13 ∷ xor_at 0 21 9 3 ∷ []

abbrev pub told_together : List Line
told_together = own_at 0 2 ∷ xor_at 0 20 8 2 ∷ own_at 0 3 ∷ xor_at 0 21 9 3 ∷ packet 0 2 1 12 ∷ packet 0 3 1 13 ∷ []

-- The words are told side by side, so that they share a packet.
abbrev pub DrawnWordsAreToldTogether : Type 0
DrawnWordsAreToldTogether = early_order nothing_opened shared_in_turn ≡ told_together
