-- From sums to exclusive or, and back: the word stays.
use Rattle.std.specs.Prelude.{◌≡◌, ℕ, bit_xor}
use Rattle.vd_tape.specs.declared.deal_items.items.PairItem.{PairItem}
use Rattle.vd_tape.specs.Identities.{MeetsPair}
use Rattle.vd_base.specs.Words.{IsWord}
use Rattle.vd_tape.specs.Validity.{ArePairWords}
use Rattle.vd_backend_sharing.specs.Circuits.{add_of, sub_of}
use Rattle.vd_backend_sharing.specs.Sharing.{plus}

-- Each host masks its part by an own word and gives the other the mask, so that each part is a word that they share; the sum of
-- both is reckoned by the circuit.
abbrev pub bits_of_sum : (x0 x1 mask0 mask1 : ℕ) → ℕ
bits_of_sum x0 x1 mask0 mask1 = add_of (bit_xor (bit_xor x0 mask0) mask0) (bit_xor mask1 (bit_xor x1 mask1))

abbrev pub BitsKeepTheWord : Type 0
BitsKeepTheWord = (x0 x1 mask0 mask1 : ℕ) → IsWord x0 → IsWord x1 → bits_of_sum x0 x1 mask0 mask1 ≡ plus x0 x1

-- A dealt pair is one word in both ways. The circuit takes it off the word, and gives the parts t0 and t1 of what is left. These
-- are opened, and the first host adds that to its part of the pair.
abbrev pub SumsKeepTheWord : Type 0
SumsKeepTheWord =
    (x t0 t1 : ℕ) (first second : PairItem) → IsWord x → ArePairWords first → ArePairWords second → MeetsPair first second
    → bit_xor t0 t1 ≡ sub_of x (bit_xor first.x second.x) → plus (plus (bit_xor t0 t1) first.s) second.s ≡ x
