-- The items that explain another word: k's A and B rise by the difference of the operands, and C is what the identity gives.
use Rattle.std.specs.Prelude.{◌≡◌, ℕ, ◌+◌, ◌-◌, ◌*◌, ◌%◌, ◌^◌, List, [], ◌∷◌, bit_and, bit_xor}
use Rattle.vd_execution.specs.Registers.{nth}
use Rattle.vd_execution.specs.Gadgets.{Sharing, BySums, ByXors}

-- a word a that rises by the difference of two others
abbrev pub raised : ℕ → ℕ → ℕ → ℕ
raised a x z = (a + z + (2 ^ 32 - x)) % 2 ^ 32

-- a word that is turned by the difference of two others
abbrev pub turned : ℕ → ℕ → ℕ → ℕ
turned a x z = bit_xor a (bit_xor x z)

-- a triple that hides z and z' as the item xs hides x and x', beside the other host's item ys
abbrev pub sum_item : List ℕ → List ℕ → ℕ → ℕ → ℕ → ℕ → List ℕ
sum_item xs ys x z x' z' =
    raised (nth xs 0) x z ∷ raised (nth xs 1) x' z'
    ∷ ((raised (nth xs 0) x z + nth ys 0) * (raised (nth xs 1) x' z' + nth ys 1) + (2 ^ 32 - nth ys 2)) % 2 ^ 32 ∷ []

abbrev pub xor_item : List ℕ → List ℕ → ℕ → ℕ → ℕ → ℕ → List ℕ
xor_item xs ys x z x' z' =
    turned (nth xs 0) x z ∷ turned (nth xs 1) x' z'
    ∷ bit_xor (bit_and (bit_xor (turned (nth xs 0) x z) (nth ys 0)) (bit_xor (turned (nth xs 1) x' z') (nth ys 1))) (nth ys 2) ∷ []

abbrev pub item_for : Sharing → List ℕ → List ℕ → ℕ → ℕ → ℕ → ℕ → List ℕ
item_for BySums = sum_item
item_for ByXors = xor_item

-- the pair whose dealt word is d, beside the other host's pair ys
unfoldable pub pair_item : ℕ → List ℕ → List ℕ
pair_item d ys = (d + (2 ^ 32 - nth ys 0)) % 2 ^ 32 ∷ bit_xor d (nth ys 1) ∷ []

-- both items hold the same three words
abbrev pub IsSameItem : List ℕ → List ℕ → Type 0
IsSameItem xs ys = (nth xs 0 ≡ nth ys 0) × ((nth xs 1 ≡ nth ys 1) × (nth xs 2 ≡ nth ys 2))
