-- The deals of the worked numbers are valid.
use Rattle.std.proofs.Common.{◌≡◌, ℕ, zero, suc, ◌+◌, ◌*◌, ◌%◌, ◌^◌, ◌<◌, nat_eq, Bool, true, false, if◌then◌else◌, [], ◌∷◌, length, refl, lit<}
use Rattle.vd_execution.specs.Registers.{nth}
use Rattle.vd_execution.specs.Step.{Source, Inputs, OwnWords, Triples, BitTriples, Pairs}
use Rattle.vd_execution.specs.World.{zeros_of}
use Rattle.vd_base.specs.Words.{IsWord}
use Rattle.vd_execution.specs.Deals.{IsValidDeal}
use Rattle.vd_views.proofs.Changed.{IsTriple, AreWords}
use Rattle.vd_views.proofs.Excuse.{three_words, flip_triple}
use Rattle.vd_views.specs.Example.{inputs_with, own_word, triple, deal_with, first_deal, second_deal}

whole : (a g p i : ℕ) → length (triple a g p i) ≡ 3
whole a zero zero i = refl
whole a zero (suc zero) zero = refl
whole a zero (suc zero) (suc i) = refl
whole a zero (suc (suc p)) i = refl
whole a (suc zero) zero zero = refl
whole a (suc zero) zero (suc i) = refl
whole a (suc zero) (suc p) i = refl
whole a (suc (suc g)) p i = refl

zeros_fit : AreWords (0 ∷ 0 ∷ 0 ∷ [])
zeros_fit = three_words 0 0 0 (lit< tt) (lit< tt) (lit< tt)

fits : (a g p i : ℕ) → a < 2 ^ 32 → AreWords (triple a g p i)
fits a zero zero i small = zeros_fit
fits a zero (suc zero) zero small = three_words a 4 5 small (lit< tt) (lit< tt)
fits a zero (suc zero) (suc i) small = zeros_fit
fits a zero (suc (suc p)) i small = zeros_fit
fits a (suc zero) zero zero small = three_words 2 0 7 (lit< tt) (lit< tt) (lit< tt)
fits a (suc zero) zero (suc i) small = zeros_fit
fits a (suc zero) (suc p) i small = zeros_fit
fits a (suc (suc g)) p i small = zeros_fit

-- the first triple of alice and bob is one
abbrev IsFirst : ℕ → Type 0
IsFirst a = ((a + 2) * (4 + 0)) % 2 ^ 32 ≡ (5 + 7) % 2 ^ 32

multiplies : (a : ℕ) → IsFirst a → (g h i : ℕ) → IsTriple (triple a g h i) (triple a h g i)
multiplies a e zero zero i = refl
multiplies a e zero (suc zero) zero = e
multiplies a e zero (suc zero) (suc i) = refl
multiplies a e zero (suc (suc h)) i = refl
multiplies a e (suc zero) zero zero = flip_triple (a ∷ 4 ∷ 5 ∷ []) (2 ∷ 0 ∷ 7 ∷ []) e
multiplies a e (suc zero) zero (suc i) = refl
multiplies a e (suc zero) (suc zero) i = refl
multiplies a e (suc zero) (suc (suc h)) i = refl
multiplies a e (suc (suc g)) zero i = refl
multiplies a e (suc (suc g)) (suc zero) i = refl
multiplies a e (suc (suc g)) (suc (suc h)) i = refl

pub either_word : (b : Bool) (x y : ℕ) → x < 2 ^ 32 → y < 2 ^ 32 → (if b then x else y) < 2 ^ 32
either_word true x y p q = p
either_word false x y p q = q

one_word : (x place : ℕ) → x < 2 ^ 32 → IsWord (nth (x ∷ []) place)
one_word x zero p = p
one_word x (suc n) p = lit< tt

zero_pair : (place : ℕ) → IsWord (nth (0 ∷ 0 ∷ []) place)
zero_pair zero = lit< tt
zero_pair (suc zero) = lit< tt
zero_pair (suc (suc n)) = lit< tt

module _ (input a : ℕ) (input_word : input < 2 ^ 32) (part_word : a < 2 ^ 32) (first : IsFirst a) where
  lengths : (g : ℕ) (s : Source) (i : ℕ) → length (deal_with input a g s i) ≡ length (zeros_of s)
  lengths g Inputs i = refl
  lengths g OwnWords i = refl
  lengths g (Triples p) i = whole a g p i
  lengths g (BitTriples p) i = refl
  lengths g (Pairs p) i = refl

  words : (g : ℕ) (s : Source) (i place : ℕ) → IsWord (nth (deal_with input a g s i) place)
  words g Inputs i place = one_word (inputs_with input g i) place (either_word (nat_eq g 0) input 6 input_word (lit< tt))
  words g OwnWords i place = one_word (own_word g) place (either_word (nat_eq g 0) 4294967293 1 (lit< tt) (lit< tt))
  words g (Triples p) i place = fits a g p i part_word place
  words g (BitTriples p) i place = zeros_fit place
  words g (Pairs p) i place = zero_pair place

  valid : IsValidDeal (deal_with input a)
  valid = record { lengths = lengths; words = words; triples = λ g h i ne. multiplies a first g h i; bit_triples = λ g h i ne. refl; pairs = λ g h i ne. refl }

pub first_valid : IsValidDeal first_deal
first_valid = valid 7 1 (lit< tt) (lit< tt) refl

pub second_valid : IsValidDeal second_deal
second_valid = valid 2147483655 2147483649 (lit< tt) (lit< tt) refl
