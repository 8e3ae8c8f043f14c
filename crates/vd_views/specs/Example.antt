-- Worked numbers: the inputs are 7 and 6, and in the other run 2147483655 and 6, with the same product.
use Rattle.std.specs.Prelude.{◌≡◌, ℕ, zero, suc, nat_eq, if◌then◌else◌, List, [], ◌∷◌}
use Rattle.vd_execution.specs.Step.{Inputs, OwnWords, Triples, BitTriples, Pairs}
use Rattle.vd_execution.specs.World.{Tape}
use Rattle.vd_execution.specs.Joint.{Hosts, fresh}
use Rattle.vd_execution.specs.Acts.{run_acts}
use Rattle.vd_execution.specs.Gadgets.{acts_of_gadgets}
use Rattle.vd_views.specs.Views.{alone}
use Rattle.vd_views.specs.Contract.{InputWords, Explains}
use Rattle.vd_views.specs.Product.{shared_product, product_plan, HaveSameProduct}

-- alice has this input, and every other host 6
abbrev pub inputs_with : ℕ → InputWords
inputs_with input g i = if nat_eq g 0 then input else 6

abbrev pub own_word : ℕ → ℕ
own_word g = if nat_eq g 0 then 4294967293 else 1

-- the first triple of alice and bob, of which a is alice's first part; all others are 0
abbrev pub triple : ℕ → ℕ → ℕ → ℕ → List ℕ
triple a zero (suc zero) zero = a ∷ 4 ∷ 5 ∷ []
triple a (suc zero) zero zero = 2 ∷ 0 ∷ 7 ∷ []
triple a g p i = 0 ∷ 0 ∷ 0 ∷ []

abbrev pub deal_with : ℕ → ℕ → Tape
deal_with input a g Inputs i = inputs_with input g i ∷ []
deal_with input a g OwnWords i = own_word g ∷ []
deal_with input a g (Triples p) i = triple a g p i
deal_with input a g (BitTriples p) i = 0 ∷ 0 ∷ 0 ∷ []
deal_with input a g (Pairs p) i = 0 ∷ 0 ∷ []

-- the input rises by half the words, and so does the first part of the triple
abbrev pub first_deal : Tape
first_deal = deal_with 7 1

abbrev pub second_inputs : InputWords
second_inputs = inputs_with 2147483655

abbrev pub second_deal : Tape
second_deal = deal_with 2147483655 2147483649

abbrev pub end_of : Tape → Hosts
end_of t = run_acts t (acts_of_gadgets shared_product) fresh

-- alice's own word, her masked operands, and her part of the product
abbrev pub packets : List (List ℕ)
packets = (4294967293 ∷ []) ∷ (9 ∷ 4294967293 ∷ []) ∷ (31 ∷ []) ∷ []

-- the second deal explains the other inputs to bob, who prints 42 in both runs and is told the same words by alice
pub record WorkedProduct : Type 0 where
  pub others : HaveSameProduct (alone 1) first_deal second_inputs
  pub explains : Explains (alone 1) product_plan first_deal second_inputs second_deal
  pub prints : (end_of first_deal 1).printed ≡ 42 ∷ []
  pub prints_again : (end_of second_deal 1).printed ≡ 42 ∷ []
  pub told : (end_of first_deal 0).sent 1 ≡ packets
  pub told_again : (end_of second_deal 0).sent 1 ≡ packets
