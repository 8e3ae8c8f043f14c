-- Valid deals: what the two hosts that share an item can rely on.
use Rattle.std.specs.Prelude.{◌≡◌, ◌≢◌, ℕ, length}
use Rattle.vd_base.specs.Identities.{mul_left, mul_right, and_left, and_right, pair_left, pair_right}
use Rattle.vd_base.specs.Words.{IsWord}
use Rattle.vd_execution.specs.Registers.{nth}
use Rattle.vd_execution.specs.Step.{Source, Triples, BitTriples, Pairs}
use Rattle.vd_execution.specs.World.{Tape, zeros_of}

-- each item has the words of its kind, and the items of each pair of hosts, at each place, meet their identities
pub record IsValidDeal (t : Tape) : Type 0 where
  pub lengths : (h : ℕ) (source : Source) (i : ℕ) → length (t h source i) ≡ length (zeros_of source)
  pub words : (h : ℕ) (source : Source) (i place : ℕ) → IsWord (nth (t h source i) place)
  pub triples : (g h i : ℕ) → g ≢ h → let x = t g (Triples h) i in let y = t h (Triples g) i in
      mul_left (nth x 0) (nth y 0) (nth x 1) (nth y 1) ≡ mul_right (nth x 2) (nth y 2)
  pub bit_triples : (g h i : ℕ) → g ≢ h → let x = t g (BitTriples h) i in let y = t h (BitTriples g) i in
      and_left (nth x 0) (nth y 0) (nth x 1) (nth y 1) ≡ and_right (nth x 2) (nth y 2)
  pub pairs : (g h i : ℕ) → g ≢ h → let x = t g (Pairs h) i in let y = t h (Pairs g) i in
      pair_left (nth x 0) (nth y 0) ≡ pair_right (nth x 1) (nth y 1)
