-- Worked numbers: alice shares 12 and bob 10, and each of their items is the same.
use Rattle.std.specs.Prelude.{◌≡◌, ℕ, List, [], ◌∷◌}
use Rattle.vd_base.specs.declared.operations.Op.{Op}
use Rattle.vd_base.specs.declared.operations.Op.TheVariants as op
use Rattle.vd_duet.specs.Calls.{Places, Made}
use Rattle.vd_duet.specs.Laws.{words_at}
use Rattle.vd_bits.specs.Example.{alice, bob, twelve, ten, after_both}
use Rattle.vd_circuit.specs.CircuitCalls.{circuit_calls}

abbrev pub computed : Op → Made Places
computed o = (circuit_calls alice bob).apply o (twelve.given ∷ ten.given ∷ []) ten.next

-- the parts of what an operation gives
abbrev pub parts_of : Op → List ℕ
parts_of o = words_at (after_both (computed o).gadgets) (computed o).given

-- the exclusive or of 9 and 11 is 2, that of 10 and 0 is 10, that of 1 and 1 is 0
pub record TwelveWithTen : Type 0 where
  pub difference : parts_of op.Sub ≡ 9 ∷ 11 ∷ []
  pub lesser : parts_of op.Min ≡ 10 ∷ 0 ∷ []
  pub equal : parts_of op.Eq ≡ 1 ∷ 1 ∷ []
