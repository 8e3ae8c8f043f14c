-- What the terms of one slot cost, by place.
use Rattle.std.specs.Prelude.{ℕ, ◌*◌, Option, unwrap_or, option_map, List, slice_index_or, ℤ, pos, ◌+ℤ◌}
use Rattle.vd_space.specs.declared.problem.Problem.{Problem}
use Rattle.vd_space.specs.Costs.{operation_value}
use Rattle.vd_space.specs.Bounds.{add, outputs_value}
use Rattle.vd_space_prefix.specs.Transfers.{IsWithin}

-- of a slot's operation and outputs together
abbrev pub together : Problem → ℕ → ℕ → Option ℤ
together problem slot p = add (operation_value problem slot p) (outputs_value problem slot p problem.outputs)

-- with what shifts put on it
abbrev pub with_shift : ℤ → Option ℤ → Option ℤ
with_shift shift value = option_map (λ v. v +ℤ shift) value

abbrev pub merged_value : Problem → ℕ → List ℤ → ℕ → Option ℤ
merged_value problem slot shifted p = with_shift (slice_index_or shifted p (pos 0)) (together problem slot p)

-- 2^48, so often: a weight is at most 2^16, and a price a number of 32 bits
abbrev pub HasRoom : ℕ → Option ℤ → Type 0
HasRoom times value = IsWithin (281474976710656 * times) (unwrap_or value (pos 0))

abbrev pub AreSmall : ℕ → List ℤ → Type 0
AreSmall most amounts = (p : ℕ) → IsWithin most (slice_index_or amounts p (pos 0))
