-- By the tables a prefix grows by a choice as it should.
use Rattle.std.proofs.Common.{◌≡◌, ℕ, ◌<◌, true, List, [], ◌∷◌, length, sym, subst, arith, ℤ, ◌+ℤ◌, ◌-ℤ◌, FitsSigned, to_z, of_z, w64}
use Rattle.std.proofs.lemmas.Int.{ints}
use Rattle.std.proofs.lemmas.List.Elements.{All-append, All-cons, All-nil}
use Rattle.vd_space.specs.declared.problem.Problem.{Problem}
use Rattle.vd_space.specs.Validity.{protocols}
use Rattle.vd_space.specs.Growth.{guard_names}
use Rattle.vd_space_prefix.specs.declared.tables.Tables.{Tables}
use Rattle.vd_space_prefix.specs.Steps.{changes}
use Rattle.vd_space_prefix.specs.Guards.{guard_changes}
use Rattle.vd_space_prefix.specs.Naming.{all_at}
use Rattle.vd_space_prefix.specs.Transfers.{IsWithin}
use Rattle.vd_space_prefix.specs.Tables.{low_part, shifted_part, common_part, naming_at, gain_at, AreListed, AreTables, IsStep, GrowsBy}

-- a sum of a small number and what it grows by
abbrev Sum : ℤ → ℤ → ℤ → ℤ
Sum old gain growth = to_z w64 (of_z w64 old) +ℤ to_z w64 (of_z w64 (to_z w64 (of_z w64 gain) +ℤ to_z w64 (of_z w64 growth)))

pub small_gain : (gain growth : ℤ) → IsWithin 2305843009213693952 gain → IsWithin 4611686018427387904 growth → FitsSigned w64 (to_z w64 (of_z w64 gain) +ℤ to_z w64 (of_z w64 growth))
small_gain gain growth gain_small growth_small = omega (arith, ints, gain_small.low, gain_small.high, growth_small.low, growth_small.high)

pub small_sum : (old gain growth before after : ℤ) → old ≡ before → gain +ℤ growth ≡ after -ℤ before → IsWithin 2305843009213693952 before → IsWithin 2305843009213693952 after
    → IsWithin 2305843009213693952 gain → IsWithin 4611686018427387904 growth → FitsSigned w64 (Sum old gain growth) × (to_z w64 (of_z w64 (Sum old gain growth)) ≡ after)
small_sum old gain growth before after is grows first second gain_small growth_small =
    let same : Sum old gain growth ≡ after = omega (arith, ints, is, grows, first.low, first.high, second.low, second.high, gain_small.low, gain_small.high, growth_small.low, growth_small.high) in
    (omega (arith, ints, same, second.low, second.high), omega (arith, ints, same, second.low, second.high))

pub small_sum_turned : (old gain growth before after : ℤ) → old ≡ before → gain +ℤ growth ≡ after -ℤ before → IsWithin 2305843009213693952 before → IsWithin 2305843009213693952 after
    → IsWithin 4611686018427387904 gain → IsWithin 17592186044416 growth → FitsSigned w64 (Sum old gain growth) × (to_z w64 (of_z w64 (Sum old gain growth)) ≡ after)
small_sum_turned old gain growth before after is grows first second gain_small growth_small =
    let same : Sum old gain growth ≡ after = omega (arith, ints, is, grows, first.low, first.high, second.low, second.high, gain_small.low, gain_small.high, growth_small.low, growth_small.high) in
    (omega (arith, ints, same, second.low, second.high), omega (arith, ints, same, second.low, second.high))

pub listed_after : (problem : Problem) (before : List ℕ) (choice : ℕ) (after : List ℕ) → IsStep problem before choice after → AreListed problem after
listed_after problem before choice after step =
    subst (AreListed problem) (sym step.grown)
    (All-append (λ p. p < length (protocols problem)) before (choice ∷ []) step.listed (All-cons (λ p. p < length (protocols problem)) choice [] step.choice_listed (All-nil (λ p. p < length (protocols problem)))))

module _ (problem : Problem) (tables : Tables) (before : List ℕ) (choice : ℕ) (after : List ℕ) (are : AreTables problem tables) (step : IsStep problem before choice after) where
  grows : GrowsBy problem tables before choice
  grows = are.grows before choice step.listed step.room step.choice_listed

  pub guards_named : all_at (guard_names (length before)) problem.guards (naming_at tables (length before)).guards ≡ true
  guards_named = grows.named

  pub low_grows : gain_at tables.gains (length before) choice +ℤ changes tables.moves tables.arcs (naming_at tables (length before)).uses before after ≡ low_part problem after -ℤ low_part problem before
  low_grows = subst (λ list. gain_at tables.gains (length before) choice +ℤ changes tables.moves tables.arcs (naming_at tables (length before)).uses before list ≡ low_part problem list -ℤ low_part problem before) (sym step.grown) grows.low

  pub shifted_grows : gain_at tables.shifted_gains (length before) choice +ℤ changes tables.moves tables.shifted_arcs (naming_at tables (length before)).uses before after ≡ shifted_part problem tables.shifts after -ℤ shifted_part problem tables.shifts before
  shifted_grows = subst (λ list. gain_at tables.shifted_gains (length before) choice +ℤ changes tables.moves tables.shifted_arcs (naming_at tables (length before)).uses before list ≡ shifted_part problem tables.shifts list -ℤ shifted_part problem tables.shifts before) (sym step.grown) grows.shifted

  pub common_grows : changes tables.tells tables.index_arcs (naming_at tables (length before)).indexes before after +ℤ guard_changes problem tables.tellings (naming_at tables (length before)).guards before after ≡ common_part problem after -ℤ common_part problem before
  common_grows = subst (λ list. changes tables.tells tables.index_arcs (naming_at tables (length before)).indexes before list +ℤ guard_changes problem tables.tellings (naming_at tables (length before)).guards before list ≡ common_part problem list -ℤ common_part problem before) (sym step.grown) grows.common
