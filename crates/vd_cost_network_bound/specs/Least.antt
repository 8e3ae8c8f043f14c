-- The least of what terms cost, over settings that are listed.
use Rattle.std.specs.Prelude.{ℕ, Bool, false, Option, None, option_map, List, [], ◌∷◌, filter, length, slice_index_or, ℤ, pos, ◌+ℤ◌, ◌-ℤ◌}
use Rattle.std.specs.List.{range_with_len}
use Rattle.std.specs.Option.{option_map_or}
use Rattle.vd_space.specs.Bounds.{least_below}

-- ---- settings

-- those that pass
abbrev pub passing : List Bool → List ℕ
passing tests = filter (λ v. slice_index_or tests v false) (range_with_len 0 (length tests))

-- the one at which the point stands, or else those that are free
abbrev pub settings_at : List (List ℕ) → List (Option ℕ) → ℕ → List ℕ
settings_at free states point = option_map_or (λ v. v ∷ []) (slice_index_or states point None) (slice_index_or free point [])

-- ---- the least over them

abbrev pub least_among : List ℕ → (ℕ → Option ℤ) → Option ℤ
least_among settings value = least_below (length settings) (λ k. value (slice_index_or settings k 0))

-- with what shifts put on a point
abbrev pub value_with : List (Option ℤ) → List ℤ → ℕ → Option ℤ
value_with values amounts v = option_map (λ c. c +ℤ slice_index_or amounts v (pos 0)) (slice_index_or values v None)

-- less what shifts take from an arc on its first side, and on its second
abbrev pub cell_less : List (Option ℤ) → ℤ → List ℤ → ℕ → Option ℤ
cell_less row from to w = option_map (λ c. c -ℤ (from +ℤ slice_index_or to w (pos 0))) (slice_index_or row w None)

abbrev pub least_of_row : List ℕ → List (Option ℤ) → ℤ → List ℤ → Option ℤ
least_of_row seconds row from to = least_among seconds (cell_less row from to)

abbrev pub least_of_cells : List ℕ → List ℕ → List (List (Option ℤ)) → List ℤ → List ℤ → Option ℤ
least_of_cells firsts seconds cells from to = least_among firsts (λ v. least_of_row seconds (slice_index_or cells v []) (slice_index_or from v (pos 0)) to)
