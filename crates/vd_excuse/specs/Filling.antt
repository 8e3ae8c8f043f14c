-- Inputs that reach for a run: followed by zeros up to what is taken at most.
use Rattle.std.specs.Prelude.{ℕ, ◌-◌, List, [], ◌++◌, length, map, replicate, slice_get, slice_index_or}
use Rattle.std.specs.List.{range_with_len}
use Rattle.std.specs.Option.{option_map_or}
use Rattle.vd_deal_needs.specs.declared.taking.HostNeeds.{HostNeeds}

-- words, followed by zeros up to a length
abbrev pub fill : List ℕ → (len : ℕ) → List ℕ
fill words len = words ++ replicate (len - length words) 0

-- how many inputs a host takes at most
abbrev pub inputs_taken : List HostNeeds → (host : ℕ) → ℕ
inputs_taken needs h = option_map_or (λ (n : HostNeeds). n.inputs) (slice_get needs h) 0

abbrev pub filled_at : List (List ℕ) → List HostNeeds → (host : ℕ) → List ℕ
filled_at inputs needs h = fill (slice_index_or inputs h []) (inputs_taken needs h)

-- the inputs of all hosts
abbrev pub filled : List (List ℕ) → List HostNeeds → List (List ℕ)
filled inputs needs = map (filled_at inputs needs) (range_with_len 0 (length inputs))
