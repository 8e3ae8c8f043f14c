-- The dearest rows of the drawing: the first three by their cost, of those that cost at least a twentieth of all.
use Rattle.std.specs.Prelude.{ℕ, suc, nat_le, nat_lt, Bool, ◌&&◌, ◌||◌, ◌==◌, if◌then◌else◌, List}
use Rattle.std.specs.List.{count_by}
use Rattle.vd_draw_layout.specs.declared.layout.Layout.{Layout}
use Rattle.vd_draw_layout.specs.declared.runs.Drawn.{Drawn}
use Rattle.vd_draw_layout.specs.Numbers.{times}

-- at least a twentieth of all
abbrev pub is_dear : ℕ → ℕ → Bool
is_dear total cost = nat_lt 0 cost && nat_le total (times cost 20)

-- a row that is dearer than one of this number and cost, or as dear and above it
abbrev pub comes_first : ℕ → ℕ → Drawn → Bool
comes_first number cost other = nat_lt cost other.cost || (cost == other.cost && nat_lt other.number number)

-- how many such rows there are
abbrev pub rank : List Drawn → ℕ → ℕ → ℕ
rank drawn number cost = count_by (comes_first number cost) drawn

-- the place of a row among the dearest, from 1 to 3; 0 where it is none of them
abbrev pub dear_place : Layout → ℕ → ℕ → ℕ
dear_place g number cost = if is_dear g.total cost then (if nat_lt (rank g.drawn number cost) 3 then suc (rank g.drawn number cost) else 0) else 0
