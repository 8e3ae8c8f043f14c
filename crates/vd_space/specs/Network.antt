-- The bound by arcs: the sum of the least terms of all points and arcs, where shifts may touch each arc.
use Rattle.std.specs.Prelude.{ℕ, ◌+◌, min, ◌&&◌, ◌==◌, if◌then◌else◌, unwrap_or, option_map, List, [], ◌∷◌, map, slice_get, ℤ, pos, negsuc, ◌+ℤ◌, ◌-ℤ◌}
use Rattle.std.specs.Int.{div_ceil, int_max}
use Rattle.std.specs.Option.{option_map_or}
use Rattle.vd_search_tree.specs.Trees.{Tree}
use Rattle.vd_search_tree.specs.declared.shift.Shift.{Shift}
use Rattle.vd_space.specs.declared.problem.Problem.{Problem}
use Rattle.vd_space.specs.Costs.{One, Pair, total}
use Rattle.vd_space.specs.Bounds.{high, signed, use_shift}
use Rattle.vd_space.specs.Spaces.{tree_of}
use Rattle.vd_space.specs.Points.{States, points, decided, least_over}
use Rattle.vd_space.specs.Arcs.{point_value, arcs}

-- ---- shifts, which name arcs as they named uses

abbrev pub end_of : Pair → ℕ → ℕ
end_of arc side = if side == 0 then arc.first else arc.second

-- what a shift puts on the term of a point
abbrev pub point_shift : List Pair → ℕ → ℕ → Shift → ℤ
point_shift pairs point v shift = option_map_or (λ arc. if end_of arc shift.side == point && shift.proto == v then signed shift else pos 0) (slice_get pairs shift.at) (pos 0)

abbrev pub network_one : Problem → List Shift → ℕ → One
network_one problem shifts point = record {
  slot = point;
  value = λ v. option_map (λ c. c +ℤ total (point_shift (arcs problem) point v) shifts) (point_value problem point v);
}

-- what shifts leave on the arc with this number
abbrev pub network_pair : List Shift → ℕ → Pair → Pair
network_pair shifts at arc = record {
  first = arc.first;
  second = arc.second;
  value = λ v w. option_map (λ c. c -ℤ total (use_shift at v w) shifts) (arc.value v w);
}

abbrev pub network_pairs : List Shift → ℕ → List Pair → List Pair
network_pairs shifts at [] = []
network_pairs shifts at (arc ∷ rest) = network_pair shifts at arc ∷ network_pairs shifts (at + 1) rest

-- ---- the least of terms

-- a term with nothing left: 1,000,000,000 units
abbrev pub no_parts_left : ℤ
no_parts_left = pos 256000000000

abbrev pub least_point : Problem → States → One → ℤ
least_point problem states one = unwrap_or (least_over problem states one.slot one.value) no_parts_left

abbrev pub least_arc : Problem → States → Pair → ℤ
least_arc problem states arc = unwrap_or (least_over problem states arc.first (λ v. least_over problem states arc.second (arc.value v))) no_parts_left

-- in parts, by what is decided of each point
abbrev pub network_under : Problem → List Shift → States → ℤ
network_under problem shifts states =
    total (least_point problem states) (map (network_one problem shifts) (points problem)) +ℤ total (least_arc problem states) (network_pairs shifts 0 (arcs problem))

abbrev pub by_arcs : Problem → List Shift → List ℕ → ℤ
by_arcs problem shifts prefix = network_under problem shifts (decided problem prefix)

-- ---- the bound

-- in units, rounded up; less than nothing counts nothing, and no list costs 2^32 or more
abbrev pub units : ℤ → ℤ
units (pos n) = pos (min (div_ceil n 256) 4294967296)
units (negsuc n) = pos 0

-- the greater of the bound without shifts and that by arcs
abbrev pub network_high : Problem → List Shift → List ℕ → ℤ
network_high problem shifts prefix = int_max (high problem [] prefix) (units (by_arcs problem shifts prefix))

-- the tree of a problem's lists with this bound
abbrev pub network_tree : Problem → List Shift → Tree
network_tree problem shifts = record (tree_of problem shifts) { bound = network_high problem shifts }
