-- What shifts put on points.
use Rattle.std.proofs.Common.{◌≡◌, ℕ, zero, suc, cond, ◌&&◌, Option, Some, None, List, [], ◌∷◌, map, refl, ap, ◌∙◌, pos, slice_get, option_map}
use Rattle.std.specs.Prelude.{false, ◌==◌}
use Rattle.std.specs.Option.{option_map_or}
use Rattle.vd_search_tree.specs.declared.shift.Shift.{Shift}
use Rattle.vd_cost_network_tables.specs.declared.raw.RawArc.{RawArc}
use Rattle.vd_space.specs.declared.problem.Problem.{Problem}
use Rattle.vd_space.specs.Costs.{Pair, total}
use Rattle.vd_space.specs.Network.{end_of, point_shift}
use Rattle.vd_space.specs.Bounds.{signed}
use Rattle.vd_space.proofs.Front.{total_ext}
use Rattle.vd_space_tables.specs.declared.space_terms.sums.Rows.TheVariants.{Ends}
use Rattle.vd_cost_network_tables.specs.Sums.{part, side_of}
use Rattle.vd_cost_network_tables.specs.Tables.{raw_arc}

point_of : (point v : ℕ) (shift : Shift) (item : Option Pair)
    → cond (option_map_or (λ r. r == point) (option_map (λ (arc : Pair). end_of arc shift.side) item) false && shift.proto == v) (signed shift) (pos 0)
    ≡ option_map_or (λ (arc : Pair). cond (end_of arc shift.side == point && shift.proto == v) (signed shift) (pos 0)) item (pos 0)
point_of point v shift None = refl
point_of point v shift (Some arc) = refl

ends_same : (problem : Problem) (shift : Shift) (pairs : List Pair) (k : ℕ) → option_map (λ (arc : RawArc). side_of arc shift.side) (slice_get (map (raw_arc problem) pairs) k) ≡ option_map (λ (arc : Pair). end_of arc shift.side) (slice_get pairs k)
ends_same problem shift [] k = refl
ends_same problem shift (arc ∷ pairs) zero = refl
ends_same problem shift (arc ∷ pairs) (suc k) = ends_same problem shift pairs k

pub points_shifted : (problem : Problem) (pairs : List Pair) (point v : ℕ) (shifts : List Shift) → total (part (map (raw_arc problem) pairs) Ends point v) shifts ≡ total (point_shift pairs point v) shifts
points_shifted problem pairs point v shifts =
    total_ext (part (map (raw_arc problem) pairs) Ends point v) (point_shift pairs point v)
    (λ shift. ap (λ o. cond (option_map_or (λ r. r == point) o false && shift.proto == v) (signed shift) (pos 0)) (ends_same problem shift pairs shift.at) ∙ point_of point v shift (slice_get pairs shift.at)) shifts
