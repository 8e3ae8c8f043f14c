-- Which branches tell who is on the way which way they go: those in which hosts send.
use Rattle.std.specs.Prelude.{ℕ, nat_lt, Bool, true, false, ◌&&◌, ◌||◌, Option, Some, None, List, [], ◌∷◌}
use Rattle.std.specs.List.{list_any}
use Rattle.vd_base.specs.declared.protocols.Proto.{Proto}
use Rattle.vd_base.specs.declared.protocols.Proto.TheVariants.{Add, Xor}
use Rattle.vd_draw_rows.specs.declared.row.Kind.{Kind}
use Rattle.vd_draw_rows.specs.declared.row.Kind.TheVariants as kind
use Rattle.vd_draw_rows.specs.declared.row.Move.{Move}
use Rattle.vd_draw_rows.specs.declared.row.Row.{Row}

-- words are sent for each move that costs something
abbrev pub move_sends : Move → Bool
move_sends m = nat_lt 0 m.cost

-- two hosts that share words send for an operation, unless each does its part by itself, which costs 2
abbrev pub operation_sends : Option Proto → ℕ → Bool
operation_sends (Some (Add a b)) cost = nat_lt 2 cost
operation_sends (Some (Xor a b)) cost = nat_lt 2 cost
operation_sends at cost = false

abbrev pub row_sends : Row → Bool
row_sends row = list_any move_sends row.moves || operation_sends row.at row.operation

-- hosts send in one of the rows that follow, as long as they stand deeper
abbrev pub sends_inside : ℕ → List Row → Bool
sends_inside depth [] = false
sends_inside depth (row ∷ rest) = nat_lt depth row.depth && (row_sends row || sends_inside depth rest)

abbrev pub is_branch : Kind → Bool
is_branch kind.Branch = true
is_branch other = false

-- a row begins a branch in which hosts send, where these rows follow
abbrev pub is_seen_on_the_way : Row → List Row → Bool
is_seen_on_the_way row rest = is_branch row.kind && sends_inside row.depth rest
