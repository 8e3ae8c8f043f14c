-- What arcs cost under a prefix, and what that grows by from a prefix to another.
use Rattle.std.specs.Prelude.{ℕ, Option, None, Some, unwrap_or, slice_get, List, slice_index_or, ℤ, pos, ◌-ℤ◌, IfSome}
use Rattle.std.specs.Option.{option_map_or}
use Rattle.vd_space.specs.Costs.{total}
use Rattle.vd_space.specs.Bounds.{nothing_left}
use Rattle.vd_space_prefix.specs.declared.transfers.Arc.{Arc}
use Rattle.vd_space_prefix.specs.Transfers.{IsTransfer, IsWithin, cell}

-- by which of the two slots are decided
abbrev pub at_places : List (List (Option ℕ)) → Arc → Option ℕ → Option ℕ → ℤ
at_places prices arc None None = arc.both
at_places prices arc (Some p) None = slice_index_or arc.rows p (pos 0)
at_places prices arc None (Some q) = slice_index_or arc.columns q (pos 0)
at_places prices arc (Some p) (Some q) = unwrap_or (cell prices arc.transfer p q) nothing_left

abbrev pub under : List (List (Option ℕ)) → Arc → List ℕ → ℤ
under prices arc prefix = at_places prices arc (slice_get prefix arc.transfer.first) (slice_get prefix arc.transfer.second)

-- of an arc by its number
abbrev pub change : List (List (Option ℕ)) → List Arc → List ℕ → List ℕ → ℕ → ℤ
change prices arcs before after number = option_map_or (λ arc. under prices arc after -ℤ under prices arc before) (slice_get arcs number) (pos 0)

-- of the arcs with these numbers
abbrev pub changes : List (List (Option ℕ)) → List Arc → List ℕ → List ℕ → List ℕ → ℤ
changes prices arcs numbers before after = total (change prices arcs before after) numbers

-- an arc whose numbers are small: 2^50
pub record IsArc (arc : Arc) : Type 0 where
  pub transfer : IsTransfer arc.transfer
  pub rows : (p : ℕ) → IsWithin 1125899906842624 (slice_index_or arc.rows p (pos 0))
  pub columns : (q : ℕ) → IsWithin 1125899906842624 (slice_index_or arc.columns q (pos 0))
  pub both : IsWithin 1125899906842624 arc.both

abbrev pub AreArcs : List Arc → Type 0
AreArcs arcs = (number : ℕ) → IfSome (slice_get arcs number) IsArc
