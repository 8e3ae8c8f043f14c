-- Arcs of terms of two slots.
use Rattle.std.specs.Prelude.{◌≡◌, ℕ, Bool, Option, Some, List, [], length, slice_get, slice_index_or, ℤ}
use Rattle.vd_space.specs.declared.problem.Problem.{Problem}
use Rattle.vd_space.specs.declared.problem.Use.{Use}
use Rattle.vd_space.specs.declared.problem.Index.{Index}
use Rattle.vd_space.specs.Costs.{Pair}
use Rattle.vd_space.specs.Bounds.{least_pair}
use Rattle.vd_space_prefix.specs.declared.transfers.Arc.{Arc}
use Rattle.vd_space_prefix.specs.declared.transfers.Transfer.{Transfer}
use Rattle.vd_space_prefix.specs.Transfers.{arc_of}
use Rattle.vd_space_prefix.specs.Steps.{AreArcs, under}
use Rattle.vd_space_prefix.specs.Tables.{AreListed}

-- a value that is moved to where it is used, with what shifts take from its cost on either side
abbrev pub use_transfer : Use → List ℤ → List ℤ → Transfer
use_transfer u from to = record { first = u.source.0; second = u.target.0; weight = u.weight; from = from; to = to }

abbrev pub index_transfer : Index → Transfer
index_transfer i = record { first = i.array.0; second = i.index.0; weight = i.weight; from = []; to = [] }

-- where its slots may stand at their candidates
abbrev pub arc_between : List (List (Option ℕ)) → Transfer → List (List Bool) → Arc
arc_between prices t candidates = arc_of prices t (slice_index_or candidates t.first []) (slice_index_or candidates t.second [])

-- by number: under every prefix an arc is the least of its term
pub record AreArcsOf (problem : Problem) (prices : List (List (Option ℕ))) (terms : List Pair) (arcs : List Arc) : Type 0 where
  pub size : length arcs ≡ length terms
  pub small : AreArcs arcs
  pub under : (k : ℕ) (term : Pair) → slice_get terms k ≡ Some term → (arc : Arc) × (slice_get arcs k ≡ Some arc) × ((front : List ℕ) → AreListed problem front → under prices arc front ≡ least_pair problem front term)
