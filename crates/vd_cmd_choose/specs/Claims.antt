-- Generated sources are sources.
use Rattle.std.specs.Prelude.{◌≡◌, ℕ, ◌+◌, ◌*◌, ◌≤◌, List, Ok}
use Rattle.vd_core.specs.declared.source.Source.{Source}
use Rattle.vd_core.specs.Facts.{weight_sum}
use Rattle.vd_elaborate.specs.Normal.{normal_form}
use Rattle.vd_gen.specs.Sizes.{most_coordinates}
use Rattle.vd_gen.specs.Source.{generated}
use Rattle.vd_cmd_labels.specs.Outcomes.{TextOutcomes}
use Rattle.vd_cmd_labels.specs.Sources.{IsSourceText, source_of, resolved_of}

-- for every number of coordinates that a generated source may have
abbrev pub AtEachSize : (ℕ → Type 0) → Type 0
AtEachSize P = (coordinates : ℕ) → 1 ≤ coordinates → coordinates ≤ most_coordinates → P coordinates

-- the text for so many coordinates is that of a source that meets every rule
pub record GivesSource (coordinates : ℕ) : Type 0 where
  pub source : Source
  pub text : IsSourceText source (generated coordinates)
  -- the statements of its let-normal form are executed at most five times for each coordinate, and five times more
  pub executed : weight_sum (normal_form source).body ≤ 5 * coordinates + 5

-- Read as the text of a file of this name, it gives a tree and no refusal, and the tree meets every rule.
pub record IsRead (texts : TextOutcomes) (name : List ℕ) (coordinates : ℕ) : Type 0 where
  pub tree : Source
  pub reads : source_of texts name (generated coordinates) ≡ Ok tree
  pub meets : resolved_of tree ≡ Ok tree
