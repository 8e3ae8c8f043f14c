-- Which items a hastened host asks for.
use Rattle.std.specs.Prelude.{◌≡◌, ◌⊎◌, ℕ, ◌<◌, List}
use Rattle.vd_execution.specs.Code.{Code}
use Rattle.vd_execution.specs.Step.{Source, Item, need}
use Rattle.vd_execution.specs.World.{Local, Supply, Tape, endless, followed_by_zeros}
use Rattle.vd_execution.specs.Histories.{Goes, gone, IsLinked}
use Rattle.vd_reorder.specs.Hastening.{at, IsHastened}
use Rattle.vd_reorder.specs.Ahead.{IsHeldUp}

-- a host comes from its start to where it is held up by its peers, or it takes more than so many items from a list
pub record TakesMore (t : Tape) (h : ℕ) (stream : ℕ → List (List ℕ)) (begun : Local) (source : Source) (count : ℕ) : Type 0 where
  pub words : List (List ℕ)
  pub goes : Goes (endless t) h begun words
  pub linked : IsLinked stream begun words
  pub more : IsHeldUp stream (gone begun words) ⊎ (count < (gone begun words).state.cursors source)

-- Each item that a hastened host asks for is one that it would have asked for, unless a packet or a comparison held it up before. So a
-- list that is too short for a hastened host is too short for its own code, which may be told of something else first.
abbrev pub NoItemIsNew : Type 0
NoItemIsNew = (s : Supply) (h : ℕ) (stream : ℕ → List (List ℕ)) (l : Local) (c d : Code) (words : List (List ℕ)) (source : Source) → IsHastened c d
    → Goes s h (at l d) words → IsLinked stream (at l d) words → need (gone (at l d) words).state ≡ Item source
    → TakesMore (followed_by_zeros s) h stream (at l c) source ((gone (at l d) words).state.cursors source)
