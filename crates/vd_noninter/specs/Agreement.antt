-- States that agree on what is kept.
use Rattle.std.specs.Prelude.{◌≡◌, ℕ, true, List, [], length, slice_index, slice_index_or}
use Rattle.vd_semantics.specs.ProgramMeaning.{SlotState}
use Rattle.vd_noninter.specs.Flowing.{Knowledge}

-- equal once the shorter is followed by zeros
abbrev pub SameWords : List ℕ → List ℕ → Type 0
SameWords xs ys = (i : ℕ) → slice_index xs i ≡ slice_index ys i

-- equal words of kept slots, equal inputs left of known hosts, and equal words told to heard hosts
pub record Agree (k : Knowledge) (s t : SlotState) : Type 0 where
  pub words : (x : ℕ) → k.kept x ≡ true → slice_index s.words x ≡ slice_index t.words x
  pub arrays : (x : ℕ) → k.kept x ≡ true → slice_index_or s.arrays x [] ≡ slice_index_or t.arrays x []
  pub inputs : (host : ℕ) → k.known host ≡ true → SameWords (slice_index_or s.world.inputs host []) (slice_index_or t.world.inputs host [])
  pub hosts : length s.world.outputs ≡ length t.world.outputs
  pub outputs : (host : ℕ) → k.heard host ≡ true → slice_index_or s.world.outputs host [] ≡ slice_index_or t.world.outputs host []
