use Rattle.std.proofs.Common.{ℕ, ◌<◌, ◌^◌, [], slice_index, slice_index_or}
use Rattle.vd_base.proofs.words.inputs_fit.Given as goal

abbrev pub invariant-loop-words : goal.invariant-loop-words
invariant-loop-words l = (h : ℕ) → h < l.words-index → (i : ℕ) → slice_index (slice_index_or l.inputs h []) i < 2 ^ 32
