use Rattle.std.proofs.Common.{ℕ, ◌<◌, ◌^◌, slice_index}
use Rattle.vd_base.proofs.words.words_fit.Given as goal

abbrev pub invariant-loop-word : goal.invariant-loop-word
invariant-loop-word l = (place : ℕ) → place < l.word-index → slice_index l.words place < 2 ^ 32
