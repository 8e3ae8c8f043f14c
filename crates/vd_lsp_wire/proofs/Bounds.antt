-- A front is no longer than the whole.
use Rattle.std.proofs.Common.{◌≤◌, ℕ, Bool, List, length}
use Rattle.std.specs.List.{prefix_len}
use Rattle.std.proofs.lemmas.List.Sums.{prefix_len-le-length}

pub prefix_within : (test : ℕ → Bool) (bytes : List ℕ) → prefix_len test bytes ≤ length bytes
prefix_within test bytes = prefix_len-le-length test bytes
