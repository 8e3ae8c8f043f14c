-- What is known where endorsed words are given, and declassified ones are freed.
use Rattle.std.proofs.Common.{ℕ, Bool}
use Rattle.vd_noninter.specs.Watching.{declassifications, endorsements}
use Rattle.vd_noninter.specs.Flowing.{Knowledge}

abbrev pub vouching : (kept : ℕ → Bool) (vouched freed : ℕ → ℕ → Bool) (known heard : ℕ → Bool) → Knowledge
vouching kept vouched freed known heard = record { kept = kept; given = endorsements vouched; freed = declassifications freed; known = known; heard = heard }
