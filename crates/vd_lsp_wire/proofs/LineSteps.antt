-- The lines that end in bytes, byte by byte.
use Rattle.std.proofs.Common.{◌≡◌, ◌≤◌, ◌<◌, ℕ, suc, ◌+◌, List, [], ◌∷◌, length, drop, get_or, ap, if◌then◌else◌, add-one, drop-cons}
use Rattle.std.proofs.Math.ListN.{drop_of_length-le}
use Rattle.vd_lsp_wire.specs.Places.{ends_line, lines_from}

pub one_line : (before : ℕ) (bytes : List ℕ) (i : ℕ) → i < length bytes
    → lines_from before (drop i bytes) ≡ (if ends_line before (get_or bytes i 0) then 1 else 0) + lines_from (get_or bytes i 0) (drop (i + 1) bytes)
unfolding lines_from
one_line before bytes i lt = rw (add-one i) (ap (lines_from before) (drop-cons bytes i 0 lt))

pub no_line : (before : ℕ) (bytes : List ℕ) (i : ℕ) → length bytes ≤ i → lines_from before (drop i bytes) ≡ 0
unfolding lines_from
no_line before bytes i past = ap (lines_from before) (drop_of_length-le bytes past)
