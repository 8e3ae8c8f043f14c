-- A piece of which a part is given.
use Rattle.std.proofs.Common.{◌≡◌, ◌∙◌, ◌≤◌, ◌+◌, ◌-◌, ℕ, List, ◌++◌, length, take, drop, ap, ap₂, sym, arith, length-take}
use Rattle.std.proofs.lemmas.List.{drop-drop, drop-take, take_all, take-append-drop, take-append-le}

-- what is given, and what is left then
pub given : (bytes into copied : List ℕ) (start filled count : ℕ) → start + count ≤ filled → count ≤ length into → length copied ≡ length (take count into)
    → copied ≡ take count (take (filled - start) (drop start bytes))
    → take (filled - start) (drop start bytes) ≡ take count (copied ++ drop count into) ++ take (filled - (start + count)) (drop (start + count) bytes)
given bytes into copied start filled count within room len is =
    let left = take (filled - start) (drop start bytes) in
    let enough : count ≤ length copied = omega (arith, len, room, length-take count into) in
    let front : take count (copied ++ drop count into) ≡ copied =
    take-append-le count copied (drop count into) enough ∙ take_all count copied (omega (arith, len, length-take count into)) in
    let parted : filled - start ≡ count + (filled - (start + count)) = omega (arith, within) in
    let rest : drop count left ≡ take (filled - (start + count)) (drop (start + count) bytes) =
    ap (λ (n : ℕ). drop count (take n (drop start bytes))) parted
    ∙ drop-take count (filled - (start + count)) (drop start bytes)
    ∙ ap (take (filled - (start + count))) (drop-drop count start bytes) in
    sym (take-append-drop count left) ∙ ap₂ (λ (a b : List ℕ). a ++ b) (sym (front ∙ is)) rest
