-- A piece of which the front is filled.
use Rattle.std.proofs.Common.{arith, ◌≡◌, ◌≤◌, ℕ, Bool, false, List, ◌++◌, length, take, drop, min, max, cond, sym, ap, ◌∙◌}
use Rattle.std.proofs.lemmas.List.{append_assoc, take-append-drop, drop-append-le, length-take-le}
use Rattle.vd_fakes.specs.Failing.{fails_next}
use Rattle.vd_fakes.specs.SureLink.{share_into, piece_after}
use Rattle.vd_fakes.specs.MemLink.{MemLinkState, piece_left}

-- what is behind so many items of a front, and then what is behind the front, is what is behind so many items of all
behind : (xs : List ℕ) (count most : ℕ) → count ≤ most → most ≤ length xs → drop count (take most xs) ++ drop most xs ≡ drop count xs
behind xs count most few within =
    sym (drop-append-le count (take most xs) (drop most xs) (omega (arith, length-take-le most xs within))) ∙ ap (λ (ys : List ℕ). drop count ys) (take-append-drop most xs)

-- so it is where something else stands before it
filled : (front xs : List ℕ) (count most : ℕ) → count ≤ most → most ≤ length xs → (front ++ drop count (take most xs)) ++ drop most xs ≡ front ++ drop count xs
filled front xs count most few within =
    append_assoc front (drop count (take most xs)) (drop most xs) ∙ ap (λ (ys : List ℕ). front ++ ys) (behind xs count most few within)

-- a receive into the front of a piece leaves what one into the whole of it does
pub left : (link : MemLinkState) (piece into : List ℕ) (most : ℕ) → fails_next link.failures ≡ false → most ≡ min (length into) (max link.most 1)
    → piece ≡ piece_after link.held (take most into) → piece ++ drop most into ≡ piece_left link into
left link piece into most goes most_is is =
    let within : most ≤ length into = omega (arith, most_is) in
    let whole : ℕ → List ℕ = λ n. take (share_into link.held n) link.held.coming ++ drop (share_into link.held n) into in
    ap (λ (p : List ℕ). p ++ drop most into) is
    ∙ ap (λ (n : ℕ). (take (share_into link.held n) link.held.coming ++ drop (share_into link.held n) (take most into)) ++ drop most into) (length-take-le most into within)
    ∙ filled (take (share_into link.held most) link.held.coming) into (share_into link.held most) most (omega arith) within
    ∙ ap whole most_is
    ∙ sym (ap (λ (b : Bool). cond b into (whole (min (length into) (max link.most 1)))) goes)
