-- The item that explains is the only one.
use Rattle.std.proofs.Common.{◌≡◌, ◌≢◌, ℕ, ◌+◌, ◌*◌, ◌%◌, ◌^◌, List, sym, ap, ap₂, ◌∙◌, bit_and, bit_xor}
use Rattle.vd_execution.specs.Registers.{nth}
use Rattle.vd_execution.specs.Step.{Source, Triples, BitTriples}
use Rattle.vd_execution.specs.World.{Tape}
use Rattle.vd_execution.specs.Deals.{IsValidDeal}
use Rattle.vd_execution.specs.Joint.{Hosts}
use Rattle.vd_execution.specs.Gadgets.{Sharing, BySums, ByXors, Masking, source_of}
use Rattle.vd_views.specs.Hiding.{next_item, HidesAlike}
use Rattle.vd_views.specs.Items.{IsSameItem}
use Rattle.vd_views.proofs.Masks.{only_difference, only_xor, only_made_up, only_xor_made_up}

-- two deals with the same part for h that both hide alike from one first run have the same next item
pub one_item : (h : ℕ) (t y z : Tape) (w v : Hosts) (sharing : Sharing) (m : Masking) → m.host.0 ≢ h → IsValidDeal y → IsValidDeal z → y h ≡ z h
    → HidesAlike sharing m h t y w v → HidesAlike sharing m h t z w v → IsSameItem (next_item y v m.host.0 (source_of sharing h)) (next_item z v m.host.0 (source_of sharing h))
one_item h t y z w v BySums m ne dy dz same a b =
    let k : ℕ = m.host.0 in
    let i : ℕ = (v k).cursors (Triples h) in
    let xs : List ℕ = y k (Triples h) i in
    let ys : List ℕ = z k (Triples h) i in
    let mine : List ℕ = z h (Triples k) i in
    let e0 : nth xs 0 ≡ nth ys 0 = only_difference ((v k).registers m.x.0) (nth xs 0) (nth ys 0) (dy.words _ _ _ _) (dz.words _ _ _ _) (sym a.0 ∙ b.0) in
    let e1 : nth xs 1 ≡ nth ys 1 = only_difference ((v k).registers m.y.0) (nth xs 1) (nth ys 1) (dy.words _ _ _ _) (dz.words _ _ _ _) (sym a.1 ∙ b.1) in
    let part : y h (Triples k) i ≡ mine = ap (λ (f : Source → ℕ → List ℕ). f (Triples k) i) same in
    let one : ((nth xs 0 + nth mine 0) * (nth xs 1 + nth mine 1)) % 2 ^ 32 ≡ (nth xs 2 + nth mine 2) % 2 ^ 32 =
    ap (λ (q : List ℕ). ((nth xs 0 + nth q 0) * (nth xs 1 + nth q 1)) % 2 ^ 32) (sym part) ∙ dy.triples k h i ne ∙ ap (λ (q : List ℕ). (nth xs 2 + nth q 2) % 2 ^ 32) part in
    let two : ((nth xs 0 + nth mine 0) * (nth xs 1 + nth mine 1)) % 2 ^ 32 ≡ (nth ys 2 + nth mine 2) % 2 ^ 32 =
    ap₂ (λ (p q : ℕ). ((p + nth mine 0) * (q + nth mine 1)) % 2 ^ 32) e0 e1 ∙ dz.triples k h i ne in
    (e0, (e1, only_made_up _ (nth mine 2) (nth xs 2) (nth ys 2) (dy.words _ _ _ _) (dz.words _ _ _ _) one two))
one_item h t y z w v ByXors m ne dy dz same a b =
    let k : ℕ = m.host.0 in
    let i : ℕ = (v k).cursors (BitTriples h) in
    let xs : List ℕ = y k (BitTriples h) i in
    let ys : List ℕ = z k (BitTriples h) i in
    let mine : List ℕ = z h (BitTriples k) i in
    let e0 : nth xs 0 ≡ nth ys 0 = only_xor ((v k).registers m.x.0) (nth xs 0) (nth ys 0) (sym a.0 ∙ b.0) in
    let e1 : nth xs 1 ≡ nth ys 1 = only_xor ((v k).registers m.y.0) (nth xs 1) (nth ys 1) (sym a.1 ∙ b.1) in
    let part : y h (BitTriples k) i ≡ mine = ap (λ (f : Source → ℕ → List ℕ). f (BitTriples k) i) same in
    let one : bit_and (bit_xor (nth xs 0) (nth mine 0)) (bit_xor (nth xs 1) (nth mine 1)) ≡ bit_xor (nth xs 2) (nth mine 2) =
    ap (λ (q : List ℕ). bit_and (bit_xor (nth xs 0) (nth q 0)) (bit_xor (nth xs 1) (nth q 1))) (sym part) ∙ dy.bit_triples k h i ne ∙ ap (λ (q : List ℕ). bit_xor (nth xs 2) (nth q 2)) part in
    let two : bit_and (bit_xor (nth xs 0) (nth mine 0)) (bit_xor (nth xs 1) (nth mine 1)) ≡ bit_xor (nth ys 2) (nth mine 2) =
    ap₂ (λ (p q : ℕ). bit_and (bit_xor p (nth mine 0)) (bit_xor q (nth mine 1))) e0 e1 ∙ dz.bit_triples k h i ne in
    (e0, (e1, only_xor_made_up (bit_and (bit_xor (nth xs 0) (nth mine 0)) (bit_xor (nth xs 1) (nth mine 1))) (nth mine 2) (nth xs 2) (nth ys 2) one two))
