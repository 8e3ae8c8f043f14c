-- Fronts of streams and of texts.
use Rattle.std.proofs.Common.{◌≡◌, ℕ, zero, suc, List, [], ◌∷◌, ◌++◌, length, refl, sym, ap, ◌∙◌, append_assoc, inl, inr}
use Rattle.std.proofs.lemmas.List.{append-nil}
use Rattle.std.specs.Prelude.{flat_map, slice_get, drop, take, Some}
use Rattle.std.proofs.Math.Seq.{drop-append_seam}
use Rattle.vd_execution.specs.World.{IsPrefixOf}
use Rattle.vd_link.specs.Frames.{frame, frames}
use Rattle.vd_link.specs.Laws.{ArePackets}
use Rattle.vd_link.specs.Receiving.{IsBadByte}
use Rattle.vd_link.proofs.Front.{packet_same}

pub front_trans : {X : Type 0} (xs ys zs : List X) → IsPrefixOf xs ys → IsPrefixOf ys zs → IsPrefixOf xs zs
front_trans xs ys zs p q = (p.0 ++ q.0, sym (append_assoc xs p.0 q.0) ∙ ap (λ l. l ++ q.0) p.1 ∙ q.1)

pub front_same : {X : Type 0} (xs ys : List X) → xs ≡ ys → IsPrefixOf xs ys
front_same xs ys e = ([], append-nil xs ∙ e)

pub front_both : {X : Type 0} (xs ys zs : List X) → IsPrefixOf ys zs → IsPrefixOf (xs ++ ys) (xs ++ zs)
front_both xs ys zs p = (p.0, append_assoc xs ys p.0 ∙ ap (λ l. xs ++ l) p.1)

pub flat_both : {X Y : Type 0} (f : X → List Y) (xs ys : List X) → flat_map f (xs ++ ys) ≡ flat_map f xs ++ flat_map f ys
flat_both f [] ys = refl
flat_both f (x ∷ xs) ys = ap (λ l. f x ++ l) (flat_both f xs ys) ∙ sym (append_assoc (f x) (flat_map f xs) (flat_map f ys))

pub flat_front : {X Y : Type 0} (f : X → List Y) (xs ys : List X) → IsPrefixOf xs ys → IsPrefixOf (flat_map f xs) (flat_map f ys)
flat_front f xs ys p = (flat_map f p.0, sym (flat_both f xs p.0) ∙ ap (flat_map f) p.1)

pub taken_front : (n : ℕ) (xs : List ℕ) → IsPrefixOf (take n xs) xs
taken_front zero xs = (xs, refl)
taken_front (suc n) [] = ([], refl)
taken_front (suc n) (x ∷ xs) = let p = taken_front n xs in (p.0, ap (λ l. x ∷ l) p.1)

-- a stream that is a prefix of packets is packets, as far as it is whole
pub packets_front : (xs ys : List (List ℕ)) (rest : List ℕ) → ArePackets xs → ArePackets ys → frames xs ++ rest ≡ frames ys
    → (zs : List (List ℕ)) × (xs ++ zs ≡ ys) × (rest ≡ frames zs)
packets_front [] ys rest fit others is = (ys, refl, is)
packets_front (x ∷ xs) [] rest fit others is = absurd cc
packets_front (x ∷ xs) (y ∷ ys) rest fit others is =
    let one = packet_same x y (frames xs ++ rest) (frames ys) fit.0 others.0 (sym (append_assoc (frame x) (frames xs) rest) ∙ is) in
    let more = packets_front xs ys rest fit.1 others.1 one.1 in
    (more.0, ap (λ l. x ∷ l) more.1 ∙ ap (λ l. l ∷ ys) one.0, more.2)

pub next_there : {X : Type 0} (xs zs : List X) (z : X) → slice_get (xs ++ z ∷ zs) (length xs) ≡ Some z
next_there [] zs z = refl
next_there (x ∷ xs) zs z = next_there xs zs z

-- no byte of such a stream is wrong where the awaited packet comes next
pub no_bad_byte : (count offset next place byte : ℕ) (rest more : List ℕ) (zs : List (List ℕ)) → rest ++ more ≡ frames zs → ((z : List ℕ) (after : List (List ℕ)) → zs ≡ z ∷ after → length z ≡ count)
    → IsBadByte 0x56 count offset next place byte rest → ⊥
no_bad_byte count offset next place byte rest more [] is counted (inl at) = let begins = at.1.begins in absurd (starts rest more byte at.1.rest begins is)
  where
    starts : (rest more : List ℕ) (byte : ℕ) (behind : List ℕ) → rest ≡ byte ∷ behind → rest ++ more ≡ [] → ⊥
    starts rest more byte behind e is = let f : byte ∷ (behind ++ more) ≡ [] = ap (λ l. l ++ more) (sym e) ∙ is in cc
no_bad_byte count offset next place byte rest more [] is counted (inr at) = let begins = at.1.begins in absurd (starts rest more 0x56 (byte ∷ at.1.rest) begins is)
  where
    starts : (rest more : List ℕ) (byte : ℕ) (behind : List ℕ) → rest ≡ byte ∷ behind → rest ++ more ≡ [] → ⊥
    starts rest more byte behind e is = let f : byte ∷ (behind ++ more) ≡ [] = ap (λ l. l ++ more) (sym e) ∙ is in cc
no_bad_byte count offset next place byte rest more (z ∷ zs) is counted (inl at) =
    let f : byte ∷ (at.1.rest ++ more) ≡ frames (z ∷ zs) = ap (λ l. l ++ more) (sym at.1.begins) ∙ is in
    let same : byte ≡ 0x56 = cc in
    at.1.wrong same
no_bad_byte count offset next place byte rest more (z ∷ zs) is counted (inr at) =
    let f : 0x56 ∷ (byte ∷ (at.1.rest ++ more)) ≡ frames (z ∷ zs) = ap (λ l. l ++ more) (sym at.1.begins) ∙ is in
    let same : byte ≡ length z = cc in
    at.1.wrong (same ∙ counted z zs refl)

pub added : (xs ys zs : List ℕ) → zs ≡ xs ++ ys → drop (length xs) zs ≡ ys
added xs ys zs e = ap (drop (length xs)) e ∙ drop-append_seam xs ys
