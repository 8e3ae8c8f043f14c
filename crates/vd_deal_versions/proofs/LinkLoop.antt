-- Reading the lines of peers of a file of version 2 one after the other, as a loop does.
use Rattle.std.proofs.Common.{◌≡◌, ℕ, suc, ◌+◌, ◌-◌, ◌<◌, ◌≤◌, List, [], ◌∷◌, ◌++◌, Ok, Err, refl, sym, ap, ◌∙◌, append_assoc, arith}
use Rattle.std.proofs.lemmas.List.{append-nil}
use Rattle.vd_base_codec.specs.Reading.{Reading, ◌>>=◌, StopsOrMemory}
use Rattle.vd_base_codec.specs.declared.fault.CodecFault.{CodecFault}
use Rattle.vd_base_codec.specs.declared.fault.CodecFault.TheVariants as fault
use Rattle.vd_tape.specs.Validity.{peer_at}
use Rattle.vd_deal_versions.specs.declared.reading.Linked.{Linked}
use Rattle.vd_deal_versions.specs.declared.reading.LinkedShare.{LinkedShare}
use Rattle.vd_deal_versions.specs.Reading.{one_at, linked_at, with_linked, no_links}
use Rattle.vd_deal_versions.proofs.LinksExact.{same_linked}

abbrev pub joined : Linked → Linked → Linked
joined f ls = record { links = f.links ++ ls.links; triples = f.triples ++ ls.triples; bits = f.bits ++ ls.bits; pairs = f.pairs ++ ls.pairs }

abbrev pub and_one : Linked → LinkedShare → Linked
and_one f x = record { links = f.links ++ x.link ∷ []; triples = f.triples ++ x.share.triples ∷ []; bits = f.bits ++ x.share.bits ∷ []; pairs = f.pairs ++ x.share.pairs ∷ [] }

-- what was read before, and what is still read
abbrev pub with_front : Linked → Reading Linked → Reading Linked
with_front front read = read >>= λ x. Ok (joined front x.0, x.1)

regroup : (front : Linked) (x : LinkedShare) (read : Reading Linked) → with_front front (read >>= λ ls. Ok (with_linked x ls.0, ls.1)) ≡ with_front (and_one front x) read
regroup front x (Ok ls) =
    let e : joined front (with_linked x ls.0) ≡ joined (and_one front x) ls.0 =
    same_linked (joined front (with_linked x ls.0)) (joined (and_one front x) ls.0)
    (sym (append_assoc front.links (x.link ∷ []) ls.0.links))
    (sym (append_assoc front.triples (x.share.triples ∷ []) ls.0.triples))
    (sym (append_assoc front.bits (x.share.bits ∷ []) ls.0.bits))
    (sym (append_assoc front.pairs (x.share.pairs ∷ []) ls.0.pairs)) in
    ap (λ (f : Linked). Ok (f, ls.1)) e
regroup front x (Err left) = refl

pub next_one : (me : ℕ) (front : Linked) (count i : ℕ) (bytes after : List ℕ) (x : LinkedShare) (total : Reading Linked) → i < count → one_at (peer_at me i) bytes ≡ Ok (x, after)
    → with_front front (linked_at me i (count - i) bytes) ≡ total → with_front (and_one front x) (linked_at me (i + 1) (count - (i + 1)) after) ≡ total
unfolding linked_at
next_one me front count i bytes after x total lt h so_far =
    let k : count - i ≡ suc (count - (i + 1)) = omega arith in
    let here : with_front front (linked_at me i (count - i) bytes) ≡ with_front (and_one front x) (linked_at me (i + 1) (count - (i + 1)) after) =
    rw (k, h) (regroup front x (linked_at me (i + 1) (count - (i + 1)) after)) in
    sym here ∙ so_far

no_one : (me : ℕ) (front : Linked) (count i : ℕ) (bytes left : List ℕ) (total : Reading Linked) → i < count → one_at (peer_at me i) bytes ≡ Err left
    → with_front front (linked_at me i (count - i) bytes) ≡ total → total ≡ Err left
unfolding linked_at
no_one me front count i bytes left total lt h so_far =
    let k : count - i ≡ suc (count - (i + 1)) = omega arith in
    let here : with_front front (linked_at me i (count - i) bytes) ≡ Err left = rw (k, h) refl in
    sym so_far ∙ here

pub all_linked : (me : ℕ) (front : Linked) (count i : ℕ) (bytes : List ℕ) (total : Reading Linked) → count ≤ i
    → with_front front (linked_at me i (count - i) bytes) ≡ total → total ≡ Ok (front, bytes)
unfolding linked_at
all_linked me front count i bytes total le so_far =
    let k : count - i ≡ 0 = omega arith in
    let e : joined front no_links ≡ front = same_linked (joined front no_links) front (append-nil front.links) (append-nil front.triples) (append-nil front.bits) (append-nil front.pairs) in
    let here : with_front front (linked_at me i (count - i) bytes) ≡ Ok (front, bytes) = rw k (ap (λ (f : Linked). Ok (f, bytes)) e) in
    sym so_far ∙ here

pub one_fault : (why : CodecFault) (me : ℕ) (front : Linked) (count i : ℕ) (bytes left : List ℕ) (total : Reading Linked) → i < count → StopsOrMemory why left (one_at (peer_at me i) bytes)
    → with_front front (linked_at me i (count - i) bytes) ≡ total → StopsOrMemory why left total
one_fault fault.Stopped me front count i bytes left total lt h so_far = no_one me front count i bytes left total lt h so_far
one_fault fault.Memory me front count i bytes left total lt h so_far = tt
