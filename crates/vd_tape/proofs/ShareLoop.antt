-- Reading the lines of peers one after the other, as a loop does.
use Rattle.std.proofs.Common.{◌≡◌, ℕ, suc, ◌+◌, ◌-◌, ◌<◌, ◌≤◌, List, [], ◌∷◌, ◌++◌, Ok, Err, refl, sym, ap, ◌∙◌, append_assoc, arith}
use Rattle.std.proofs.lemmas.List.{append-nil}
use Rattle.vd_base_codec.specs.Reading.{Reading, ◌>>=◌, StopsOrMemory}
use Rattle.vd_base_codec.specs.declared.fault.CodecFault.{CodecFault}
use Rattle.vd_base_codec.specs.declared.fault.CodecFault.TheVariants as fault
use Rattle.vd_tape.specs.Validity.{peer_at}
use Rattle.vd_tape.specs.declared.deal_items.items.Triple.{Triple}
use Rattle.vd_tape.specs.declared.deal_items.items.PairItem.{PairItem}
use Rattle.vd_tape.specs.declared.reading.Share.{Share}
use Rattle.vd_tape.specs.declared.reading.Shares.{Shares}
use Rattle.vd_tape.specs.Reading.{share_at, shares_at, with_share, no_shares}

abbrev pub joined : Shares → Shares → Shares
joined f ss = record { triples = f.triples ++ ss.triples; bits = f.bits ++ ss.bits; pairs = f.pairs ++ ss.pairs }

abbrev pub and_share : Shares → Share → Shares
and_share f s = record { triples = f.triples ++ s.triples ∷ []; bits = f.bits ++ s.bits ∷ []; pairs = f.pairs ++ s.pairs ∷ [] }

-- what was read before, and what is still read
abbrev pub with_front : Shares → Reading Shares → Reading Shares
with_front front read = read >>= λ x. Ok (joined front x.0, x.1)

abbrev pub shares_of : List (List Triple) → List (List Triple) → List (List PairItem) → Shares
shares_of ts bs ps = record { triples = ts; bits = bs; pairs = ps }

pub same_shares : (f g : Shares) → f.triples ≡ g.triples → f.bits ≡ g.bits → f.pairs ≡ g.pairs → f ≡ g
same_shares f g t b p = ap (λ ts. shares_of ts f.bits f.pairs) t ∙ ap (λ bs. shares_of g.triples bs f.pairs) b ∙ ap (λ ps. shares_of g.triples g.bits ps) p

regroup : (front : Shares) (s : Share) (read : Reading Shares) → with_front front (read >>= λ ss. Ok (with_share s ss.0, ss.1)) ≡ with_front (and_share front s) read
regroup front s (Ok ss) =
    let e : joined front (with_share s ss.0) ≡ joined (and_share front s) ss.0 =
    same_shares (joined front (with_share s ss.0)) (joined (and_share front s) ss.0)
    (sym (append_assoc front.triples (s.triples ∷ []) ss.0.triples))
    (sym (append_assoc front.bits (s.bits ∷ []) ss.0.bits))
    (sym (append_assoc front.pairs (s.pairs ∷ []) ss.0.pairs)) in
    ap (λ (f : Shares). Ok (f, ss.1)) e
regroup front s (Err left) = refl

pub next_share : (me : ℕ) (front : Shares) (count i : ℕ) (bytes after : List ℕ) (s : Share) (total : Reading Shares) → i < count → share_at (peer_at me i) bytes ≡ Ok (s, after)
    → with_front front (shares_at me i (count - i) bytes) ≡ total → with_front (and_share front s) (shares_at me (i + 1) (count - (i + 1)) after) ≡ total
unfolding shares_at
next_share me front count i bytes after s total lt h so_far =
    let k : count - i ≡ suc (count - (i + 1)) = omega arith in
    let here : with_front front (shares_at me i (count - i) bytes) ≡ with_front (and_share front s) (shares_at me (i + 1) (count - (i + 1)) after) =
    rw (k, h) (regroup front s (shares_at me (i + 1) (count - (i + 1)) after)) in
    sym here ∙ so_far

no_share : (me : ℕ) (front : Shares) (count i : ℕ) (bytes left : List ℕ) (total : Reading Shares) → i < count → share_at (peer_at me i) bytes ≡ Err left
    → with_front front (shares_at me i (count - i) bytes) ≡ total → total ≡ Err left
unfolding shares_at
no_share me front count i bytes left total lt h so_far =
    let k : count - i ≡ suc (count - (i + 1)) = omega arith in
    let here : with_front front (shares_at me i (count - i) bytes) ≡ Err left = rw (k, h) refl in
    sym so_far ∙ here

pub all_shares : (me : ℕ) (front : Shares) (count i : ℕ) (bytes : List ℕ) (total : Reading Shares) → count ≤ i
    → with_front front (shares_at me i (count - i) bytes) ≡ total → total ≡ Ok (front, bytes)
unfolding shares_at
all_shares me front count i bytes total le so_far =
    let k : count - i ≡ 0 = omega arith in
    let e : joined front no_shares ≡ front = same_shares (joined front no_shares) front (append-nil front.triples) (append-nil front.bits) (append-nil front.pairs) in
    let here : with_front front (shares_at me i (count - i) bytes) ≡ Ok (front, bytes) = rw k (ap (λ (f : Shares). Ok (f, bytes)) e) in
    sym so_far ∙ here

pub share_fault : (why : CodecFault) (me : ℕ) (front : Shares) (count i : ℕ) (bytes left : List ℕ) (total : Reading Shares) → i < count → StopsOrMemory why left (share_at (peer_at me i) bytes)
    → with_front front (shares_at me i (count - i) bytes) ≡ total → StopsOrMemory why left total
share_fault fault.Stopped me front count i bytes left total lt h so_far = no_share me front count i bytes left total lt h so_far
share_fault fault.Memory me front count i bytes left total lt h so_far = tt
