-- The lines of the peers, and the whole file, are read exactly.
use Rattle.std.proofs.Common.{◌≡◌, ℕ, zero, suc, ◌+◌, List, [], ◌∷◌, ◌++◌, length, Ok, inl, refl, sym, ap, ◌∙◌, arith}
use Rattle.std.specs.Prelude.{codes}
use Rattle.std.proofs.lemmas.List.{append-nil}
use Rattle.vd_base_codec.specs.Reading.{Reading, ◌>>=◌, literal_at, field}
use Rattle.vd_base_codec.specs.Exact.{IsAnything, IsExact}
use Rattle.vd_base_codec.proofs.Front.{bind_assoc, done_exact, literal_exact, Picks, then_exact, AreEach, head_or, tail, same_cons, exact_as}
use Rattle.vd_tape.specs.declared.deal_items.items.Triple.{Triple}
use Rattle.vd_tape.specs.declared.deal_items.items.PairItem.{PairItem}
use Rattle.vd_tape.specs.Identities.{zero_triple, zero_pair}
use Rattle.vd_base.specs.Words.{IsWord}
use Rattle.vd_tape.specs.Validity.{AreTripleWords, ArePairWords, peer_at}
use Rattle.vd_tape.specs.declared.reading.Share.{Share}
use Rattle.vd_tape.specs.declared.reading.Shares.{Shares}
use Rattle.vd_tape.specs.Text.{triple_text, pair_text, list_text, share_text, shares_text}
use Rattle.vd_tape.specs.Reading.{word_at, triple_at, pair_at, list_at, heading_at, share_at, shares_at, no_shares, with_share}
use Rattle.vd_tape.proofs.ItemsExact.{word_exact, triple_exact, pair_exact, FitsList, list_exact}
use Rattle.vd_tape.proofs.ShareLoop.{same_shares}

-- ---- the three lines of a peer

pub heading_exact : {X : Type 0} (Fits : X → Type 0) (text : X → List ℕ) (kind : List ℕ) (peer : ℕ) (bytes : List ℕ) (x : X) (f : List ℕ → Reading X) → Fits x
    → ((mid : List ℕ) → IsExact IsAnything Fits text mid (f mid)) → IsExact IsAnything Fits (λ x. kind ++ (field peer ++ text x)) bytes (heading_at kind peer bytes >>= λ y. f y.1)
unfolding heading_at
heading_exact Fits text kind peer bytes x f fits exact =
    rw (bind_assoc (literal_at kind bytes) (λ y. literal_at (field peer) y.1) (λ y. f y.1))
    (literal_exact IsAnything Fits (λ x. field peer ++ text x) kind bytes x (λ mid. literal_at (field peer) mid >>= λ y. f y.1) fits
    (λ mid. literal_exact IsAnything Fits text (field peer) mid x f fits exact))

triples_exact : (bytes : List ℕ) → IsExact IsAnything (FitsList AreTripleWords) (list_text triple_text) bytes (list_at triple_at bytes)
triples_exact bytes = list_exact AreTripleWords triple_text zero_triple triple_at bytes (omega arith, omega arith, omega arith) (λ t bs. inl refl) triple_exact

pairs_exact : (bytes : List ℕ) → IsExact IsAnything (FitsList ArePairWords) (list_text pair_text) bytes (list_at pair_at bytes)
pairs_exact bytes = list_exact ArePairWords pair_text zero_pair pair_at bytes (omega arith, omega arith) (λ t bs. inl refl) pair_exact

pub own_exact : (bytes : List ℕ) → IsExact IsAnything (FitsList IsWord) (list_text field) bytes (list_at word_at bytes)
own_exact bytes = list_exact IsWord field 0 word_at bytes (omega arith) (λ t bs. inl refl) word_exact

abbrev pub FitsShare : Share → Type 0
FitsShare s = FitsList AreTripleWords s.triples × FitsList AreTripleWords s.bits × FitsList ArePairWords s.pairs

abbrev pub text_of : ℕ → Share → List ℕ
text_of peer s = share_text peer s.triples s.bits s.pairs

abbrev pub share_of : List Triple → List Triple → List PairItem → Share
share_of ts bs ps = record { triples = ts; bits = bs; pairs = ps }

same_share : (s : Share) (ts bs : List Triple) (ps : List PairItem) → s.triples ≡ ts → s.bits ≡ bs → s.pairs ≡ ps → s ≡ share_of ts bs ps
same_share s ts bs ps t b p = ap (λ x. share_of x s.bits s.pairs) t ∙ ap (λ x. share_of ts x s.pairs) b ∙ ap (λ x. share_of ts bs x) p

-- the line of products of bits and what follows it
abbrev behind_triples : ℕ → Share → List ℕ
behind_triples peer s = codes "and" ++ (field peer ++ (list_text triple_text s.bits ++ (codes "pair" ++ (field peer ++ list_text pair_text s.pairs))))

abbrev behind_bits : ℕ → Share → List ℕ
behind_bits peer s = codes "pair" ++ (field peer ++ list_text pair_text s.pairs)

pub none_fits : {X : Type 0} (Fits : X → Type 0) → FitsList Fits []
none_fits Fits = (omega arith, tt)

picks_triples : (peer : ℕ) → Picks IsAnything (FitsList AreTripleWords) (list_text triple_text) IsAnything FitsShare (λ s. list_text triple_text s.triples ++ behind_triples peer s) (behind_triples peer) (λ s. s.triples)
picks_triples peer = record {
  part_fits = λ s h. h.0;
  split = λ s h. refl;
  some = λ ts h. (share_of ts [] [], ((h, none_fits AreTripleWords, none_fits ArePairWords), refl));
  break = λ s behind h k. tt;
}

picks_bits : (peer : ℕ) (ts : List Triple) → FitsList AreTripleWords ts
    → Picks IsAnything (FitsList AreTripleWords) (list_text triple_text) IsAnything (λ (s : Share). FitsShare s × (s.triples ≡ ts)) (λ s. list_text triple_text s.bits ++ behind_bits peer s) (behind_bits peer) (λ s. s.bits)
picks_bits peer ts fits = record {
  part_fits = λ s h. h.0.1;
  split = λ s h. refl;
  some = λ bs h. (share_of ts bs [], (((fits, h, none_fits ArePairWords), refl), refl));
  break = λ s behind h k. tt;
}

picks_pairs : (ts bs : List Triple) → FitsList AreTripleWords ts → FitsList AreTripleWords bs
    → Picks IsAnything (FitsList ArePairWords) (list_text pair_text) IsAnything (λ (s : Share). (FitsShare s × (s.triples ≡ ts)) × (s.bits ≡ bs)) (λ s. list_text pair_text s.pairs) (λ _. []) (λ s. s.pairs)
picks_pairs ts bs fits_ts fits_bs = record {
  part_fits = λ s h. h.0.0.2;
  split = λ s h. sym (append-nil (list_text pair_text s.pairs));
  some = λ ps h. (share_of ts bs ps, ((((fits_ts, fits_bs, h), refl), refl), refl));
  break = λ s behind h k. tt;
}

pub share_exact : (peer : ℕ) (bytes : List ℕ) → IsExact IsAnything FitsShare (text_of peer) bytes (share_at peer bytes)
unfolding share_at
share_exact peer bytes =
    heading_exact FitsShare (λ s. list_text triple_text s.triples ++ behind_triples peer s) (codes "mul") peer bytes (share_of [] [] [])
    (λ mul. list_at triple_at mul >>= λ ts. heading_at (codes "and") peer ts.1 >>= λ a. list_at triple_at a.1 >>= λ bs. heading_at (codes "pair") peer bs.1 >>= λ p. list_at pair_at p.1 >>= λ ps. Ok (share_of ts.0 bs.0 ps.0, ps.1))
    (none_fits AreTripleWords, none_fits AreTripleWords, none_fits ArePairWords)
    (λ mul.
    then_exact IsAnything (FitsList AreTripleWords) (list_text triple_text) IsAnything FitsShare (λ s. list_text triple_text s.triples ++ behind_triples peer s) (behind_triples peer) (λ s. s.triples) (picks_triples peer) mul (list_at triple_at mul)
    (λ ts. heading_at (codes "and") peer ts.1 >>= λ a. list_at triple_at a.1 >>= λ bs. heading_at (codes "pair") peer bs.1 >>= λ p. list_at pair_at p.1 >>= λ ps. Ok (share_of ts.0 bs.0 ps.0, ps.1))
    (triples_exact mul)
    (λ ts after fits_ts.
    heading_exact (λ s. FitsShare s × (s.triples ≡ ts)) (λ s. list_text triple_text s.bits ++ behind_bits peer s) (codes "and") peer after (share_of ts [] [])
    (λ a. list_at triple_at a >>= λ bs. heading_at (codes "pair") peer bs.1 >>= λ p. list_at pair_at p.1 >>= λ ps. Ok (share_of ts bs.0 ps.0, ps.1))
    ((fits_ts, none_fits AreTripleWords, none_fits ArePairWords), refl)
    (λ a.
    then_exact IsAnything (FitsList AreTripleWords) (list_text triple_text) IsAnything (λ s. FitsShare s × (s.triples ≡ ts)) (λ s. list_text triple_text s.bits ++ behind_bits peer s) (behind_bits peer) (λ s. s.bits) (picks_bits peer ts fits_ts) a (list_at triple_at a)
    (λ bs. heading_at (codes "pair") peer bs.1 >>= λ p. list_at pair_at p.1 >>= λ ps. Ok (share_of ts bs.0 ps.0, ps.1))
    (triples_exact a)
    (λ bs later fits_bs.
    heading_exact (λ s. (FitsShare s × (s.triples ≡ ts)) × (s.bits ≡ bs)) (λ s. list_text pair_text s.pairs) (codes "pair") peer later (share_of ts bs [])
    (λ p. list_at pair_at p >>= λ ps. Ok (share_of ts bs ps.0, ps.1))
    (((fits_ts, fits_bs, none_fits ArePairWords), refl), refl)
    (λ p.
    then_exact IsAnything (FitsList ArePairWords) (list_text pair_text) IsAnything (λ s. (FitsShare s × (s.triples ≡ ts)) × (s.bits ≡ bs)) (λ s. list_text pair_text s.pairs) (λ _. []) (λ s. s.pairs) (picks_pairs ts bs fits_ts fits_bs) p (list_at pair_at p)
    (λ ps. Ok (share_of ts bs ps.0, ps.1))
    (pairs_exact p)
    (λ ps last fits_ps.
    done_exact IsAnything (λ s. ((FitsShare s × (s.triples ≡ ts)) × (s.bits ≡ bs)) × (s.pairs ≡ ps)) (share_of ts bs ps) last
    ((((fits_ts, fits_bs, fits_ps), refl), refl), refl) (λ s h. same_share s ts bs ps h.0.0.1 h.0.1 h.1)))))))

-- ---- the lines of all peers

abbrev pub FitsShares : ℕ → Shares → Type 0
FitsShares n ss = AreEach (FitsList AreTripleWords) n ss.triples × AreEach (FitsList AreTripleWords) n ss.bits × AreEach (FitsList ArePairWords) n ss.pairs

abbrev pub texts_of : ℕ → ℕ → Shares → List ℕ
texts_of me place ss = shares_text me place ss.triples ss.bits ss.pairs

-- what no items are for so many peers
abbrev no_items : {X : Type 0} → ℕ → List (List X)
no_items zero = []
no_items (suc n) = [] ∷ no_items n

no_items_fit : {X : Type 0} (Fits : X → Type 0) (n : ℕ) → AreEach (FitsList Fits) n (no_items n)
no_items_fit Fits zero = (refl, tt)
no_items_fit Fits (suc n) = let rest = no_items_fit Fits n in (ap suc rest.0, (none_fits Fits, rest.1))

pub empty_shares : (n : ℕ) → (ss : Shares) × FitsShares n ss
empty_shares n = (record { triples = no_items n; bits = no_items n; pairs = no_items n }, (no_items_fit AreTripleWords n, no_items_fit AreTripleWords n, no_items_fit ArePairWords n))

abbrev pub first_share : Shares → Share
first_share ss = share_of (head_or [] ss.triples) (head_or [] ss.bits) (head_or [] ss.pairs)

abbrev other_shares : Shares → Shares
other_shares ss = record { triples = tail ss.triples; bits = tail ss.bits; pairs = tail ss.pairs }

pub head_fits : {X : Type 0} (Fits : X → Type 0) (n : ℕ) (xss : List (List X)) → AreEach (FitsList Fits) (suc n) xss → FitsList Fits (head_or [] xss)
head_fits Fits n [] h = none_fits Fits
head_fits Fits n (xs ∷ xss) h = h.1.0

pub tail_fits : {X : Type 0} (Fits : X → Type 0) (n : ℕ) (xss : List (List X)) → AreEach (FitsList Fits) (suc n) xss → AreEach (FitsList Fits) n (tail xss)
tail_fits Fits n [] h = absurd (omega (arith, h.0))
tail_fits Fits n (xs ∷ xss) h = (omega (arith, h.0), h.1.1)

split_shares : (me place n : ℕ) (ts bs : List (List Triple)) (ps : List (List PairItem)) → length ts ≡ suc n → length bs ≡ suc n → length ps ≡ suc n
    → shares_text me place ts bs ps ≡ share_text (peer_at me place) (head_or [] ts) (head_or [] bs) (head_or [] ps) ++ shares_text me (place + 1) (tail ts) (tail bs) (tail ps)
unfolding shares_text
split_shares me place n (t ∷ ts) (b ∷ bs) (p ∷ ps) ht hb hp = refl
split_shares me place n [] bs ps ht hb hp = absurd (omega (arith, ht))
split_shares me place n (t ∷ ts) [] ps ht hb hp = absurd (omega (arith, hb))
split_shares me place n (t ∷ ts) (b ∷ bs) [] ht hb hp = absurd (omega (arith, hp))

pub with_one : (n : ℕ) (s : Share) (ss : Shares) → FitsShare s → FitsShares n ss → FitsShares (suc n) (with_share s ss)
with_one n s ss h g = ((ap suc g.0.0, (h.0, g.0.1)), (ap suc g.1.0, (h.1, g.1.1)), (ap suc g.2.0, (h.2, g.2.1)))

picks_first : (me place n : ℕ) → Picks IsAnything FitsShare (text_of (peer_at me place)) IsAnything (FitsShares (suc n)) (texts_of me place) (λ ss. texts_of me (place + 1) (other_shares ss)) first_share
picks_first me place n = record {
  part_fits = λ ss h. (head_fits AreTripleWords n ss.triples h.0, head_fits AreTripleWords n ss.bits h.1, head_fits ArePairWords n ss.pairs h.2);
  split = λ ss h. split_shares me place n ss.triples ss.bits ss.pairs h.0.0 h.1.0 h.2.0;
  some = λ s h. let rest = empty_shares n in (with_share s rest.0, (with_one n s rest.0 h rest.1, refl));
  break = λ ss behind h k. tt;
}

picks_others : (me place n : ℕ) (s : Share) → FitsShare s
    → Picks IsAnything (FitsShares n) (texts_of me (place + 1)) IsAnything (λ ss. FitsShares (suc n) ss × (first_share ss ≡ s)) (λ ss. texts_of me (place + 1) (other_shares ss)) (λ _. []) other_shares
picks_others me place n s fits = record {
  part_fits = λ ss h. (tail_fits AreTripleWords n ss.triples h.0.0, tail_fits AreTripleWords n ss.bits h.0.1, tail_fits ArePairWords n ss.pairs h.0.2);
  split = λ ss h. sym (append-nil (texts_of me (place + 1) (other_shares ss)));
  some = λ rest h. (with_share s rest, ((with_one n s rest fits h, refl), refl));
  break = λ ss behind h k. tt;
}

same_with : (n : ℕ) (ss : Shares) (s : Share) (rest : Shares) → FitsShares (suc n) ss → first_share ss ≡ s → other_shares ss ≡ rest → ss ≡ with_share s rest
same_with n ss s rest h f o =
    same_shares ss (with_share s rest)
    (same_cons [] s.triples n rest.triples ss.triples h.0.0 (ap (λ (x : Share). x.triples) f) (ap (λ (x : Shares). x.triples) o))
    (same_cons [] s.bits n rest.bits ss.bits h.1.0 (ap (λ (x : Share). x.bits) f) (ap (λ (x : Shares). x.bits) o))
    (same_cons [] s.pairs n rest.pairs ss.pairs h.2.0 (ap (λ (x : Share). x.pairs) f) (ap (λ (x : Shares). x.pairs) o))

pub nil_of : {X : Type 0} (xs : List X) → length xs ≡ 0 → xs ≡ []
nil_of [] h = refl
nil_of (x ∷ xs) h = absurd (omega (arith, h))

nothing_of : (me place : ℕ) (ss : Shares) → FitsShares 0 ss → texts_of me place ss ≡ []
unfolding shares_text
nothing_of me place ss h = ap (λ ts. shares_text me place ts ss.bits ss.pairs) (nil_of ss.triples h.0.0)

pub shares_exact : (me place n : ℕ) (bytes : List ℕ) → IsExact IsAnything (FitsShares n) (texts_of me place) bytes (shares_at me place n bytes)
unfolding shares_at
shares_exact me place zero bytes =
    exact_as IsAnything (FitsShares 0) (λ _. []) (texts_of me place) bytes (Ok (no_shares, bytes)) (nothing_of me place)
    (done_exact IsAnything (FitsShares 0) no_shares bytes ((refl, tt), (refl, tt), (refl, tt))
    (λ ss h. same_shares ss no_shares (nil_of ss.triples h.0.0) (nil_of ss.bits h.1.0) (nil_of ss.pairs h.2.0)))
shares_exact me place (suc n) bytes =
    then_exact IsAnything FitsShare (text_of (peer_at me place)) IsAnything (FitsShares (suc n)) (texts_of me place) (λ ss. texts_of me (place + 1) (other_shares ss)) first_share (picks_first me place n) bytes (share_at (peer_at me place) bytes)
    (λ s. shares_at me (place + 1) n s.1 >>= λ ss. Ok (with_share s.0 ss.0, ss.1)) (share_exact (peer_at me place) bytes)
    (λ s mid fits.
    then_exact IsAnything (FitsShares n) (texts_of me (place + 1)) IsAnything (λ ss. FitsShares (suc n) ss × (first_share ss ≡ s)) (λ ss. texts_of me (place + 1) (other_shares ss)) (λ _. []) other_shares (picks_others me place n s fits) mid (shares_at me (place + 1) n mid)
    (λ ss. Ok (with_share s ss.0, ss.1)) (shares_exact me (place + 1) n mid)
    (λ rest last h.
    done_exact IsAnything (λ ss. (FitsShares (suc n) ss × (first_share ss ≡ s)) × (other_shares ss ≡ rest)) (with_share s rest) last
    ((with_one n s rest fits h, refl), refl) (λ ss g. same_with n ss s rest g.0.0 g.0.1 g.1)))
