-- The lines of the peers in a file of version 2 are read exactly.
use Rattle.std.proofs.Common.{◌≡◌, ℕ, zero, suc, ◌+◌, List, [], ◌∷◌, ◌++◌, length, Ok, refl, sym, ap, ◌∙◌, append_assoc, arith}
use Rattle.std.specs.Prelude.{codes}
use Rattle.std.proofs.lemmas.List.{append-nil}
use Rattle.vd_base_codec.specs.Reading.{◌>>=◌, byte_at}
use Rattle.vd_base_codec.specs.Exact.{IsAnything, IsExact}
use Rattle.vd_base_codec.proofs.Front.{done_exact, byte_exact, Picks, then_exact, AreEach, head_or, tail, same_cons, exact_as, some_key, key_exact}
use Rattle.vd_tape.specs.declared.deal_items.items.Triple.{Triple}
use Rattle.vd_tape.specs.declared.deal_items.items.PairItem.{PairItem}
use Rattle.vd_tape.specs.Validity.{AreTripleWords, ArePairWords, peer_at}
use Rattle.vd_base_codec.specs.Digits.{IsKey, key_at, key_text}
use Rattle.vd_channel_crypto.specs.declared.deal_keys.secrets.LinkKey.{LinkKey}
use Rattle.vd_tape.specs.declared.reading.Share.{Share}
use Rattle.vd_tape.specs.declared.reading.Shares.{Shares}
use Rattle.vd_tape.specs.Text.{share_text}
use Rattle.vd_tape.specs.Reading.{share_at}
use Rattle.vd_tape.proofs.Front.{shares_of, FitsShare, FitsShares, share_of, text_of, none_fits, heading_exact, share_exact, first_share, head_fits, tail_fits, with_one, empty_shares, nil_of}
use Rattle.vd_deal_versions.specs.declared.reading.Linked.{Linked}
use Rattle.vd_deal_versions.specs.declared.reading.LinkedShare.{LinkedShare}
use Rattle.vd_deal_versions.specs.Text.{link_text, linked_text}
use Rattle.vd_deal_versions.specs.Reading.{link_at, one_at, linked_at, no_links, with_linked}

-- ---- the line of a key

abbrev pub FitsLink : LinkKey → Type 0
FitsLink link = IsKey link.0

abbrev link_of : List ℕ → LinkKey
link_of key = record { 0 = key }

abbrev some_link : LinkKey
some_link = link_of some_key.0

same_link : (link : LinkKey) (key : List ℕ) → link.0 ≡ key → link ≡ link_of key
same_link link key e = ap link_of e

picks_key : Picks IsAnything IsKey key_text IsAnything FitsLink (λ (link : LinkKey). key_text link.0 ++ 10 ∷ []) (λ _. 10 ∷ []) (λ (link : LinkKey). link.0)
picks_key = record {
  part_fits = λ link h. h;
  split = λ link h. refl;
  some = λ key h. (link_of key, (h, refl));
  break = λ link behind h k. tt;
}

link_exact : (peer : ℕ) (bytes : List ℕ) → IsExact IsAnything FitsLink (link_text peer) bytes (link_at peer bytes)
unfolding link_at
link_exact peer bytes =
    heading_exact FitsLink (λ (link : LinkKey). 32 ∷ (key_text link.0 ++ 10 ∷ [])) (codes "link") peer bytes some_link
    (λ h. byte_at 32 h >>= λ s. key_at s.1 >>= λ key. byte_at 10 key.1 >>= λ end. Ok (link_of key.0, end.1)) some_key.1
    (λ mid.
    byte_exact IsAnything FitsLink (λ (link : LinkKey). key_text link.0 ++ 10 ∷ []) 32 mid some_link
    (λ s. key_at s >>= λ key. byte_at 10 key.1 >>= λ end. Ok (link_of key.0, end.1)) some_key.1
    (λ front.
    then_exact IsAnything IsKey key_text IsAnything FitsLink (λ (link : LinkKey). key_text link.0 ++ 10 ∷ []) (λ _. 10 ∷ []) (λ (link : LinkKey). link.0) picks_key front (key_at front)
    (λ key. byte_at 10 key.1 >>= λ end. Ok (link_of key.0, end.1)) (key_exact front)
    (λ key over h.
    byte_exact IsAnything (λ (link : LinkKey). FitsLink link × (link.0 ≡ key)) (λ _. []) 10 over (link_of key) (λ last. Ok (link_of key, last)) (h, refl)
    (λ last. done_exact IsAnything (λ (link : LinkKey). FitsLink link × (link.0 ≡ key)) (link_of key) last (h, refl) (λ link g. same_link link key g.1)))))

-- ---- the lines of a peer

abbrev FitsOne : LinkedShare → Type 0
FitsOne x = FitsLink x.link × FitsShare x.share

abbrev one_text : ℕ → LinkedShare → List ℕ
one_text peer x = link_text peer x.link ++ text_of peer x.share

abbrev one_of : LinkKey → Share → LinkedShare
one_of link share = record { link = link; share = share }

same_one : (x : LinkedShare) (link : LinkKey) (share : Share) → x.link ≡ link → x.share ≡ share → x ≡ one_of link share
same_one x link share l s = ap (λ k. one_of k x.share) l ∙ ap (one_of link) s

no_share : (s : Share) × FitsShare s
no_share = (share_of [] [] [], (none_fits AreTripleWords, none_fits AreTripleWords, none_fits ArePairWords))

picks_link : (peer : ℕ) → Picks IsAnything FitsLink (link_text peer) IsAnything FitsOne (one_text peer) (λ (x : LinkedShare). text_of peer x.share) (λ (x : LinkedShare). x.link)
picks_link peer = record {
  part_fits = λ x h. h.0;
  split = λ x h. refl;
  some = λ l h. (one_of l no_share.0, ((h, no_share.1), refl));
  break = λ x behind h k. tt;
}

picks_share : (peer : ℕ) (l : LinkKey) → FitsLink l
    → Picks IsAnything FitsShare (text_of peer) IsAnything (λ (x : LinkedShare). FitsOne x × (x.link ≡ l)) (λ (x : LinkedShare). text_of peer x.share) (λ _. []) (λ (x : LinkedShare). x.share)
picks_share peer l fits = record {
  part_fits = λ x h. h.0.1;
  split = λ x h. sym (append-nil (text_of peer x.share));
  some = λ s h. (one_of l s, (((fits, h), refl), refl));
  break = λ x behind h k. tt;
}

one_exact : (peer : ℕ) (bytes : List ℕ) → IsExact IsAnything FitsOne (one_text peer) bytes (one_at peer bytes)
unfolding one_at
one_exact peer bytes =
    then_exact IsAnything FitsLink (link_text peer) IsAnything FitsOne (one_text peer) (λ (x : LinkedShare). text_of peer x.share) (λ (x : LinkedShare). x.link) (picks_link peer) bytes (link_at peer bytes)
    (λ l. share_at peer l.1 >>= λ s. Ok (one_of l.0 s.0, s.1)) (link_exact peer bytes)
    (λ l mid fits_l.
    then_exact IsAnything FitsShare (text_of peer) IsAnything (λ (x : LinkedShare). FitsOne x × (x.link ≡ l)) (λ (x : LinkedShare). text_of peer x.share) (λ _. []) (λ (x : LinkedShare). x.share) (picks_share peer l fits_l) mid (share_at peer mid)
    (λ s. Ok (one_of l s.0, s.1)) (share_exact peer mid)
    (λ s last fits_s.
    done_exact IsAnything (λ (x : LinkedShare). (FitsOne x × (x.link ≡ l)) × (x.share ≡ s)) (one_of l s) last (((fits_l, fits_s), refl), refl) (λ x g. same_one x l s g.0.1 g.1)))

-- ---- the lines of all peers

abbrev pub shares_in : Linked → Shares
shares_in ls = shares_of ls.triples ls.bits ls.pairs

abbrev pub FitsLinked : ℕ → Linked → Type 0
FitsLinked n ls = AreEach FitsLink n ls.links × FitsShares n (shares_in ls)

abbrev pub texts_of : ℕ → ℕ → Linked → List ℕ
texts_of me place ls = linked_text me place ls.links ls.triples ls.bits ls.pairs

abbrev linked_of : List LinkKey → Shares → Linked
linked_of links ss = record { links = links; triples = ss.triples; bits = ss.bits; pairs = ss.pairs }

pub same_linked : (f g : Linked) → f.links ≡ g.links → f.triples ≡ g.triples → f.bits ≡ g.bits → f.pairs ≡ g.pairs → f ≡ g
same_linked f g l t b p =
    ap (λ x. linked_of x (shares_of f.triples f.bits f.pairs)) l ∙ ap (λ x. linked_of g.links (shares_of x f.bits f.pairs)) t
    ∙ ap (λ x. linked_of g.links (shares_of g.triples x f.pairs)) b ∙ ap (λ x. linked_of g.links (shares_of g.triples g.bits x)) p

some_links : (n : ℕ) → (links : List LinkKey) × AreEach FitsLink n links
some_links zero = ([], (refl, tt))
some_links (suc n) = let rest = some_links n in (some_link ∷ rest.0, (ap suc rest.1.0, (some_key.1, rest.1.1)))

pub some_linked : (n : ℕ) → (ls : Linked) × FitsLinked n ls
some_linked n = let links = some_links n in let ss = empty_shares n in (linked_of links.0 ss.0, (links.1, ss.1))

abbrev first_one : Linked → LinkedShare
first_one ls = one_of (head_or some_link ls.links) (first_share (shares_in ls))

abbrev others : Linked → Linked
others ls = record { links = tail ls.links; triples = tail ls.triples; bits = tail ls.bits; pairs = tail ls.pairs }

link_head : (n : ℕ) (links : List LinkKey) → AreEach FitsLink (suc n) links → FitsLink (head_or some_link links)
link_head n [] h = absurd (omega (arith, h.0))
link_head n (l ∷ links) h = h.1.0

link_tail : (n : ℕ) (links : List LinkKey) → AreEach FitsLink (suc n) links → AreEach FitsLink n (tail links)
link_tail n [] h = absurd (omega (arith, h.0))
link_tail n (l ∷ links) h = (omega (arith, h.0), h.1.1)

ones_fit : (n : ℕ) (ls : Linked) → FitsLinked (suc n) ls → FitsOne (first_one ls)
ones_fit n ls h = (link_head n ls.links h.0, (head_fits AreTripleWords n ls.triples h.1.0, head_fits AreTripleWords n ls.bits h.1.1, head_fits ArePairWords n ls.pairs h.1.2))

others_fit : (n : ℕ) (ls : Linked) → FitsLinked (suc n) ls → FitsLinked n (others ls)
others_fit n ls h = (link_tail n ls.links h.0, (tail_fits AreTripleWords n ls.triples h.1.0, tail_fits AreTripleWords n ls.bits h.1.1, tail_fits ArePairWords n ls.pairs h.1.2))

split_linked : (me place n : ℕ) (ls : List LinkKey) (ts bs : List (List Triple)) (ps : List (List PairItem)) → length ls ≡ suc n → length ts ≡ suc n → length bs ≡ suc n → length ps ≡ suc n
    → linked_text me place ls ts bs ps
    ≡ one_text (peer_at me place) (one_of (head_or some_link ls) (share_of (head_or [] ts) (head_or [] bs) (head_or [] ps)))
    ++ linked_text me (place + 1) (tail ls) (tail ts) (tail bs) (tail ps)
unfolding linked_text
split_linked me place n (l ∷ ls) (t ∷ ts) (b ∷ bs) (p ∷ ps) hl ht hb hp =
    sym (append_assoc (link_text (peer_at me place) l) (share_text (peer_at me place) t b p) (linked_text me (place + 1) ls ts bs ps))
split_linked me place n [] ts bs ps hl ht hb hp = absurd (omega (arith, hl))
split_linked me place n (l ∷ ls) [] bs ps hl ht hb hp = absurd (omega (arith, ht))
split_linked me place n (l ∷ ls) (t ∷ ts) [] ps hl ht hb hp = absurd (omega (arith, hb))
split_linked me place n (l ∷ ls) (t ∷ ts) (b ∷ bs) [] hl ht hb hp = absurd (omega (arith, hp))

with_first : (n : ℕ) (x : LinkedShare) (ls : Linked) → FitsOne x → FitsLinked n ls → FitsLinked (suc n) (with_linked x ls)
with_first n x ls hx h = ((ap suc h.0.0, (hx.0, h.0.1)), with_one n x.share (shares_in ls) hx.1 h.1)

picks_first : (me place n : ℕ) → Picks IsAnything FitsOne (one_text (peer_at me place)) IsAnything (FitsLinked (suc n)) (texts_of me place) (λ ls. texts_of me (place + 1) (others ls)) first_one
picks_first me place n = record {
  part_fits = ones_fit n;
  split = λ ls h. split_linked me place n ls.links ls.triples ls.bits ls.pairs h.0.0 h.1.0.0 h.1.1.0 h.1.2.0;
  some = λ x h. let rest = some_linked n in (with_linked x rest.0, (with_first n x rest.0 h rest.1, refl));
  break = λ ls behind h k. tt;
}

picks_others : (me place n : ℕ) (x : LinkedShare) → FitsOne x
    → Picks IsAnything (FitsLinked n) (texts_of me (place + 1)) IsAnything (λ ls. FitsLinked (suc n) ls × (first_one ls ≡ x)) (λ ls. texts_of me (place + 1) (others ls)) (λ _. []) others
picks_others me place n x fits = record {
  part_fits = λ ls h. others_fit n ls h.0;
  split = λ ls h. sym (append-nil (texts_of me (place + 1) (others ls)));
  some = λ rest h. (with_linked x rest, ((with_first n x rest fits h, refl), refl));
  break = λ ls behind h k. tt;
}

same_with : (n : ℕ) (ls : Linked) (x : LinkedShare) (rest : Linked) → FitsLinked (suc n) ls → first_one ls ≡ x → others ls ≡ rest → ls ≡ with_linked x rest
same_with n ls x rest h f o =
    same_linked ls (with_linked x rest)
    (same_cons some_link x.link n rest.links ls.links h.0.0 (ap (λ (y : LinkedShare). y.link) f) (ap (λ (y : Linked). y.links) o))
    (same_cons [] x.share.triples n rest.triples ls.triples h.1.0.0 (ap (λ (y : LinkedShare). y.share.triples) f) (ap (λ (y : Linked). y.triples) o))
    (same_cons [] x.share.bits n rest.bits ls.bits h.1.1.0 (ap (λ (y : LinkedShare). y.share.bits) f) (ap (λ (y : Linked). y.bits) o))
    (same_cons [] x.share.pairs n rest.pairs ls.pairs h.1.2.0 (ap (λ (y : LinkedShare). y.share.pairs) f) (ap (λ (y : Linked). y.pairs) o))

no_text : (me place : ℕ) (ts bs : List (List Triple)) (ps : List (List PairItem)) → linked_text me place [] ts bs ps ≡ []
unfolding linked_text
no_text me place ts bs ps = refl

nothing_of : (me place : ℕ) (ls : Linked) → FitsLinked 0 ls → texts_of me place ls ≡ []
nothing_of me place ls h = ap (λ links. linked_text me place links ls.triples ls.bits ls.pairs) (nil_of ls.links h.0.0) ∙ no_text me place ls.triples ls.bits ls.pairs

pub linked_exact : (me place n : ℕ) (bytes : List ℕ) → IsExact IsAnything (FitsLinked n) (texts_of me place) bytes (linked_at me place n bytes)
unfolding linked_at
linked_exact me place zero bytes =
    exact_as IsAnything (FitsLinked 0) (λ _. []) (texts_of me place) bytes (Ok (no_links, bytes)) (nothing_of me place)
    (done_exact IsAnything (FitsLinked 0) no_links bytes ((refl, tt), ((refl, tt), (refl, tt), (refl, tt)))
    (λ ls h. same_linked ls no_links (nil_of ls.links h.0.0) (nil_of ls.triples h.1.0.0) (nil_of ls.bits h.1.1.0) (nil_of ls.pairs h.1.2.0)))
linked_exact me place (suc n) bytes =
    then_exact IsAnything FitsOne (one_text (peer_at me place)) IsAnything (FitsLinked (suc n)) (texts_of me place) (λ ls. texts_of me (place + 1) (others ls)) first_one (picks_first me place n) bytes (one_at (peer_at me place) bytes)
    (λ x. linked_at me (place + 1) n x.1 >>= λ ls. Ok (with_linked x.0 ls.0, ls.1)) (one_exact (peer_at me place) bytes)
    (λ x mid fits.
    then_exact IsAnything (FitsLinked n) (texts_of me (place + 1)) IsAnything (λ ls. FitsLinked (suc n) ls × (first_one ls ≡ x)) (λ ls. texts_of me (place + 1) (others ls)) (λ _. []) others (picks_others me place n x fits) mid (linked_at me (place + 1) n mid)
    (λ ls. Ok (with_linked x ls.0, ls.1)) (linked_exact me (place + 1) n mid)
    (λ rest last h.
    done_exact IsAnything (λ ls. (FitsLinked (suc n) ls × (first_one ls ≡ x)) × (others ls ≡ rest)) (with_linked x rest) last
    ((with_first n x rest fits h, refl), refl) (λ ls g. same_with n ls x rest g.0.0 g.0.1 g.1)))
