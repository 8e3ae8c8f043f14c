-- How long the text of a deal is.
use Rattle.std.proofs.Common.{◌≡◌, ℕ, zero, suc, ◌+◌, ◌*◌, ◌<◌, ◌≤◌, ◌^◌, Bool, true, false, if◌then◌else◌, List, [], ◌∷◌, ◌++◌, length, sym, ap, ◌∙◌, subst, lit≤, lit<, arith, length-append}
use Rattle.std.specs.Prelude.{codes, decimal, flat_map, nat_lt}
use Rattle.std.specs.List.{All}
use Rattle.std.proofs.Math.Nat.{mul-suc, mul-zero, mul-le-mul_left}
use Rattle.std.proofs.lemmas.Fmt.{length-decimal-le}
use Rattle.std.proofs.lemmas.List.Concat.{flat_map-cons}
use Rattle.std.proofs.lemmas.List.Elements.{All-head, All-tail}
use Rattle.vd_base.specs.Limits.{most_deal_items}
use Rattle.vd_base_codec.specs.Reading.{field}
use Rattle.vd_tape.specs.declared.deal_items.deal.Deal.{Deal}
use Rattle.vd_tape.specs.declared.deal_items.items.PairItem.{PairItem}
use Rattle.vd_tape.specs.declared.deal_items.items.Triple.{Triple}
use Rattle.vd_base.specs.Words.{IsWord}
use Rattle.vd_tape.specs.Validity.{ArePairWords, AreTripleWords, AreWithin, peer_at}
use Rattle.vd_tape.specs.Text.{deal_text, list_text, pair_text, share_text, shares_text, triple_text}
use Rattle.vd_cmd_laws.specs.Dealt.{DealTextsAreShort}

-- ---- fields

pub field_short : (n : ℕ) → n < 2 ^ 32 → length (field n) ≤ 11
field_short n low = let few = length-decimal-le 10 n (lit< tt) (omega (arith, low)) (omega (arith, low)) in omega (arith, few)

pub both_short : (xs ys : List ℕ) (m n : ℕ) → length xs ≤ m → length ys ≤ n → length (xs ++ ys) ≤ m + n
both_short xs ys m n first second = let size = length-append xs ys in omega (arith, size, first, second)

triple_short : (t : Triple) → AreTripleWords t → length (triple_text t) ≤ 33
triple_short t words =
    both_short (field t.a) (field t.b ++ field t.c) 11 22 (field_short t.a words.0) (both_short (field t.b) (field t.c) 11 11 (field_short t.b words.1) (field_short t.c words.2))

pair_short : (p : PairItem) → ArePairWords p → length (pair_text p) ≤ 22
pair_short p words = both_short (field p.s) (field p.x) 11 11 (field_short p.s words.0) (field_short p.x words.1)

-- ---- lists

next_item : (whole first rest size count : ℕ) → whole ≡ first + rest → first ≤ size → rest ≤ size * count → whole ≤ size * suc count
next_item whole first rest size count is one more = subst (λ n. whole ≤ n) (sym (mul-suc size count)) (sums whole first rest size (size * count) is one more)
  where
    sums : (whole first rest size product : ℕ) → whole ≡ first + rest → first ≤ size → rest ≤ product → whole ≤ product + size
    sums whole first rest size product is one more = omega (arith, is, one, more)

at_most : (items product most : ℕ) → items ≤ product → product ≤ most → items ≤ most
at_most items product most one two = omega (arith, one, two)

module _ {X : Type 0} (text : X → List ℕ) (P : X → Type 0) (size : ℕ) (each : (x : X) → P x → length (text x) ≤ size) where
  pub items_short : (xs : List X) → All P xs → length (flat_map text xs) ≤ size * length xs
  items_short [] all = subst (λ n. 0 ≤ n) (sym (mul-zero size)) (omega arith)
  items_short (x ∷ xs) all =
      next_item (length (flat_map text (x ∷ xs))) (length (text x)) (length (flat_map text xs)) size (length xs)
      (ap length (flat_map-cons text x xs) ∙ length-append (text x) (flat_map text xs)) (each x (All-head P x xs all)) (items_short xs (All-tail P x xs all))

  -- the line of a list
  list_short : (xs : List X) → All P xs → length xs ≤ most_deal_items → length (list_text text xs) ≤ 11 + (size * 1048576 + 1)
  list_short xs all few =
      both_short (field (length xs)) (flat_map text xs ++ 10 ∷ []) 11 (size * 1048576 + 1) (field_short (length xs) (omega (arith, few)))
      (both_short (flat_map text xs) (10 ∷ []) (size * 1048576) 1
      (at_most (length (flat_map text xs)) (size * length xs) (size * 1048576) (items_short xs all) (mul-le-mul_left size few)) (lit≤ tt))

pub triples_short : (ts : List Triple) → All AreTripleWords ts → length ts ≤ most_deal_items → length (list_text triple_text ts) ≤ 34603020
triples_short ts words few = let line = list_short triple_text AreTripleWords 33 triple_short ts words few in omega (arith, line)

pub pairs_short : (ps : List PairItem) → All ArePairWords ps → length ps ≤ most_deal_items → length (list_text pair_text ps) ≤ 23068684
pairs_short ps words few = let line = list_short pair_text ArePairWords 22 pair_short ps words few in omega (arith, line)

pub own_short : (words : List ℕ) → All IsWord words → length words ≤ most_deal_items → length (list_text field words) ≤ 11534348
own_short words are few = let line = list_short field IsWord 11 field_short words are few in omega (arith, line)

-- ---- the lines of a peer

pub share_short : (peer : ℕ) (ts bs : List Triple) (ps : List PairItem) → peer < 2 ^ 32 → length (list_text triple_text ts) ≤ 34603020 → length (list_text triple_text bs) ≤ 34603020 → length (list_text pair_text ps) ≤ 23068684
    → length (share_text peer ts bs ps) ≤ 92274767
share_short peer ts bs ps low one two three =
    let number = field_short peer low in
    let pairs : List ℕ = field peer ++ list_text pair_text ps in
    let bits : List ℕ = field peer ++ (list_text triple_text bs ++ (codes "pair" ++ pairs)) in
    let triples : List ℕ = field peer ++ (list_text triple_text ts ++ (codes "and" ++ bits)) in
    both_short (codes "mul") triples 3 92274764 (lit≤ tt)
    (both_short (field peer) (list_text triple_text ts ++ (codes "and" ++ bits)) 11 92274753 number
    (both_short (list_text triple_text ts) (codes "and" ++ bits) 34603020 57671733 one
    (both_short (codes "and") bits 3 57671730 (lit≤ tt)
    (both_short (field peer) (list_text triple_text bs ++ (codes "pair" ++ pairs)) 11 57671719 number
    (both_short (list_text triple_text bs) (codes "pair" ++ pairs) 34603020 23068699 two
    (both_short (codes "pair") pairs 4 23068695 (lit≤ tt)
    (both_short (field peer) (list_text pair_text ps) 11 23068684 number three)))))))

pub peer_low : (me place : ℕ) → me < 4 → place < 4 → peer_at me place < 2 ^ 32
peer_low me place one two = by (nat_lt place me)
  where
    by : (b : Bool) → (if b then place else place + 1) < 2 ^ 32
    by true = omega (arith, two)
    by false = omega (arith, two)

next_share : (whole first rest count : ℕ) → whole ≡ first + rest → first ≤ 92274767 → rest ≤ 92274767 * count → whole ≤ 92274767 * suc count
next_share whole first rest count is one more = omega (arith, is, one, more)

-- of all peers from a place on
shares_short : (me place : ℕ) (ts bs : List (List Triple)) (ps : List (List PairItem)) → me < 4 → place + length ts ≤ 4 → All (All AreTripleWords) ts → All (All AreTripleWords) bs → All (All ArePairWords) ps
    → AreWithin ts → AreWithin bs → AreWithin ps → length (shares_text me place ts bs ps) ≤ 92274767 * length ts
unfolding shares_text
shares_short me place [] bs ps low most t b p tw bw pw = omega arith
shares_short me place (ts ∷ more) [] ps low most t b p tw bw pw = omega arith
shares_short me place (ts ∷ more) (bs ∷ bits) [] low most t b p tw bw pw = omega arith
shares_short me place (ts ∷ more) (bs ∷ bits) (ps ∷ pairs) low most t b p tw bw pw =
    let first = share_short (peer_at me place) ts bs ps (peer_low me place low (omega (arith, most)))
    (triples_short ts (All-head (All AreTripleWords) ts more t) (All-head (λ (items : List Triple). length items ≤ most_deal_items) ts more tw))
    (triples_short bs (All-head (All AreTripleWords) bs bits b) (All-head (λ (items : List Triple). length items ≤ most_deal_items) bs bits bw))
    (pairs_short ps (All-head (All ArePairWords) ps pairs p) (All-head (λ (items : List PairItem). length items ≤ most_deal_items) ps pairs pw)) in
    let rest = shares_short me (place + 1) more bits pairs low (omega (arith, most)) (All-tail (All AreTripleWords) ts more t) (All-tail (All AreTripleWords) bs bits b) (All-tail (All ArePairWords) ps pairs p)
    (All-tail (λ (items : List Triple). length items ≤ most_deal_items) ts more tw) (All-tail (λ (items : List Triple). length items ≤ most_deal_items) bs bits bw)
    (All-tail (λ (items : List PairItem). length items ≤ most_deal_items) ps pairs pw) in
    next_share _ (length (share_text (peer_at me place) ts bs ps)) (length (shares_text me (place + 1) more bits pairs)) (length more)
    (length-append (share_text (peer_at me place) ts bs ps) (shares_text me (place + 1) more bits pairs)) first rest

-- ---- the whole file

pub texts_are_short : DealTextsAreShort
texts_are_short hosts me deal of =
    let is = of.is in
    let few = is.few in
    let own_number = is.own_number in
    let peers = is.triples in
    let me_low : deal.me.0 < 4 = omega (arith, few, own_number) in
    let shares = shares_short deal.me.0 0 deal.triples deal.bits deal.pairs me_low (omega (arith, peers, few)) of.words.triples of.words.bits of.words.pairs is.triples_within is.bits_within is.pairs_within in
    let shared : length (shares_text deal.me.0 0 deal.triples deal.bits deal.pairs) ≤ 276824301 = omega (arith, shares, peers, few) in
    let lists : List ℕ = list_text field deal.own ++ shares_text deal.me.0 0 deal.triples deal.bits deal.pairs in
    let own : List ℕ = codes "own" ++ lists in
    let me : List ℕ = field deal.me.0 ++ (10 ∷ own) in
    let whole = both_short (codes "viaduct-deal 1") (field deal.hosts ++ me) 14 288358675 (lit≤ tt)
    (both_short (field deal.hosts) me 11 288358664 (field_short deal.hosts (omega (arith, few)))
    (both_short (field deal.me.0) (10 ∷ own) 11 288358653 (field_short deal.me.0 (omega (arith, me_low)))
    (both_short (10 ∷ []) own 1 288358652 (lit≤ tt)
    (both_short (codes "own") lists 3 288358649 (lit≤ tt)
    (both_short (list_text field deal.own) (shares_text deal.me.0 0 deal.triples deal.bits deal.pairs) 11534348 276824301 (own_short deal.own of.words.own is.own) shared))))) in
    omega (arith, whole)
