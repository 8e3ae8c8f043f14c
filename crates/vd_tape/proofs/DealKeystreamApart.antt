-- The words of deals.
use Rattle.std.proofs.Common.{◌≡◌, ◌<◌, ℕ, zero, suc, ◌+◌, ◌-◌, ◌*◌, Bool, true, false, if◌then◌else◌, List, [], length, Some, min, max, nat_lt, refl, sym, ap, ap₂, subst, ◌∙◌, arith, rules, slice_index}
use Rattle.std.specs.Prelude.{slice_get, unwrap_or}
use Rattle.std.proofs.lemmas.Bool.Decides.{nat_tests}
use Rattle.std.proofs.lemmas.List.FromFn.{length-map-range_with_len, get_or-map-range_with_len}
use Rattle.std.proofs.lemmas.Option.{slice_get_within, slice_get-get_or}
use Rattle.rand_chacha.specs.Block.{block_word}
use Rattle.vd_base.specs.Limits.{most_hosts}
use Rattle.vd_tape.specs.declared.deal_items.items.Triple.{Triple}
use Rattle.vd_tape.specs.declared.deal_items.items.PairItem.{PairItem}
use Rattle.vd_tape.specs.declared.deal_items.deal.Counts.{Counts}
use Rattle.vd_tape.specs.declared.deal_items.deal.Deal.{Deal}
use Rattle.vd_tape.specs.Identities.{pair_at, triple_at, zero_pair, zero_triple}
use Rattle.vd_tape.specs.Validity.{peer_at, peer_place, shared_with}
use Rattle.vd_tape.specs.Made.{first_of, keyed_deal, keyed_deals, keyed_word, number_key, shared_stream, IsShared, mul_item, and_item, pair_item, mul_parts, and_parts, pair_parts, words_from}
use Rattle.vd_tape.specs.Drawn.{Drawn, Own, Part, IsDrawn, parts, place_of, stream_of, word_of, DealsAreDrawn, EachIsDrawnOnce, FiveAreDrawn, NumbersAreApart, ThreeAreDrawn, WordsAreOfBlocks}
use Rattle.vd_tape.proofs.Keys.{number_is_key, numbers_apart, places_apart}

pub words_of_blocks : WordsAreOfBlocks
unfolding keyed_word block_word
words_of_blocks key stream place = refl

-- ---- that each is drawn once

part_same : (kind i j p q : ℕ) → p < parts kind → q < parts kind → parts kind * i + p ≡ parts kind * j + q → (i ≡ j) × (p ≡ q)
part_same zero i j p q a b e = (omega (arith, a, b, e), omega (arith, a, b, e))
part_same (suc zero) i j p q a b e = (omega (arith, a, b, e), omega (arith, a, b, e))
part_same (suc (suc kind)) i j p q a b e = (omega (arith, a, b, e), omega (arith, a, b, e))

no_own : (host kind a b : ℕ) → host < most_hosts → IsShared a b kind → shared_stream a b kind ≡ host → ⊥
no_own host kind a b low s e =
    let order = s.order in let known = s.known in let kinds = s.kinds in
    omega (arith, order, known, kinds, low, e)

drawn_same : (x y : Drawn) → IsDrawn x → IsDrawn y → stream_of x ≡ stream_of y → place_of x ≡ place_of y → x ≡ y
drawn_same (Own h i) (Own g j) a b e f = ap₂ (λ (m n : ℕ). Own m n) e f
drawn_same (Own h i) (Part k c d j q) a b e f = absurd (no_own h k c d a b.0 (sym e))
drawn_same (Part k c d j q) (Own h i) a b e f = absurd (no_own h k c d b a.0 e)
drawn_same (Part k a b i p) (Part l c d j q) s t e f =
    let s0 = s.0.order in let s1 = s.0.known in let s2 = s.0.kinds in let t0 = t.0.order in let t1 = t.0.known in let t2 = t.0.kinds in
    let firsts : a ≡ c = omega (arith, s0, s1, s2, t0, t1, t2, e) in
    let seconds : b ≡ d = omega (arith, s0, s1, s2, t0, t1, t2, e) in
    let kinds : k ≡ l = omega (arith, s0, s1, s2, t0, t1, t2, e) in
    let small : q < parts k = subst (λ (z : ℕ). q < parts z) (sym kinds) t.1 in
    let here : parts k * i + p ≡ parts k * j + q = f ∙ ap (λ (z : ℕ). parts z * j + q) (sym kinds) in
    let same = part_same k i j p q s.1 small here in
    ap (λ (z : ℕ). Part z a b i p) kinds ∙ ap (λ (z : ℕ). Part l z b i p) firsts ∙ ap (λ (z : ℕ). Part l c z i p) seconds
    ∙ ap (λ (z : ℕ). Part l c d z p) same.0 ∙ ap (λ (z : ℕ). Part l c d j z) same.1

pub drawn_once : EachIsDrawnOnce
drawn_once k l x y a b c d e f =
    let same = places_apart k l (stream_of x) (stream_of y) (place_of x) (place_of y) a b e f in
    (same.0, drawn_same x y c d same.1 same.2)

-- ---- items

lower : (a b : ℕ) → a < b → nat_lt a b ≡ true
lower a b l = grind (arith, rules)

higher : (a b : ℕ) → a < b → nat_lt b a ≡ false
higher a b l = grind (arith, rules)

-- the two parts of an item of a stream, by the order of the hosts
module _ {X : Type 0} (both : (ℕ → ℕ) → X × X) (key : List ℕ) (a b kind places : ℕ) (l : a < b) where
  abbrev here : (first second : ℕ) → ℕ → ℕ
  here first second = words_from key (shared_stream first second kind) places

  mine : (if nat_lt a b then (both (here (min a b) (max a b))).0 else (both (here (min a b) (max a b))).1) ≡ (both (here a b)).0
  mine =
      ap₂ (λ (m n : ℕ). if nat_lt a b then (both (here m n)).0 else (both (here m n)).1) (omega (arith, l)) (omega (arith, l))
      ∙ ap (λ (c : Bool). if c then (both (here a b)).0 else (both (here a b)).1) (lower a b l)

  theirs : (if nat_lt b a then (both (here (min b a) (max b a))).0 else (both (here (min b a) (max b a))).1) ≡ (both (here a b)).1
  theirs =
      ap₂ (λ (m n : ℕ). if nat_lt b a then (both (here m n)).0 else (both (here m n)).1) (omega (arith, l)) (omega (arith, l))
      ∙ ap (λ (c : Bool). if c then (both (here a b)).0 else (both (here a b)).1) (higher a b l)

products : (key : List ℕ) (a b : ℕ) → a < b → (i : ℕ) → FiveAreDrawn key 0 a b i (mul_item key a b i) (mul_item key b a i)
products key a b l i =
    let m : mul_item key a b i ≡ (mul_parts (words_from key (shared_stream a b 0) (5 * i))).0 = mine mul_parts key a b 0 (5 * i) l in
    let t : mul_item key b a i ≡ (mul_parts (words_from key (shared_stream a b 0) (5 * i))).1 = theirs mul_parts key a b 0 (5 * i) l in
    let read : (part : ℕ) → words_from key (shared_stream a b 0) (5 * i) part ≡ word_of key (Part 0 a b i part) = λ part. words_of_blocks key (shared_stream a b 0) (5 * i + part) in
    (ap (λ (x : Triple). x.a) m ∙ read 0, ap (λ (x : Triple). x.b) m ∙ read 1, ap (λ (x : Triple). x.c) m ∙ read 2, ap (λ (x : Triple). x.a) t ∙ read 3, ap (λ (x : Triple). x.b) t ∙ read 4)

bits : (key : List ℕ) (a b : ℕ) → a < b → (i : ℕ) → FiveAreDrawn key 1 a b i (and_item key a b i) (and_item key b a i)
bits key a b l i =
    let m : and_item key a b i ≡ (and_parts (words_from key (shared_stream a b 1) (5 * i))).0 = mine and_parts key a b 1 (5 * i) l in
    let t : and_item key b a i ≡ (and_parts (words_from key (shared_stream a b 1) (5 * i))).1 = theirs and_parts key a b 1 (5 * i) l in
    let read : (part : ℕ) → words_from key (shared_stream a b 1) (5 * i) part ≡ word_of key (Part 1 a b i part) = λ part. words_of_blocks key (shared_stream a b 1) (5 * i + part) in
    (ap (λ (x : Triple). x.a) m ∙ read 0, ap (λ (x : Triple). x.b) m ∙ read 1, ap (λ (x : Triple). x.c) m ∙ read 2, ap (λ (x : Triple). x.a) t ∙ read 3, ap (λ (x : Triple). x.b) t ∙ read 4)

sums : (key : List ℕ) (a b : ℕ) → a < b → (i : ℕ) → ThreeAreDrawn key a b i (pair_item key a b i) (pair_item key b a i)
sums key a b l i =
    let m : pair_item key a b i ≡ (pair_parts (words_from key (shared_stream a b 2) (3 * i))).0 = mine pair_parts key a b 2 (3 * i) l in
    let t : pair_item key b a i ≡ (pair_parts (words_from key (shared_stream a b 2) (3 * i))).1 = theirs pair_parts key a b 2 (3 * i) l in
    let read : (part : ℕ) → words_from key (shared_stream a b 2) (3 * i) part ≡ word_of key (Part 2 a b i part) = λ part. words_of_blocks key (shared_stream a b 2) (3 * i + part) in
    (ap (λ (x : PairItem). x.s) m ∙ read 0, ap (λ (x : PairItem). x.s) t ∙ read 1, ap (λ (x : PairItem). x.x) m ∙ read 2)

-- ---- lists

length_first : {X : Type 0} (n : ℕ) (f : ℕ → X) → length (first_of n f) ≡ n
length_first n f = length-map-range_with_len f 0 n

first_get : {X : Type 0} (n : ℕ) (f : ℕ → X) (i : ℕ) → i < n → slice_get (first_of n f) i ≡ Some (f i)
first_get n f i h =
    slice_get-get_or (first_of n f) i (f i) (omega (arith, length_first n f)) ∙ ap (λ x. Some x) (get_or-map-range_with_len f 0 n i i (f i) h (omega arith))

first_at : {X : Type 0} (n : ℕ) (f : ℕ → X) (i : ℕ) (x : X) → slice_get (first_of n f) i ≡ Some x → (i < n) × (x ≡ f i)
first_at n f i x e =
    let within : i < n = omega (arith, length_first n f, slice_get_within (first_of n f) i x e) in
    let other : slice_get (first_of n f) i ≡ Some (f i) = first_get n f i within in
    (within, cc)

there : (me peer : ℕ) → (me ≡ peer → ⊥) → peer_at me (peer_place me peer) ≡ peer
there me peer ne = grind (arith, nat_tests)

place_below : (me peer hosts : ℕ) → (me ≡ peer → ⊥) → me < hosts → peer < hosts → peer_place me peer < hosts - 1
place_below me peer hosts ne hm hp = grind (arith, nat_tests)

-- the item at a place of the list that a host shares with a peer
shared_at : {X : Type 0} (none : X) (hosts me peer n i : ℕ) (item : ℕ → ℕ → X) → (me ≡ peer → ⊥) → me < hosts → peer < hosts → i < n
    → unwrap_or (slice_get (shared_with (first_of (hosts - 1) (λ place. first_of n (item (peer_at me place)))) me peer) i) none ≡ item peer i
shared_at {X = X} none hosts me peer n i item ne hm hp low =
    let lists : ℕ → List X = λ place. first_of n (item (peer_at me place)) in
    let list : shared_with (first_of (hosts - 1) lists) me peer ≡ first_of n (item peer) =
    ap (λ o. unwrap_or o []) (first_get (hosts - 1) lists (peer_place me peer) (place_below me peer hosts ne hm hp))
    ∙ ap (λ (other : ℕ). first_of n (item other)) (there me peer ne) in
    ap (λ (xs : List X). unwrap_or (slice_get xs i) none) list ∙ ap (λ o. unwrap_or o none) (first_get n (item peer) i low)

both_as : {X : Type 0} (R : X → X → Type 0) (x y z w : X) → z ≡ x → w ≡ y → R x y → R z w
both_as R x y z w e f h = subst (λ v. R v w) (sym e) (subst (λ v. R x v) (sym f) h)

-- ---- deals

module _ (counts : Counts) (key : List ℕ) where
  abbrev deals : List Deal
  deals = keyed_deals counts key

  at_host : (host : ℕ) (deal : Deal) → slice_get deals host ≡ Some deal → (host < counts.hosts) × (deal ≡ keyed_deal counts key host)
  at_host host deal e = first_at counts.hosts (keyed_deal counts key) host deal e

  own_drawn : (host i : ℕ) (deal : Deal) → slice_get deals host ≡ Some deal → i < counts.own → slice_index deal.own i ≡ word_of key (Own host i)
  own_drawn host i deal e low =
      ap (λ (d : Deal). slice_index d.own i) (at_host host deal e).1
      ∙ get_or-map-range_with_len (keyed_word key host) 0 counts.own i i 0 low (omega arith) ∙ words_of_blocks key host i

  module _ (a b : ℕ) (p q : Deal) (l : a < b) (ep : slice_get deals a ≡ Some p) (eq : slice_get deals b ≡ Some q) where
    no_peer : a ≡ b → ⊥
    no_peer e = omega (arith, e, l)

    no_back : b ≡ a → ⊥
    no_back e = omega (arith, e, l)

    muls_drawn : (i : ℕ) → i < counts.muls → FiveAreDrawn key 0 a b i (triple_at (shared_with p.triples a b) i) (triple_at (shared_with q.triples b a) i)
    muls_drawn i low =
        let one = at_host a p ep in
        let other = at_host b q eq in
        both_as (FiveAreDrawn key 0 a b i) (mul_item key a b i) (mul_item key b a i) _ _
        (ap (λ (d : Deal). triple_at (shared_with d.triples a b) i) one.1 ∙ shared_at zero_triple counts.hosts a b counts.muls i (mul_item key a) no_peer one.0 other.0 low)
        (ap (λ (d : Deal). triple_at (shared_with d.triples b a) i) other.1 ∙ shared_at zero_triple counts.hosts b a counts.muls i (mul_item key b) no_back other.0 one.0 low)
        (products key a b l i)

    ands_drawn : (i : ℕ) → i < counts.ands → FiveAreDrawn key 1 a b i (triple_at (shared_with p.bits a b) i) (triple_at (shared_with q.bits b a) i)
    ands_drawn i low =
        let one = at_host a p ep in
        let other = at_host b q eq in
        both_as (FiveAreDrawn key 1 a b i) (and_item key a b i) (and_item key b a i) _ _
        (ap (λ (d : Deal). triple_at (shared_with d.bits a b) i) one.1 ∙ shared_at zero_triple counts.hosts a b counts.ands i (and_item key a) no_peer one.0 other.0 low)
        (ap (λ (d : Deal). triple_at (shared_with d.bits b a) i) other.1 ∙ shared_at zero_triple counts.hosts b a counts.ands i (and_item key b) no_back other.0 one.0 low)
        (bits key a b l i)

    pairs_drawn : (i : ℕ) → i < counts.pairs → ThreeAreDrawn key a b i (pair_at (shared_with p.pairs a b) i) (pair_at (shared_with q.pairs b a) i)
    pairs_drawn i low =
        let one = at_host a p ep in
        let other = at_host b q eq in
        both_as (ThreeAreDrawn key a b i) (pair_item key a b i) (pair_item key b a i) _ _
        (ap (λ (d : Deal). pair_at (shared_with d.pairs a b) i) one.1 ∙ shared_at zero_pair counts.hosts a b counts.pairs i (pair_item key a) no_peer one.0 other.0 low)
        (ap (λ (d : Deal). pair_at (shared_with d.pairs b a) i) other.1 ∙ shared_at zero_pair counts.hosts b a counts.pairs i (pair_item key b) no_back other.0 one.0 low)
        (sums key a b l i)

pub deals_drawn : DealsAreDrawn
deals_drawn counts key = record {
  hosts = length_first counts.hosts (keyed_deal counts key);
  own = own_drawn counts key;
  muls = muls_drawn counts key;
  ands = ands_drawn counts key;
  pairs = pairs_drawn counts key;
}

pub numbers_drawn : NumbersAreApart
numbers_drawn = record {
  keys = number_is_key;
  apart = numbers_apart;
  dealt = λ counts number. deals_drawn counts (number_key number);
}
