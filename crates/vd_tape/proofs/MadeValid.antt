-- The deals that a key makes are valid.
use Rattle.std.proofs.Common.{◌≡◌, ℕ, zero, suc, ◌+◌, ◌-◌, ◌*◌, ◌%◌, ◌^◌, ◌<◌, ◌≤◌, min, max, true, false, List, [], length, Some, None, Result, Ok, Err, inl, inr, refl, sym, ap, subst, ◌∙◌, arith}
use Rattle.std.specs.Prelude.{slice_get, unwrap_or, nat_lt, bit_xor, map, IfOk}
use Rattle.std.specs.List.{AllByRecursion, range_with_len}
use Rattle.std.specs.declared.alloc.AllocError.{AllocError}
use Rattle.std.proofs.lemmas.Bool.{lt-ltb, le-ltb, cases_lt}
use Rattle.std.proofs.lemmas.Bool.Decides.{nat_tests}
use Rattle.std.proofs.lemmas.Nat.{xor_comm}
use Rattle.std.specs.Int.Bits.{xor_assoc, xor_self, xor_zero_l}
use Rattle.std.proofs.lemmas.Option.{slice_get_within, slice_get_past, slice_get-get_or}
use Rattle.std.proofs.lemmas.List.FromFn.{length-map-range_with_len, get_or-map-range_with_len}
use Rattle.std.proofs.lemmas.List.Elements.{All-from_recursion}
use Rattle.rand_chacha.specs.Block.{block_word}
use Rattle.vd_base.specs.Limits.{most_deal_items}
use Rattle.vd_tape.specs.declared.deal_items.deal.Deal.{Deal}
use Rattle.vd_tape.specs.declared.deal_items.deal.Counts.{Counts}
use Rattle.vd_tape.specs.declared.deal_items.deal.DealKind.{DealKind}
use Rattle.vd_tape.specs.declared.deal_items.deal.DealKind.TheVariants.{Own, Mul, And, Pair}
use Rattle.vd_base.specs.Identities.{mul_left, and_left, pair_left}
use Rattle.vd_tape.specs.Identities.{MeetsMul, MeetsAnd, MeetsPair, zero_triple, zero_pair}
use Rattle.vd_tape.specs.Validity.{peer_at, peer_place, shared_with, Meets, IsDeal, AreDeals, AreWithin, IsConsistent}
use Rattle.vd_tape.specs.Made.{keyed_word, words_from, shared_stream, part_of, mul_parts, and_parts, pair_parts, mul_item, and_item, pair_item, first_of, keyed_deal, keyed_deals, number_key, made_deals, AreCounts}

-- ---- values of a function

length_first : {X : Type 0} (n : ℕ) (f : ℕ → X) → length (first_of n f) ≡ n
length_first n f = length-map-range_with_len f 0 n

first_get : {X : Type 0} (n : ℕ) (f : ℕ → X) (i : ℕ) → i < n → slice_get (first_of n f) i ≡ Some (f i)
first_get n f i h =
    slice_get-get_or (first_of n f) i (f i) (omega (arith, length_first n f)) ∙ ap (λ x. Some x) (get_or-map-range_with_len f 0 n i i (f i) h (omega arith))

first_at : {X : Type 0} (n : ℕ) (f : ℕ → X) (i : ℕ) (x : X) → slice_get (first_of n f) i ≡ Some x → (i < n) × (x ≡ f i)
first_at n f i x e =
    let within : i < n = omega (arith, length_first n f, slice_get_within (first_of n f) i x e) in
    let other : slice_get (first_of n f) i ≡ Some (f i) = first_get n f i within in
    (within, cc)

all_of : {X : Type 0} (P : X → Type 0) (f : ℕ → X) → ((k : ℕ) → P (f k)) → (a n : ℕ) → AllByRecursion P (map f (range_with_len a n))
all_of P f h a zero = tt
all_of P f h a (suc n) = (h a, all_of P f h (a + 1) n)

-- ---- the deals as such

within_limit : {X : Type 0} (n count : ℕ) (f : ℕ → ℕ → X) → count ≤ most_deal_items → AreWithin (first_of n (λ place. first_of count (f place)))
within_limit n count f le =
    All-from_recursion (λ items. length items ≤ most_deal_items) (first_of n (λ place. first_of count (f place)))
    (all_of (λ items. length items ≤ most_deal_items) (λ place. first_of count (f place)) (λ k. omega (arith, length_first count (f k), le)) 0 n)

made_is_deal : (counts : Counts) (key : List ℕ) (me : ℕ) → AreCounts counts → me < counts.hosts → IsDeal (keyed_deal counts key me)
made_is_deal counts key me are below = record {
  few = are.hosts;
  own_number = below;
  own = omega (arith, length_first counts.own (keyed_word key me), are.own);
  triples = omega (arith, length_first (counts.hosts - 1) (λ place. first_of counts.muls (mul_item key me (peer_at me place))));
  bits = omega (arith, length_first (counts.hosts - 1) (λ place. first_of counts.ands (and_item key me (peer_at me place))));
  pairs = omega (arith, length_first (counts.hosts - 1) (λ place. first_of counts.pairs (pair_item key me (peer_at me place))));
  triples_within = within_limit (counts.hosts - 1) counts.muls (λ place. mul_item key me (peer_at me place)) are.muls;
  bits_within = within_limit (counts.hosts - 1) counts.ands (λ place. and_item key me (peer_at me place)) are.ands;
  pairs_within = within_limit (counts.hosts - 1) counts.pairs (λ place. pair_item key me (peer_at me place)) are.pairs;
}

made_are_deals : (counts : Counts) (key : List ℕ) → AreCounts counts → AreDeals (keyed_deals counts key)
made_are_deals counts key are = record {
  few = omega (arith, length_first counts.hosts (keyed_deal counts key), are.hosts);
  each = λ host deal e.
      let at = first_at counts.hosts (keyed_deal counts key) host deal e in (
        subst IsDeal (sym at.1) (made_is_deal counts key host are at.0),
        ap (λ (d : Deal). d.me.0) at.1,
        ap (λ (d : Deal). d.hosts) at.1 ∙ sym (length_first counts.hosts (keyed_deal counts key)),
      );
}

-- ---- the identities

pub below_word : (x : ℕ) → x % 2 ^ 32 < 2 ^ 32
below_word x = omega arith

pub word_bound : (key : List ℕ) (stream place : ℕ) → keyed_word key stream place < 2 ^ 32
unfolding keyed_word block_word
word_bound key stream place = below_word _

rest_of_sum : (t c : ℕ) → t < 2 ^ 32 → c < 2 ^ 32 → t ≡ (c + (t + (2 ^ 32 - c)) % 2 ^ 32) % 2 ^ 32
rest_of_sum t c ht hc = omega arith

rest_of_xor : (t c : ℕ) → t ≡ bit_xor c (bit_xor t c)
rest_of_xor t c = sym (ap (bit_xor c) (xor_comm t c) ∙ sym (xor_assoc c c t) ∙ ap (λ x. bit_xor x t) (xor_self c) ∙ xor_zero_l t)

mul_meets : (word : ℕ → ℕ) → word 2 < 2 ^ 32 → MeetsMul (mul_parts word).0 (mul_parts word).1
mul_meets word h = rest_of_sum (mul_left (word 0) (word 3) (word 1) (word 4)) (word 2) (below_word ((word 0 + word 3) * (word 1 + word 4))) h

and_meets : (word : ℕ → ℕ) → MeetsAnd (and_parts word).0 (and_parts word).1
and_meets word = rest_of_xor (and_left (word 0) (word 3) (word 1) (word 4)) (word 2)

pair_meets : (word : ℕ → ℕ) → MeetsPair (pair_parts word).0 (pair_parts word).1
pair_meets word = rest_of_xor (pair_left (word 0) (word 1)) (word 2)

-- the parts of both hosts are of one item
both_parts : {X : Type 0} (R : X → X → Type 0) (first second : ℕ) (parts : ℕ → ℕ → X × X) → first < second → R (parts first second).0 (parts first second).1
    → R (part_of first second (parts (min first second) (max first second))) (part_of second first (parts (min second first) (max second first)))
both_parts R first second parts lt h =
    let low : min first second ≡ first = omega arith in
    let high : max first second ≡ second = omega arith in
    let low' : min second first ≡ first = omega arith in
    let high' : max second first ≡ second = omega arith in
    let yes : nat_lt first second ≡ true = lt-ltb first second lt in
    let no : nat_lt second first ≡ false = le-ltb second first (omega arith) in
    rw (low, high, low', high', yes, no) h

-- ---- the lists

there : (me peer : ℕ) → (me ≡ peer → ⊥) → peer_at me (peer_place me peer) ≡ peer
there me peer ne = grind (arith, nat_tests)

place_below : (me peer hosts : ℕ) → (me ≡ peer → ⊥) → me < hosts → peer < hosts → peer_place me peer < hosts - 1
place_below me peer hosts ne hm hp = grind (arith, nat_tests)

shared_made : {X : Type 0} (hosts me peer : ℕ) (lists : ℕ → List X) → (me ≡ peer → ⊥) → me < hosts → peer < hosts
    → shared_with (first_of (hosts - 1) (λ place. lists (peer_at me place))) me peer ≡ lists peer
shared_made hosts me peer lists ne hm hp =
    ap (λ o. unwrap_or o []) (first_get (hosts - 1) (λ place. lists (peer_at me place)) (peer_place me peer) (place_below me peer hosts ne hm hp)) ∙ ap lists (there me peer ne)

lists_meet : {X : Type 0} (R : X → X → Type 0) (none : X) (n : ℕ) (f g : ℕ → X) → R none none → ((i : ℕ) → R (f i) (g i))
    → (i : ℕ) → R (unwrap_or (slice_get (first_of n f) i) none) (unwrap_or (slice_get (first_of n g) i) none)
lists_meet R none n f g zeros each i = elim (cases_lt i n) [
  | inl lt ↦ rw (first_get n f i lt, first_get n g i lt) (each i)
  | inr le ↦
      let a : slice_get (first_of n f) i ≡ None = slice_get_past (first_of n f) i (omega (arith, length_first n f)) in
      let b : slice_get (first_of n g) i ≡ None = slice_get_past (first_of n g) i (omega (arith, length_first n g)) in
      rw (a, b) zeros
]

-- two hosts have lists of one function, and so each item meets its identity
shared_meet : {X : Type 0} (R : X → X → Type 0) (none : X) (hosts first second n : ℕ) (item : ℕ → ℕ → ℕ → X) → first < second → second < hosts → R none none
    → ((i : ℕ) → R (item first second i) (item second first i)) → (i : ℕ)
    → R (unwrap_or (slice_get (shared_with (first_of (hosts - 1) (λ place. first_of n (item first (peer_at first place)))) first second) i) none)
    (unwrap_or (slice_get (shared_with (first_of (hosts - 1) (λ place. first_of n (item second (peer_at second place)))) second first) i) none)
shared_meet R none hosts first second n item lt below zeros each i =
    let a = shared_made hosts first second (λ peer. first_of n (item first peer)) (λ e. omega (arith, e)) (omega arith) below in
    let b = shared_made hosts second first (λ peer. first_of n (item second peer)) (λ e. omega (arith, e)) below (omega arith) in
    rw (a, b) (lists_meet R none n (item first second) (item second first) zeros each i)

made_meets : (counts : Counts) (key : List ℕ) (first second : ℕ) → first < second → second < counts.hosts → (kind : DealKind) (i : ℕ) → Meets (keyed_deal counts key first) (keyed_deal counts key second) kind i
made_meets counts key first second lt below Own i = refl
made_meets counts key first second lt below Mul i =
    shared_meet MeetsMul zero_triple counts.hosts first second counts.muls (mul_item key) lt below refl
    (λ j. both_parts MeetsMul first second (λ a b. mul_parts (words_from key (shared_stream a b 0) (5 * j))) lt
    (mul_meets (words_from key (shared_stream first second 0) (5 * j)) (word_bound key (shared_stream first second 0) (5 * j + 2)))) i
made_meets counts key first second lt below And i =
    shared_meet MeetsAnd zero_triple counts.hosts first second counts.ands (and_item key) lt below refl
    (λ j. both_parts MeetsAnd first second (λ a b. and_parts (words_from key (shared_stream a b 1) (5 * j))) lt (and_meets (words_from key (shared_stream first second 1) (5 * j)))) i
made_meets counts key first second lt below Pair i =
    shared_meet MeetsPair zero_pair counts.hosts first second counts.pairs (pair_item key) lt below refl
    (λ j. both_parts MeetsPair first second (λ a b. pair_parts (words_from key (shared_stream a b 2) (3 * j))) lt (pair_meets (words_from key (shared_stream first second 2) (3 * j)))) i

made_consistent : (counts : Counts) (key : List ℕ) → IsConsistent (keyed_deals counts key)
made_consistent counts key first second p q lt ep eq kind i =
    let a = first_at counts.hosts (keyed_deal counts key) first p ep in
    let b = first_at counts.hosts (keyed_deal counts key) second q eq in
    let one : Meets p (keyed_deal counts key second) kind i = subst (λ d. Meets d (keyed_deal counts key second) kind i) (sym a.1) (made_meets counts key first second lt b.0 kind i) in
    subst (λ d. Meets p d kind i) (sym b.1) one

-- ---- as answered

pub valid_if_keyed : (counts : Counts) (key : List ℕ) (r : Result (List Deal) AllocError) → AreCounts counts → IfOk r (λ deals. deals ≡ keyed_deals counts key) → IfOk r AreDeals
valid_if_keyed counts key (Ok deals) are e = subst AreDeals (sym e) (made_are_deals counts key are)
valid_if_keyed counts key (Err why) are e = tt

pub consistent_if_keyed : (counts : Counts) (key : List ℕ) (r : Result (List Deal) AllocError) → IfOk r (λ deals. deals ≡ keyed_deals counts key) → IfOk r IsConsistent
consistent_if_keyed counts key (Ok deals) e = subst IsConsistent (sym e) (made_consistent counts key)
consistent_if_keyed counts key (Err why) e = tt

-- those that a number makes
pub valid_if_made : (counts : Counts) (number : ℕ) (r : Result (List Deal) AllocError) → AreCounts counts → IfOk r (λ deals. deals ≡ made_deals counts number) → IfOk r AreDeals
valid_if_made counts number r are e = valid_if_keyed counts (number_key number) r are e

pub consistent_if_made : (counts : Counts) (number : ℕ) (r : Result (List Deal) AllocError) → IfOk r (λ deals. deals ≡ made_deals counts number) → IfOk r IsConsistent
consistent_if_made counts number r e = consistent_if_keyed counts (number_key number) r e
