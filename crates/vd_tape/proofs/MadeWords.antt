-- The numbers of the deals that a key makes are words, and the deals are those of so many hosts.
use Rattle.std.proofs.Common.{◌≡◌, ℕ, zero, suc, ◌+◌, ◌-◌, ◌*◌, min, max, ◌^◌, ◌<◌, Bool, true, false, if◌then◌else◌, List, length, map, sym, ◌∙◌, subst, arith}
use Rattle.std.specs.Prelude.{nat_lt, bit_xor}
use Rattle.std.specs.List.{All, AllByRecursion, range_with_len}
use Rattle.std.specs.Int.Bits.{and_lt}
use Rattle.std.proofs.lemmas.Nat.{xor_lt}
use Rattle.std.proofs.lemmas.Option.{slice_get_within, get_or_from_slice_get}
use Rattle.std.proofs.lemmas.List.Elements.{All-from_recursion}
use Rattle.std.proofs.lemmas.List.FromFn.{length-map-range_with_len, get_or-map-range_with_len}
use Rattle.vd_base.specs.Identities.{and_left, pair_left}
use Rattle.vd_tape.specs.declared.deal_items.deal.Counts.{Counts}
use Rattle.vd_base.specs.Words.{IsWord}
use Rattle.vd_tape.specs.Validity.{AreDeals, ArePairWords, AreTripleWords, HasWords, peer_at}
use Rattle.vd_tape.specs.Made.{and_item, and_parts, first_of, keyed_deal, keyed_deals, keyed_word, made_deals, mul_item, mul_parts, number_key, pair_item, pair_parts, shared_stream, words_from}
use Rattle.vd_tape.specs.Text.{AreDealsOf}
use Rattle.vd_tape.proofs.MadeValid.{below_word, word_bound}

-- ---- lists of a function's values

all_of : {X : Type 0} (P : X → Type 0) (f : ℕ → X) (a n : ℕ) → ((k : ℕ) → k < a + n → P (f k)) → AllByRecursion P (map f (range_with_len a n))
all_of P f a zero each = tt
all_of P f a (suc n) each = (each a (omega arith), all_of P f (a + 1) n (λ k below. each k (omega (arith, below))))

pub all_first : {X : Type 0} (P : X → Type 0) (n : ℕ) (f : ℕ → X) → ((k : ℕ) → k < n → P (f k)) → All P (first_of n f)
all_first P n f each = All-from_recursion P (first_of n f) (all_of P f 0 n (λ k below. each k (omega (arith, below))))

-- ---- deals

either : {X : Type 0} (P : X → Type 0) (first : Bool) (x y : X) → P x → P y → P (if first then x else y)
either P true x y p q = p
either P false x y p q = q

module _ (word : ℕ → ℕ) (below : (k : ℕ) → word k < 2 ^ 32) where
  mul_words : AreTripleWords (mul_parts word).0 × AreTripleWords (mul_parts word).1
  mul_words = ((below 0, below 1, below 2), (below 3, below 4, below_word _))

  and_words : AreTripleWords (and_parts word).0 × AreTripleWords (and_parts word).1
  and_words =
      let product : and_left (word 0) (word 3) (word 1) (word 4) < 2 ^ 32 =
      and_lt 32 (bit_xor (word 0) (word 3)) (bit_xor (word 1) (word 4)) (xor_lt 32 (word 0) (word 3) (below 0) (below 3)) (xor_lt 32 (word 1) (word 4) (below 1) (below 4)) in
      ((below 0, below 1, below 2), (below 3, below 4, xor_lt 32 (and_left (word 0) (word 3) (word 1) (word 4)) (word 2) product (below 2)))

  pair_words : ArePairWords (pair_parts word).0 × ArePairWords (pair_parts word).1
  pair_words = ((below 0, below 2), (below 1, xor_lt 32 (pair_left (word 0) (word 1)) (word 2) (below_word _) (below 2)))

module _ (counts : Counts) (key : List ℕ) (me : ℕ) where
  stream_words : (kind peer place k : ℕ) → words_from key (shared_stream (min me peer) (max me peer) kind) place k < 2 ^ 32
  stream_words kind peer place k = word_bound key (shared_stream (min me peer) (max me peer) kind) (place + k)

  made_has_words : HasWords (keyed_deal counts key me)
  made_has_words = record {
    own = all_first IsWord counts.own (keyed_word key me) (λ k below. word_bound key me k);
    triples = all_first (All AreTripleWords) (counts.hosts - 1) (λ place. first_of counts.muls (mul_item key me (peer_at me place)))
        (λ place below. all_first AreTripleWords counts.muls (mul_item key me (peer_at me place)) (λ i under.
        let both = mul_words (words_from key (shared_stream (min me (peer_at me place)) (max me (peer_at me place)) 0) (5 * i)) (stream_words 0 (peer_at me place) (5 * i)) in
        either AreTripleWords (nat_lt me (peer_at me place)) _ _ both.0 both.1));
    bits = all_first (All AreTripleWords) (counts.hosts - 1) (λ place. first_of counts.ands (and_item key me (peer_at me place)))
        (λ place below. all_first AreTripleWords counts.ands (and_item key me (peer_at me place)) (λ i under.
        let both = and_words (words_from key (shared_stream (min me (peer_at me place)) (max me (peer_at me place)) 1) (5 * i)) (stream_words 1 (peer_at me place) (5 * i)) in
        either AreTripleWords (nat_lt me (peer_at me place)) _ _ both.0 both.1));
    pairs = all_first (All ArePairWords) (counts.hosts - 1) (λ place. first_of counts.pairs (pair_item key me (peer_at me place)))
        (λ place below. all_first ArePairWords counts.pairs (pair_item key me (peer_at me place)) (λ i under.
        let both = pair_words (words_from key (shared_stream (min me (peer_at me place)) (max me (peer_at me place)) 2) (3 * i)) (stream_words 2 (peer_at me place) (3 * i)) in
        either ArePairWords (nat_lt me (peer_at me place)) _ _ both.0 both.1));
  }

pub count_of_keyed : (counts : Counts) (key : List ℕ) → length (keyed_deals counts key) ≡ counts.hosts
count_of_keyed counts key = length-map-range_with_len (keyed_deal counts key) 0 counts.hosts

pub keyed_of : (counts : Counts) (key : List ℕ) → AreDeals (keyed_deals counts key) → AreDealsOf counts.hosts (keyed_deals counts key)
keyed_of counts key are host deal e =
    let is = are.each host deal e in
    let within = slice_get_within (keyed_deals counts key) host deal e in
    let count = count_of_keyed counts key in
    let same : deal ≡ keyed_deal counts key host =
    sym (get_or_from_slice_get (keyed_deals counts key) host deal deal e) ∙ get_or-map-range_with_len (keyed_deal counts key) 0 counts.hosts host host deal (omega (arith, within, count)) (omega arith) in
    record { is = is.0; words = subst HasWords (sym same) (made_has_words counts key host); hosts_are = is.2 ∙ count; me_is = is.1 }

-- those that a number makes
pub count_of_deals : (counts : Counts) (number : ℕ) → length (made_deals counts number) ≡ counts.hosts
count_of_deals counts number = count_of_keyed counts (number_key number)

pub deals_of : (counts : Counts) (number : ℕ) → AreDeals (made_deals counts number) → AreDealsOf counts.hosts (made_deals counts number)
deals_of counts number are = keyed_of counts (number_key number) are
