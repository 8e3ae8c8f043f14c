-- Inputs and consistent deals, each list followed by zeros, are a valid deal with these inputs.
use Rattle.std.proofs.Common.{◌≡◌, ℕ, zero, suc, ◌+◌, ◌*◌, ◌%◌, ◌^◌, ◌<◌, ◌≤◌, nat_eq, Bool, true, false, List, [], ◌∷◌, Option, Some, None, length, refl, sym, ap, ◌∙◌, arith}
use Rattle.std.specs.Prelude.{◌≢◌, All, slice_get, slice_index, unwrap_or, bit_and, bit_xor, if◌then◌else◌}
use Rattle.std.proofs.lemmas.Nat.{xor_comm}
use Rattle.std.proofs.Math.Nat.{add_comm}
use Rattle.vd_tape.specs.declared.deal_items.items.Triple.{Triple}
use Rattle.vd_tape.specs.declared.deal_items.items.PairItem.{PairItem}
use Rattle.vd_tape.specs.declared.deal_items.deal.Deal.{Deal}
use Rattle.vd_tape.specs.declared.deal_items.deal.DealKind.TheVariants.{Mul, And, Pair}
use Rattle.vd_tape.specs.Identities.{MeetsMul, MeetsAnd, MeetsPair, zero_triple, zero_pair}
use Rattle.vd_base.specs.Words.{IsWord, InputsAreWords}
use Rattle.vd_tape.specs.Validity.{AreTripleWords, ArePairWords, HasWords, peer_place, shared_with}
use Rattle.vd_execution.specs.Registers.{nth}
use Rattle.vd_execution.specs.Step.{Source, Inputs, OwnWords, Triples, BitTriples, Pairs}
use Rattle.vd_execution.specs.World.{or_zeros, zeros_of, followed_by_zeros}
use Rattle.vd_execution.specs.Deals.{IsValidDeal}
use Rattle.vd_machine.specs.Machines.{item_or_none, list_of, pair_item, triple_item, word_item}
use Rattle.vd_backend_laws.specs.Suite.{AreGiven}
use Rattle.vd_backend_laws.specs.Whole.{inputs_of}
use Rattle.vd_world.specs.Supplies.{AreFiles, FilesAreValid, items_for, supply_of_files}
use Rattle.vd_world.proofs.Shared.{all_meet, none_past, part}

-- ---- items and zeros

module _ {X : Type 0} (source : Source) (item : X → List ℕ) where
  -- an item has as many words as zeros have
  long_as : ((x : X) → length (item x) ≡ length (zeros_of source)) → (o : Option X) → length (or_zeros source (item_or_none item o)) ≡ length (zeros_of source)
  long_as each None = refl
  long_as each (Some x) = each x

  words_in : (P : X → Type 0) → ((x : X) → P x → (place : ℕ) → IsWord (nth (item x) place)) → ((place : ℕ) → IsWord (nth (zeros_of source) place))
      → (xs : List X) → All P xs → (i place : ℕ) → IsWord (nth (or_zeros source (item_or_none item (slice_get xs i))) place)
  words_in P each zeros [] all i place = zeros place
  words_in P each zeros (x ∷ xs) all zero place = each x (all 0 x (omega arith)) place
  words_in P each zeros (x ∷ xs) all (suc i) place = words_in P each zeros xs (λ k d lt. all (suc k) d (omega (arith, lt))) i place

is_zero : IsWord 0
is_zero = omega arith

zero_words : (source : Source) (place : ℕ) → IsWord (nth (zeros_of source) place)
zero_words Inputs zero = is_zero
zero_words Inputs (suc place) = is_zero
zero_words OwnWords zero = is_zero
zero_words OwnWords (suc place) = is_zero
zero_words (Triples p) zero = is_zero
zero_words (Triples p) (suc zero) = is_zero
zero_words (Triples p) (suc (suc zero)) = is_zero
zero_words (Triples p) (suc (suc (suc place))) = is_zero
zero_words (BitTriples p) zero = is_zero
zero_words (BitTriples p) (suc zero) = is_zero
zero_words (BitTriples p) (suc (suc zero)) = is_zero
zero_words (BitTriples p) (suc (suc (suc place))) = is_zero
zero_words (Pairs p) zero = is_zero
zero_words (Pairs p) (suc zero) = is_zero
zero_words (Pairs p) (suc (suc place)) = is_zero

one_word : (x : ℕ) → IsWord x → (place : ℕ) → IsWord (nth (word_item x) place)
one_word x is zero = is
one_word x is (suc place) = is_zero

three_words : (t : Triple) → AreTripleWords t → (place : ℕ) → IsWord (nth (triple_item t) place)
three_words t are zero = are.0
three_words t are (suc zero) = are.1
three_words t are (suc (suc zero)) = are.2
three_words t are (suc (suc (suc place))) = is_zero

two_words : (p : PairItem) → ArePairWords p → (place : ℕ) → IsWord (nth (pair_item p) place)
two_words p are zero = are.0
two_words p are (suc zero) = are.1
two_words p are (suc (suc place)) = is_zero

-- ---- the lists of a deal

none_of : {X : Type 0} (P : X → Type 0) → All P (let l : List X = [] in l)
none_of P k d lt = absurd (omega (arith, lt))

unwrapped : {X : Type 0} (P : X → Type 0) (lists : List (List X)) → All (All P) lists → (place : ℕ) → All P (unwrap_or (slice_get lists place) [])
unwrapped P [] all place = none_of P
unwrapped P (xs ∷ lists) all zero = all 0 xs (omega arith)
unwrapped P (xs ∷ lists) all (suc place) = unwrapped P lists (λ k d lt. all (suc k) d (omega (arith, lt))) place

shared_all : {X : Type 0} (P : X → Type 0) (lists : List (List X)) → All (All P) lists → (me peer : ℕ) → All P (list_of lists me peer)
shared_all {X} P lists all me peer = chosen (nat_eq peer me)
  where
    chosen : (b : Bool) → All P (if b then [] else shared_with lists me peer)
    chosen true = none_of P
    chosen false = unwrapped P lists all (peer_place me peer)

input_words : (words : List ℕ) → ((i : ℕ) → slice_index words i < 2 ^ 32) → All IsWord words
input_words (x ∷ xs) each zero d lt = each 0
input_words (x ∷ xs) each (suc k) d lt = input_words xs (λ i. each (suc i)) k d (omega (arith, lt))
input_words [] each k d lt = absurd (omega (arith, lt))

module _ (inputs : List (List ℕ)) where
  lengths_at : (o : Option Deal) (h : ℕ) (source : Source) (i : ℕ) → length (or_zeros source (items_for inputs h o source i)) ≡ length (zeros_of source)
  lengths_at None h source i = refl
  lengths_at (Some d) h Inputs i = long_as Inputs word_item (λ x. refl) (slice_get (inputs_of inputs h) i)
  lengths_at (Some d) h OwnWords i = long_as OwnWords word_item (λ x. refl) (slice_get d.own i)
  lengths_at (Some d) h (Triples p) i = long_as (Triples p) triple_item (λ x. refl) (slice_get (list_of d.triples d.me.0 p) i)
  lengths_at (Some d) h (BitTriples p) i = long_as (BitTriples p) triple_item (λ x. refl) (slice_get (list_of d.bits d.me.0 p) i)
  lengths_at (Some d) h (Pairs p) i = long_as (Pairs p) pair_item (λ x. refl) (slice_get (list_of d.pairs d.me.0 p) i)

  words_at : InputsAreWords inputs → (d : Deal) → HasWords d → (h : ℕ) (source : Source) (i place : ℕ) → IsWord (nth (or_zeros source (items_for inputs h (Some d) source i)) place)
  words_at words d has h Inputs i place = words_in Inputs word_item IsWord one_word (zero_words Inputs) (inputs_of inputs h) (input_words (inputs_of inputs h) (words h)) i place
  words_at words d has h OwnWords i place = words_in OwnWords word_item IsWord one_word (zero_words OwnWords) d.own has.own i place
  words_at words d has h (Triples p) i place =
      words_in (Triples p) triple_item AreTripleWords three_words (zero_words (Triples p)) (list_of d.triples d.me.0 p) (shared_all AreTripleWords d.triples has.triples d.me.0 p) i place
  words_at words d has h (BitTriples p) i place =
      words_in (BitTriples p) triple_item AreTripleWords three_words (zero_words (BitTriples p)) (list_of d.bits d.me.0 p) (shared_all AreTripleWords d.bits has.bits d.me.0 p) i place
  words_at words d has h (Pairs p) i place =
      words_in (Pairs p) pair_item ArePairWords two_words (zero_words (Pairs p)) (list_of d.pairs d.me.0 p) (shared_all ArePairWords d.pairs has.pairs d.me.0 p) i place

  any_words : InputsAreWords inputs → (o : Option Deal) → ((d : Deal) → o ≡ Some d → HasWords d) → (h : ℕ) (source : Source) (i place : ℕ)
      → IsWord (nth (or_zeros source (items_for inputs h o source i)) place)
  any_words words None has h source i place = zero_words source place
  any_words words (Some d) has h source i place = words_at words d (has d refl) h source i place

  -- ---- items that are shared

  triples_are : (o : Option Deal) (h peer i : ℕ) → or_zeros (Triples peer) (items_for inputs h o (Triples peer) i) ≡ triple_item (part (λ d. d.triples) zero_triple o peer i)
  triples_are None h peer i = refl
  triples_are (Some d) h peer i = at (slice_get (list_of d.triples d.me.0 peer) i)
    where
      at : (x : Option Triple) → or_zeros (Triples peer) (item_or_none triple_item x) ≡ triple_item (unwrap_or x zero_triple)
      at None = refl
      at (Some t) = refl

  bits_are : (o : Option Deal) (h peer i : ℕ) → or_zeros (BitTriples peer) (items_for inputs h o (BitTriples peer) i) ≡ triple_item (part (λ d. d.bits) zero_triple o peer i)
  bits_are None h peer i = refl
  bits_are (Some d) h peer i = at (slice_get (list_of d.bits d.me.0 peer) i)
    where
      at : (x : Option Triple) → or_zeros (BitTriples peer) (item_or_none triple_item x) ≡ triple_item (unwrap_or x zero_triple)
      at None = refl
      at (Some t) = refl

  pairs_are : (o : Option Deal) (h peer i : ℕ) → or_zeros (Pairs peer) (items_for inputs h o (Pairs peer) i) ≡ pair_item (part (λ d. d.pairs) zero_pair o peer i)
  pairs_are None h peer i = refl
  pairs_are (Some d) h peer i = at (slice_get (list_of d.pairs d.me.0 peer) i)
    where
      at : (x : Option PairItem) → or_zeros (Pairs peer) (item_or_none pair_item x) ≡ pair_item (unwrap_or x zero_pair)
      at None = refl
      at (Some p) = refl

  given_at : (o : Option Deal) (h : ℕ) → (o ≡ None → inputs_of inputs h ≡ []) → (i : ℕ) → nth (or_zeros Inputs (items_for inputs h o Inputs i)) 0 ≡ slice_index (inputs_of inputs h) i
  given_at None h none i = ap (λ (l : List ℕ). slice_index l i) (sym (none refl))
  given_at (Some d) h none i = at (inputs_of inputs h) i
    where
      at : (l : List ℕ) (i : ℕ) → nth (or_zeros Inputs (item_or_none word_item (slice_get l i))) 0 ≡ slice_index l i
      at [] i = refl
      at (x ∷ l) zero = refl
      at (x ∷ l) (suc i) = at l i

no_inputs : (inputs : List (List ℕ)) (h : ℕ) → length inputs ≤ h → inputs_of inputs h ≡ []
no_inputs [] h le = refl
no_inputs (x ∷ inputs) zero le = absurd (omega (arith, le))
no_inputs (x ∷ inputs) (suc h) le = no_inputs inputs h (omega (arith, le))

mul_turned : (x y : Triple) → MeetsMul x y → MeetsMul y x
mul_turned x y meets =
    ap (λ (a : ℕ). (a * (y.b + x.b)) % 2 ^ 32) (add_comm y.a x.a) ∙ ap (λ (b : ℕ). ((x.a + y.a) * b) % 2 ^ 32) (add_comm y.b x.b) ∙ meets ∙ ap (λ (c : ℕ). c % 2 ^ 32) (add_comm x.c y.c)

and_turned : (x y : Triple) → MeetsAnd x y → MeetsAnd y x
and_turned x y meets =
    ap (λ (a : ℕ). bit_and a (bit_xor y.b x.b)) (xor_comm y.a x.a) ∙ ap (λ (b : ℕ). bit_and (bit_xor x.a y.a) b) (xor_comm y.b x.b) ∙ meets ∙ xor_comm x.c y.c

pair_turned : (x y : PairItem) → MeetsPair x y → MeetsPair y x
pair_turned x y meets = ap (λ (s : ℕ). s % 2 ^ 32) (add_comm y.s x.s) ∙ meets ∙ xor_comm x.x y.x

module _ (inputs : List (List ℕ)) (deals : List Deal) (files : AreFiles inputs deals) where
  deal_at : (h : ℕ) (d : Deal) → slice_get deals h ≡ Some d → d.me.0 ≡ h
  deal_at h d e = (files.dealt h d e).me_is

  triples_meet : (g h i : ℕ) → g ≢ h → MeetsMul (part (λ d. d.triples) zero_triple (slice_get deals g) h i) (part (λ d. d.triples) zero_triple (slice_get deals h) g i)
  triples_meet = all_meet (λ d. d.triples) zero_triple MeetsMul mul_turned refl deals deal_at (λ h d e. (files.dealt h d e).is.triples ∙ (files.dealt h d e).hosts_are)
      (λ g h p q lt e f i. files.consistent g h p q lt e f Mul i)

  bits_meet : (g h i : ℕ) → g ≢ h → MeetsAnd (part (λ d. d.bits) zero_triple (slice_get deals g) h i) (part (λ d. d.bits) zero_triple (slice_get deals h) g i)
  bits_meet = all_meet (λ d. d.bits) zero_triple MeetsAnd and_turned refl deals deal_at (λ h d e. (files.dealt h d e).is.bits ∙ (files.dealt h d e).hosts_are)
      (λ g h p q lt e f i. files.consistent g h p q lt e f And i)

  pairs_meet : (g h i : ℕ) → g ≢ h → MeetsPair (part (λ d. d.pairs) zero_pair (slice_get deals g) h i) (part (λ d. d.pairs) zero_pair (slice_get deals h) g i)
  pairs_meet = all_meet (λ d. d.pairs) zero_pair MeetsPair pair_turned refl deals deal_at (λ h d e. (files.dealt h d e).is.pairs ∙ (files.dealt h d e).hosts_are)
      (λ g h p q lt e f i. files.consistent g h p q lt e f Pair i)

  valid : IsValidDeal (followed_by_zeros (supply_of_files inputs deals))
  valid = record {
    lengths = λ h source i. lengths_at inputs (slice_get deals h) h source i;
    words = λ h source i place. any_words inputs files.words (slice_get deals h) (λ d e. (files.dealt h d e).words) h source i place;
    triples = λ g h i ne. rw (triples_are inputs (slice_get deals g) g h i, triples_are inputs (slice_get deals h) h g i) (triples_meet g h i ne);
    bit_triples = λ g h i ne. rw (bits_are inputs (slice_get deals g) g h i, bits_are inputs (slice_get deals h) h g i) (bits_meet g h i ne);
    pairs = λ g h i ne. rw (pairs_are inputs (slice_get deals g) g h i, pairs_are inputs (slice_get deals h) h g i) (pairs_meet g h i ne);
  }

  given : AreGiven (inputs_of inputs) (followed_by_zeros (supply_of_files inputs deals))
  given h i = given_at inputs (slice_get deals h) h (λ e. let past = none_past deals h e in no_inputs inputs h (omega (arith, past, files.few))) i

pub files_are_valid : FilesAreValid
files_are_valid inputs deals files = (valid inputs deals files, given inputs deals files)
