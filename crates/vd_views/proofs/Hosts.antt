-- The files of two hosts, as a deal and read off one.
use Rattle.std.proofs.Common.{◌≡◌, ◌≢◌, ℕ, zero, suc, ◌+◌, ◌-◌, ◌<◌, ◌≤◌, ◌^◌, nat_eq, nat_lt, Bool, true, false, if◌then◌else◌, List, [], ◌∷◌, Option, Some, None, ◌⊎◌, inl, inr, length, refl, sym, ap, subst, subst₂, ◌∙◌, arith}
use Rattle.std.specs.Prelude.{slice_get, slice_index, unwrap_or, All}
use Rattle.std.proofs.lemmas.Option.{slice_get_past}
use Rattle.vd_base.specs.declared.ids.HostId.{HostId}
use Rattle.vd_base.specs.Limits.{most_deal_items}
use Rattle.vd_tape.specs.declared.deal_items.items.Triple.{Triple}
use Rattle.vd_tape.specs.declared.deal_items.items.PairItem.{PairItem}
use Rattle.vd_tape.specs.declared.deal_items.deal.Deal.{Deal}
use Rattle.vd_tape.specs.declared.deal_items.deal.DealKind.{DealKind}
use Rattle.vd_tape.specs.declared.deal_items.deal.DealKind.TheVariants.{Own, Mul, And, Pair}
use Rattle.vd_tape.specs.Identities.{MeetsMul, MeetsAnd, MeetsPair, zero_triple, zero_pair}
use Rattle.vd_tape.specs.Validity.{AreTripleWords, ArePairWords, IsConsistent, Meets, peer_place}
use Rattle.vd_tape.specs.Text.{IsDealOf, AreDealsOf}
use Rattle.vd_execution.specs.Step.{Source, Inputs, OwnWords, Triples, BitTriples, Pairs}
use Rattle.vd_execution.specs.World.{Tape, or_zeros, zeros_of}
use Rattle.vd_execution.specs.Deals.{IsValidDeal}
use Rattle.vd_machine.specs.Machines.{item_or_none, word_item, triple_item, pair_item, list_of}
use Rattle.vd_backend_laws.specs.Whole.{inputs_of}
use Rattle.vd_base.specs.Words.{InputsAreWords}
use Rattle.vd_world.specs.Supplies.{AreFiles}
use Rattle.vd_views.specs.Explained.{input_words}
use Rattle.vd_views.specs.Contract.{HasInputs}
use Rattle.vd_machine.specs.Dealt.{counts_of}
use Rattle.vd_views.specs.Files.{tape_of}
use Rattle.vd_views.proofs.Lists.{word_of, triple_of, pair_of, word_is, triple_is, pair_is, read_items, read_count, read_all, read_is, item_is, read_back, input_is}
use mathlib.Core.Path.{fun_ext}

-- ---- one list for one peer

-- the host has no list for this number: its own, or one past its peer's
abbrev IsElsewhere : ℕ → ℕ → Type 0
IsElsewhere me p = (nat_eq p me ≡ true) ⊎ (1 ≤ peer_place me p)

none_there : {X : Type 0} (xs : List X) (me p : ℕ) → IsElsewhere me p → list_of (xs ∷ []) me p ≡ []
none_there {X} xs me p (inl e) = ap (λ (b : Bool). if b then [] else unwrap_or (slice_get (xs ∷ []) (peer_place me p)) []) e
none_there {X} xs me p (inr far) = either (nat_eq p me) (slice_get (xs ∷ []) (peer_place me p)) (slice_get_past (xs ∷ []) (peer_place me p) far)
  where
    either : (b : Bool) (o : Option (List X)) → o ≡ None → (let l : List X = if b then [] else unwrap_or o [] in l) ≡ []
    either true o e = refl
    either false o e = ap (λ (o : Option (List X)). unwrap_or o []) e

place_far : (me p : ℕ) → 2 ≤ p → 1 ≤ peer_place me p
place_far me p far = at (nat_lt p me)
  where
    at : (b : Bool) → 1 ≤ (if b then p else p - 1)
    at true = omega (arith, far)
    at false = omega (arith, far)

-- a host and its peer, with which alone it shares a list
pub record AreTwo (me peer : ℕ) : Type 0 where
  pub apart : nat_eq peer me ≡ false
  pub place : peer_place me peer ≡ 0
  pub elsewhere : (p : ℕ) → (p ≡ peer) ⊎ IsElsewhere me p

seen_by_first : (p : ℕ) → (p ≡ 1) ⊎ IsElsewhere 0 p
seen_by_first zero = inr (inl refl)
seen_by_first (suc zero) = inl refl
seen_by_first (suc (suc p)) = inr (inr (place_far 0 (suc (suc p)) (omega arith)))

seen_by_second : (p : ℕ) → (p ≡ 0) ⊎ IsElsewhere 1 p
seen_by_second zero = inl refl
seen_by_second (suc zero) = inr (inl refl)
seen_by_second (suc (suc p)) = inr (inr (place_far 1 (suc (suc p)) (omega arith)))

pub first_host : AreTwo 0 1
first_host = record { apart = refl; place = refl; elsewhere = seen_by_first }

pub second_host : AreTwo 1 0
second_host = record { apart = refl; place = refl; elsewhere = seen_by_second }

where_is : (me peer : ℕ) → AreTwo me peer → (p : ℕ) → (p ≡ peer) ⊎ IsElsewhere me p
where_is me peer two p = two.elsewhere p

peers_list : {X : Type 0} (me peer : ℕ) → AreTwo me peer → (xs : List X) → list_of (xs ∷ []) me peer ≡ xs
peers_list {X} me peer two xs =
    ap (λ (b : Bool). if b then [] else unwrap_or (slice_get (xs ∷ []) (peer_place me peer)) []) two.apart
    ∙ ap (λ (k : ℕ). unwrap_or (slice_get (xs ∷ []) k) []) two.place

-- ---- what one of two hosts was dealt

pub record Part : Type 0 where
  pub own : List ℕ
  pub triples : List Triple
  pub bits : List Triple
  pub pairs : List PairItem

abbrev pub file : ℕ → Part → Deal
file me x = record { hosts = 2; me = record { 0 = me }; own = x.own; triples = x.triples ∷ []; bits = x.bits ∷ []; pairs = x.pairs ∷ [] }

only_one : {X : Type 0} (xs : List X) → length xs + 1 ≡ 2 → (x : X) × (xs ≡ x ∷ [])
only_one [] e = absurd (omega (arith, e))
only_one (x ∷ []) e = (x, refl)
only_one (x ∷ y ∷ xs) e = absurd (omega (arith, e))

is_file : (me : ℕ) (d : Deal) → IsDealOf 2 me d → (x : Part) × (d ≡ file me x)
is_file me d of =
    let t = only_one d.triples (of.is.triples ∙ of.hosts_are) in
    let b = only_one d.bits (of.is.bits ∙ of.hosts_are) in
    let p = only_one d.pairs (of.is.pairs ∙ of.hosts_are) in
    let build : ℕ → HostId → List (List Triple) → List (List Triple) → List (List PairItem) → Deal = λ n h ts bs ps.
    record { hosts = n; me = h; own = d.own; triples = ts; bits = bs; pairs = ps } in
    let number : d.me ≡ record { 0 = me } = ap (λ (n : ℕ). let h : HostId = record { 0 = n } in h) of.me_is in (
      record { own = d.own; triples = t.0; bits = b.0; pairs = p.0 },
      ap (λ n. build n d.me d.triples d.bits d.pairs) of.hosts_are ∙ ap (λ h. build 2 h d.triples d.bits d.pairs) number
          ∙ ap (λ ts. build 2 (record { 0 = me }) ts d.bits d.pairs) t.1 ∙ ap (λ bs. build 2 (record { 0 = me }) (t.0 ∷ []) bs d.pairs) b.1
          ∙ ap (λ ps. build 2 (record { 0 = me }) (t.0 ∷ []) (b.0 ∷ []) ps) p.1,
    )

pub are_two_files : (deals : List Deal) → length deals ≡ 2 → AreDealsOf (length deals) deals → (x : Part) × (y : Part) × (deals ≡ file 0 x ∷ file 1 y ∷ [])
are_two_files [] e of = absurd (omega (arith, e))
are_two_files (c ∷ []) e of = absurd (omega (arith, e))
are_two_files (c ∷ d ∷ []) e of =
    let one = is_file 0 c (of 0 c refl) in
    let two = is_file 1 d (of 1 d refl) in
    (one.0, two.0, ap (λ (z : Deal). z ∷ d ∷ []) one.1 ∙ ap (λ (z : Deal). file 0 one.0 ∷ z ∷ []) two.1)
are_two_files (c ∷ d ∷ b ∷ deals) e of = absurd (omega (arith, e))

-- ---- read off a deal, as many items as another part has

abbrev pub read_part : (Source → ℕ → List ℕ) → ℕ → Part → Part
read_part f peer x = record {
  own = read_items word_of (f OwnWords) (length x.own);
  triples = read_items triple_of (f (Triples peer)) (length x.triples);
  bits = read_items triple_of (f (BitTriples peer)) (length x.bits);
  pairs = read_items pair_of (f (Pairs peer)) (length x.pairs);
}

abbrev pub read_files : Part → Part → Tape → List Deal
read_files x y z = file 0 (read_part (z 0) 1 x) ∷ file 1 (read_part (z 1) 0 y) ∷ []

-- as many of each
pub record IsAsLong (x z : Part) : Type 0 where
  pub own : length x.own ≡ length z.own
  pub triples : length x.triples ≡ length z.triples
  pub bits : length x.bits ≡ length z.bits
  pub pairs : length x.pairs ≡ length z.pairs

-- the part that a file has is read back
module _ (inputs : List (List ℕ)) (x z : Part) (long : IsAsLong x z) where
  read_kind : {X : Type 0} (s : Source) (make : List ℕ → X) (item : X → List ℕ) → ((v : X) → make (item v) ≡ v) → (f : ℕ → List ℕ) (xs : List X) (count : ℕ)
      → ((i : ℕ) → f i ≡ or_zeros s (item_or_none item (slice_get xs i))) → count ≡ length xs → read_items make f count ≡ xs
  read_kind s make item same f xs count is e =
      ap (λ (n : ℕ). read_items make f n) e ∙ ap (λ (f : ℕ → List ℕ). read_items make f (length xs)) (fun_ext is) ∙ read_back s make item same xs

  part_back : (f : Source → ℕ → List ℕ) (peer : ℕ) → ((i : ℕ) → f OwnWords i ≡ or_zeros OwnWords (item_or_none word_item (slice_get z.own i)))
      → ((i : ℕ) → f (Triples peer) i ≡ or_zeros (Triples peer) (item_or_none triple_item (slice_get z.triples i)))
      → ((i : ℕ) → f (BitTriples peer) i ≡ or_zeros (BitTriples peer) (item_or_none triple_item (slice_get z.bits i)))
      → ((i : ℕ) → f (Pairs peer) i ≡ or_zeros (Pairs peer) (item_or_none pair_item (slice_get z.pairs i))) → read_part f peer x ≡ z
  part_back f peer own triples bits pairs =
      let build : List ℕ → List Triple → List Triple → List PairItem → Part = λ o t b p. record { own = o; triples = t; bits = b; pairs = p } in
      let mine : Part = read_part f peer x in
      ap (λ o. build o mine.triples mine.bits mine.pairs) (read_kind OwnWords word_of word_item (λ v. refl) (f OwnWords) z.own (length x.own) own long.own)
      ∙ ap (λ t. build z.own t mine.bits mine.pairs) (read_kind (Triples peer) triple_of triple_item (λ v. refl) (f (Triples peer)) z.triples (length x.triples) triples long.triples)
      ∙ ap (λ b. build z.own z.triples b mine.pairs) (read_kind (BitTriples peer) triple_of triple_item (λ v. refl) (f (BitTriples peer)) z.bits (length x.bits) bits long.bits)
      ∙ ap (λ p. build z.own z.triples z.bits p) (read_kind (Pairs peer) pair_of pair_item (λ v. refl) (f (Pairs peer)) z.pairs (length x.pairs) pairs long.pairs)

pub first_back : (inputs : List (List ℕ)) (x v w : Part) → IsAsLong x v → read_part (tape_of inputs (file 0 v ∷ file 1 w ∷ []) 0) 1 x ≡ v
first_back inputs x v w long = part_back inputs x v long (tape_of inputs (file 0 v ∷ file 1 w ∷ []) 0) 1 (λ i. refl) (λ i. refl) (λ i. refl) (λ i. refl)

pub second_back : (inputs : List (List ℕ)) (y v w : Part) → IsAsLong y w → read_part (tape_of inputs (file 0 v ∷ file 1 w ∷ []) 1) 0 y ≡ w
second_back inputs y v w long = part_back inputs y w long (tape_of inputs (file 0 v ∷ file 1 w ∷ []) 1) 0 (λ i. refl) (λ i. refl) (λ i. refl) (λ i. refl)

-- ---- a deal that ends

abbrev pub Ends : Part → Part → Tape → Type 0
Ends x y z = (g : ℕ) (s : Source) (i : ℕ) → s ≢ Inputs → counts_of (file 0 x ∷ file 1 y ∷ []) g s ≤ i → z g s i ≡ zeros_of s

-- one kind of one host
module _ {X : Type 0} (make : List ℕ → X) (item : X → List ℕ) (src : ℕ → Source) (me peer : ℕ) (two : AreTwo me peer) (xs : List X) (z : ℕ → ℕ → List ℕ)
    (same : (p i : ℕ) → item (make (z p i)) ≡ z p i) (ends : (p i : ℕ) → length (list_of (xs ∷ []) me p) ≤ i → z p i ≡ zeros_of (src p)) where
  abbrev mine : List X
  mine = read_items make (z peer) (length xs)

  ends_with_peer : (i : ℕ) → length xs ≤ i → z peer i ≡ zeros_of (src peer)
  ends_with_peer i high = ends peer i (subst (λ (l : List X). length l ≤ i) (sym (peers_list me peer two xs)) high)

  kind_is : (p i : ℕ) → or_zeros (src p) (item_or_none item (slice_get (list_of (mine ∷ []) me p) i)) ≡ z p i
  kind_is p i = at (where_is me peer two p)
    where
      at : (p ≡ peer) ⊎ IsElsewhere me p → or_zeros (src p) (item_or_none item (slice_get (list_of (mine ∷ []) me p) i)) ≡ z p i
      at (inl e) =
          let P : ℕ → Type 0 = λ q. or_zeros (src q) (item_or_none item (slice_get (list_of (mine ∷ []) me q) i)) ≡ z q i in
          subst P (sym e) (ap (λ (l : List X). or_zeros (src peer) (item_or_none item (slice_get l i))) (peers_list me peer two mine)
          ∙ read_is make (z peer) (length xs) (src peer) item (same peer) ends_with_peer i)
      at (inr far) =
          ap (λ (l : List X). or_zeros (src p) (item_or_none item (slice_get l i))) (none_there mine me p far)
          ∙ sym (ends p i (subst (λ (l : List X). length l ≤ i) (sym (none_there xs me p far)) (omega arith)))

-- as many items
pub kind_count : {X : Type 0} (make : List ℕ → X) (me peer : ℕ) → AreTwo me peer → (xs : List X) (z : ℕ → List ℕ) (p : ℕ)
    → length (list_of (read_items make z (length xs) ∷ []) me p) ≡ length (list_of (xs ∷ []) me p)
kind_count {X} make me peer two xs z p = at (where_is me peer two p)
  where
    at : (p ≡ peer) ⊎ IsElsewhere me p → length (list_of (read_items make z (length xs) ∷ []) me p) ≡ length (list_of (xs ∷ []) me p)
    at (inl e) =
        let P : ℕ → Type 0 = λ q. length (list_of (read_items make z (length xs) ∷ []) me q) ≡ length (list_of (xs ∷ []) me q) in
        subst P (sym e) (ap (λ (l : List X). length l) (peers_list me peer two (read_items make z (length xs))) ∙ read_count make z (length xs) ∙ sym (ap (λ (l : List X). length l) (peers_list me peer two xs)))
    at (inr far) = ap (λ (l : List X). length l) (none_there (read_items make z (length xs)) me p far) ∙ sym (ap (λ (l : List X). length l) (none_there xs me p far))

no_inputs_here : (given : List (List ℕ)) → length given ≤ 2 → (g : ℕ) → inputs_of given (suc (suc g)) ≡ []
no_inputs_here [] few g = refl
no_inputs_here (a ∷ []) few g = refl
no_inputs_here (a ∷ b ∷ []) few g = refl
no_inputs_here (a ∷ b ∷ c ∷ given) few g = absurd (omega (arith, few))

some_same : {A : Type 0} (a b : A) → Some a ≡ Some b → a ≡ b
some_same a b e = ap (λ o. unwrap_or o a) e

one_all : {X : Type 0} (P : X → Type 0) (x : X) → P x → All P (x ∷ [])
one_all P x p zero d low = p
one_all P x p (suc k) d low = absurd (omega (arith, low))

module _ (x y : Part) (z : Tape) (valid : IsValidDeal z) (given : List (List ℕ)) (has : HasInputs z (input_words given)) (few : length given ≤ 2) (ends : Ends x y z) where
  one_words : (g i : ℕ) → word_item (word_of (z g OwnWords i)) ≡ z g OwnWords i
  one_words g i = word_is (z g OwnWords i) (valid.lengths g OwnWords i)

  tape_is : (g : ℕ) (s : Source) (i : ℕ) → tape_of given (read_files x y z) g s i ≡ z g s i
  tape_is zero Inputs i = input_is (inputs_of given 0) i ∙ sym (has 0 i)
  tape_is zero OwnWords i = read_is word_of (z 0 OwnWords) (length x.own) OwnWords word_item (one_words 0) (λ i high. ends 0 OwnWords i (λ e. cc) high) i
  tape_is zero (Triples p) i =
      kind_is triple_of triple_item (λ q. Triples q) 0 1 first_host x.triples (λ q. z 0 (Triples q)) (λ q i. triple_is (z 0 (Triples q) i) (valid.lengths 0 (Triples q) i))
      (λ q i high. ends 0 (Triples q) i (λ e. cc) high) p i
  tape_is zero (BitTriples p) i =
      kind_is triple_of triple_item (λ q. BitTriples q) 0 1 first_host x.bits (λ q. z 0 (BitTriples q)) (λ q i. triple_is (z 0 (BitTriples q) i) (valid.lengths 0 (BitTriples q) i))
      (λ q i high. ends 0 (BitTriples q) i (λ e. cc) high) p i
  tape_is zero (Pairs p) i =
      kind_is pair_of pair_item (λ q. Pairs q) 0 1 first_host x.pairs (λ q. z 0 (Pairs q)) (λ q i. pair_is (z 0 (Pairs q) i) (valid.lengths 0 (Pairs q) i))
      (λ q i high. ends 0 (Pairs q) i (λ e. cc) high) p i
  tape_is (suc zero) Inputs i = input_is (inputs_of given 1) i ∙ sym (has 1 i)
  tape_is (suc zero) OwnWords i = read_is word_of (z 1 OwnWords) (length y.own) OwnWords word_item (one_words 1) (λ i high. ends 1 OwnWords i (λ e. cc) high) i
  tape_is (suc zero) (Triples p) i =
      kind_is triple_of triple_item (λ q. Triples q) 1 0 second_host y.triples (λ q. z 1 (Triples q)) (λ q i. triple_is (z 1 (Triples q) i) (valid.lengths 1 (Triples q) i))
      (λ q i high. ends 1 (Triples q) i (λ e. cc) high) p i
  tape_is (suc zero) (BitTriples p) i =
      kind_is triple_of triple_item (λ q. BitTriples q) 1 0 second_host y.bits (λ q. z 1 (BitTriples q)) (λ q i. triple_is (z 1 (BitTriples q) i) (valid.lengths 1 (BitTriples q) i))
      (λ q i high. ends 1 (BitTriples q) i (λ e. cc) high) p i
  tape_is (suc zero) (Pairs p) i =
      kind_is pair_of pair_item (λ q. Pairs q) 1 0 second_host y.pairs (λ q. z 1 (Pairs q)) (λ q i. pair_is (z 1 (Pairs q) i) (valid.lengths 1 (Pairs q) i))
      (λ q i high. ends 1 (Pairs q) i (λ e. cc) high) p i
  tape_is (suc (suc g)) Inputs i = ap (λ (l : List ℕ). slice_index l i ∷ []) (sym (no_inputs_here given few g)) ∙ sym (has (suc (suc g)) i)
  tape_is (suc (suc g)) OwnWords i = sym (ends (suc (suc g)) OwnWords i (λ e. cc) (omega arith))
  tape_is (suc (suc g)) (Triples p) i = sym (ends (suc (suc g)) (Triples p) i (λ e. cc) (omega arith))
  tape_is (suc (suc g)) (BitTriples p) i = sym (ends (suc (suc g)) (BitTriples p) i (λ e. cc) (omega arith))
  tape_is (suc (suc g)) (Pairs p) i = sym (ends (suc (suc g)) (Pairs p) i (λ e. cc) (omega arith))

  pub tape_again : tape_of given (read_files x y z) ≡ z
  tape_again = fun_ext (λ g. fun_ext (λ s. fun_ext (λ i. tape_is g s i)))

  -- ---- such files are files

  part_fits : (me peer : ℕ) → AreTwo me peer → (v : Part) → IsDealOf 2 me (file me v) → IsDealOf 2 me (file me (read_part (z me) peer v))
  part_fits me peer two v of = record {
    is = record {
      few = of.is.few;
      own_number = of.is.own_number;
      own = subst (λ n. n ≤ most_deal_items) (sym (read_count word_of (z me OwnWords) (length v.own))) of.is.own;
      triples = refl;
      bits = refl;
      pairs = refl;
      triples_within = one_all (λ (l : List Triple). length l ≤ most_deal_items) (read_items triple_of (z me (Triples peer)) (length v.triples))
          (subst (λ n. n ≤ most_deal_items) (sym (read_count triple_of (z me (Triples peer)) (length v.triples))) (of.is.triples_within 0 [] (omega arith)));
      bits_within = one_all (λ (l : List Triple). length l ≤ most_deal_items) (read_items triple_of (z me (BitTriples peer)) (length v.bits))
          (subst (λ n. n ≤ most_deal_items) (sym (read_count triple_of (z me (BitTriples peer)) (length v.bits))) (of.is.bits_within 0 [] (omega arith)));
      pairs_within = one_all (λ (l : List PairItem). length l ≤ most_deal_items) (read_items pair_of (z me (Pairs peer)) (length v.pairs))
          (subst (λ n. n ≤ most_deal_items) (sym (read_count pair_of (z me (Pairs peer)) (length v.pairs))) (of.is.pairs_within 0 [] (omega arith)));
    };
    words = record {
      own = read_all word_of (z me OwnWords) (length v.own) (λ n. n < 2 ^ 32) (λ i. valid.words me OwnWords i 0);
      triples = one_all (All AreTripleWords) (read_items triple_of (z me (Triples peer)) (length v.triples)) (read_all triple_of (z me (Triples peer)) (length v.triples) AreTripleWords
          (λ i. (valid.words me (Triples peer) i 0, valid.words me (Triples peer) i 1, valid.words me (Triples peer) i 2)));
      bits = one_all (All AreTripleWords) (read_items triple_of (z me (BitTriples peer)) (length v.bits)) (read_all triple_of (z me (BitTriples peer)) (length v.bits) AreTripleWords
          (λ i. (valid.words me (BitTriples peer) i 0, valid.words me (BitTriples peer) i 1, valid.words me (BitTriples peer) i 2)));
      pairs = one_all (All ArePairWords) (read_items pair_of (z me (Pairs peer)) (length v.pairs)) (read_all pair_of (z me (Pairs peer)) (length v.pairs) ArePairWords
          (λ i. (valid.words me (Pairs peer) i 0, valid.words me (Pairs peer) i 1)));
    };
    hosts_are = refl;
    me_is = refl;
  }

  apart : ◌≢◌ {A = ℕ} 0 1
  apart e = omega (arith, e)

  meets : (kind : DealKind) (i : ℕ) → let c : Deal = file 0 (read_part (z 0) 1 x) in let d : Deal = file 1 (read_part (z 1) 0 y) in Meets c d kind i
  meets Own i = refl
  meets Mul i =
      subst₂ (λ (a b : Triple). MeetsMul a b)
      (sym (item_is triple_of (z 0 (Triples 1)) (length x.triples) zero_triple (0 ∷ 0 ∷ 0 ∷ []) refl (λ i high. ends 0 (Triples 1) i (λ e. cc) high) i))
      (sym (item_is triple_of (z 1 (Triples 0)) (length y.triples) zero_triple (0 ∷ 0 ∷ 0 ∷ []) refl (λ i high. ends 1 (Triples 0) i (λ e. cc) high) i)) (valid.triples 0 1 i apart)
  meets And i =
      subst₂ (λ (a b : Triple). MeetsAnd a b)
      (sym (item_is triple_of (z 0 (BitTriples 1)) (length x.bits) zero_triple (0 ∷ 0 ∷ 0 ∷ []) refl (λ i high. ends 0 (BitTriples 1) i (λ e. cc) high) i))
      (sym (item_is triple_of (z 1 (BitTriples 0)) (length y.bits) zero_triple (0 ∷ 0 ∷ 0 ∷ []) refl (λ i high. ends 1 (BitTriples 0) i (λ e. cc) high) i)) (valid.bit_triples 0 1 i apart)
  meets Pair i =
      subst₂ (λ (a b : PairItem). MeetsPair a b)
      (sym (item_is pair_of (z 0 (Pairs 1)) (length x.pairs) zero_pair (0 ∷ 0 ∷ []) refl (λ i high. ends 0 (Pairs 1) i (λ e. cc) high) i))
      (sym (item_is pair_of (z 1 (Pairs 0)) (length y.pairs) zero_pair (0 ∷ 0 ∷ []) refl (λ i high. ends 1 (Pairs 0) i (λ e. cc) high) i)) (valid.pairs 0 1 i apart)

  consistent : IsConsistent (read_files x y z)
  consistent zero (suc zero) p q lt e f kind i =
      let c : Deal = file 0 (read_part (z 0) 1 x) in
      let d : Deal = file 1 (read_part (z 1) 0 y) in
      subst₂ (λ (a b : Deal). Meets a b kind i) (some_same c p e) (some_same d q f) (meets kind i)
  consistent zero zero p q lt e f kind i = absurd (omega (arith, lt))
  consistent zero (suc (suc s)) p q lt e f kind i = cc
  consistent (suc zero) zero p q lt e f kind i = absurd (omega (arith, lt))
  consistent (suc zero) (suc zero) p q lt e f kind i = absurd (omega (arith, lt))
  consistent (suc zero) (suc (suc s)) p q lt e f kind i = cc
  consistent (suc (suc r)) s p q lt e f kind i = cc

  pub are_files : InputsAreWords given → IsDealOf 2 0 (file 0 x) → IsDealOf 2 1 (file 1 y) → AreFiles given (read_files x y z)
  are_files words one two = record { words = words; few = few; dealt = dealt; consistent = consistent }
    where
      dealt : (host : ℕ) (deal : Deal) → slice_get (read_files x y z) host ≡ Some deal → IsDealOf 2 host deal
      dealt zero d e = subst (IsDealOf 2 0) (some_same (file 0 (read_part (z 0) 1 x)) d e) (part_fits 0 1 first_host x one)
      dealt (suc zero) d e = subst (IsDealOf 2 1) (some_same (file 1 (read_part (z 1) 0 y)) d e) (part_fits 1 0 second_host y two)
      dealt (suc (suc h)) d e = cc
