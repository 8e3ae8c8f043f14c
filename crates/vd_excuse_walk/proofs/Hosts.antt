-- The deals of two hosts, and the lists of both at the start of a run.
use Rattle.std.proofs.Common.{◌≡◌, ◌⊎◌, ℕ, zero, suc, ◌-◌, ◌≤◌, Bool, true, false, if◌then◌else◌, nat_eq, nat_lt, List, [], ◌∷◌, length, Option, Some, None, refl, sym, ap, ◌∙◌, inl, inr, arith}
use Rattle.std.specs.Prelude.{slice_get, slice_index, slice_index_or, unwrap_or}
use Rattle.std.proofs.lemmas.Bool.{ne_eqb}
use Rattle.std.proofs.lemmas.Option.{slice_get_past}
use Rattle.vd_base.specs.declared.ids.HostId.{HostId}
use Rattle.vd_tape.specs.declared.deal_items.deal.Deal.{Deal}
use Rattle.vd_tape.specs.declared.deal_items.items.Triple.{Triple}
use Rattle.vd_tape.specs.declared.deal_items.items.PairItem.{PairItem}
use Rattle.vd_tape.specs.Identities.{triple_at, pair_at, zero_triple, zero_pair}
use Rattle.vd_tape.specs.Validity.{peer_place}
use Rattle.vd_execution.specs.Step.{Source, Inputs, OwnWords, Triples, BitTriples, Pairs}
use Rattle.vd_execution.specs.World.{or_zeros, zeros_of}
use Rattle.vd_machine.specs.Machines.{item_or_none, word_item, list_of}
use Rattle.vd_excuse_runs.specs.Sides.{triple_words, pair_words}
use Rattle.vd_excuse_runs.specs.Runs.{side_at}
use Rattle.vd_excuse_walk.specs.Supplies.{lists_of, supplies, dealt}
use Rattle.vd_machine.specs.Dealt.{counts_of}
use Rattle.vd_excuse_walk.specs.Files.{IsOneOfTwo, AreOfTwo, file_tape, dealt_sides}
use Rattle.vd_excuse_walk.proofs.Stands.{word_or_zero}

-- ---- one list for one peer

none_there : {X : Type 0} (xs : List X) (me p : ℕ) → (nat_eq p me ≡ true) ⊎ (1 ≤ peer_place me p) → list_of (xs ∷ []) me p ≡ []
none_there {X} xs me p (inl e) = ap (λ (b : Bool). if b then [] else unwrap_or (slice_get (xs ∷ []) (peer_place me p)) []) e
none_there {X} xs me p (inr far) = either (nat_eq p me) (slice_get (xs ∷ []) (peer_place me p)) (slice_get_past (xs ∷ []) (peer_place me p) far)
  where
    either : (b : Bool) (o : Option (List X)) → o ≡ None → (let l : List X = if b then [] else unwrap_or o [] in l) ≡ []
    either true o e = refl
    either false o e = ap (λ (o : Option (List X)). unwrap_or o []) e

place_far : (me p : ℕ) → 2 ≤ p → 1 ≤ peer_place me p
place_far me p far = at (nat_lt p me)
  where
    at : (b : Bool) → 1 ≤ (if b then p else p - 1)
    at true = omega (arith, far)
    at false = omega (arith, far)

if_other : {X : Type 0} (b : Bool) (x y z : X) → b ≡ false → z ≡ y → z ≡ (if b then x else y)
if_other true x y z e f = absurd cc
if_other false x y z e f = f

first_list : {X : Type 0} (xs : List X) (p : ℕ) → list_of (xs ∷ []) 0 p ≡ (if nat_eq p 1 then xs else [])
first_list xs zero = refl
first_list xs (suc zero) = refl
first_list xs (suc (suc p)) =
    let apart : nat_eq (suc (suc p)) 1 ≡ false = ne_eqb (suc (suc p)) 1 (λ e. omega (arith, e)) in
    if_other (nat_eq (suc (suc p)) 1) xs [] _ apart (none_there xs 0 (suc (suc p)) (inr (place_far 0 (suc (suc p)) (omega arith))))

second_list : {X : Type 0} (xs : List X) (p : ℕ) → list_of (xs ∷ []) 1 p ≡ (if nat_eq p 0 then xs else [])
second_list xs zero = refl
second_list xs (suc zero) = refl
second_list xs (suc (suc p)) =
    let apart : nat_eq (suc (suc p)) 0 ≡ false = ne_eqb (suc (suc p)) 0 (λ e. omega (arith, e)) in
    if_other (nat_eq (suc (suc p)) 0) xs [] _ apart (none_there xs 1 (suc (suc p)) (inr (place_far 1 (suc (suc p)) (omega arith))))

-- ---- what one of two hosts was dealt

pub record Part : Type 0 where
  pub own : List ℕ
  pub triples : List Triple
  pub bits : List Triple
  pub pairs : List PairItem

abbrev pub file : ℕ → Part → Deal
file me x = record { hosts = 2; me = record { 0 = me }; own = x.own; triples = x.triples ∷ []; bits = x.bits ∷ []; pairs = x.pairs ∷ [] }

only_one : {X : Type 0} (xs : List X) → length xs ≡ 1 → (x : X) × (xs ≡ x ∷ [])
only_one [] e = absurd (omega (arith, e))
only_one (x ∷ []) e = (x, refl)
only_one (x ∷ y ∷ xs) e = absurd (omega (arith, e))

is_file : (me : ℕ) (d : Deal) → IsOneOfTwo me d → (x : Part) × (d ≡ file me x)
is_file me d of =
    let t = only_one d.triples of.triples in
    let b = only_one d.bits of.bits in
    let p = only_one d.pairs of.pairs in
    let build : ℕ → HostId → List (List Triple) → List (List Triple) → List (List PairItem) → Deal = λ n h ts bs ps.
    record { hosts = n; me = h; own = d.own; triples = ts; bits = bs; pairs = ps } in
    let number : d.me ≡ record { 0 = me } = ap (λ (n : ℕ). let h : HostId = record { 0 = n } in h) of.me_is in (
      record { own = d.own; triples = t.0; bits = b.0; pairs = p.0 },
      ap (λ n. build n d.me d.triples d.bits d.pairs) of.hosts_are ∙ ap (λ h. build 2 h d.triples d.bits d.pairs) number
          ∙ ap (λ ts. build 2 (record { 0 = me }) ts d.bits d.pairs) t.1 ∙ ap (λ bs. build 2 (record { 0 = me }) (t.0 ∷ []) bs d.pairs) b.1
          ∙ ap (λ ps. build 2 (record { 0 = me }) (t.0 ∷ []) (b.0 ∷ []) ps) p.1,
    )

pub are_files : (deals : List Deal) → AreOfTwo deals → (x : Part) × (y : Part) × (deals ≡ file 0 x ∷ file 1 y ∷ [])
are_files [] of = absurd (let e = of.two in omega (arith, e))
are_files (c ∷ []) of = absurd (let e = of.two in omega (arith, e))
are_files (c ∷ d ∷ []) of =
    let one = is_file 0 c (of.each 0 c refl) in
    let two = is_file 1 d (of.each 1 d refl) in
    (one.0, two.0, ap (λ (z : Deal). z ∷ d ∷ []) one.1 ∙ ap (λ (z : Deal). file 0 one.0 ∷ z ∷ []) two.1)
are_files (c ∷ d ∷ b ∷ deals) of = absurd (let e = of.two in omega (arith, e))

-- ---- the items

word_there : (xs : List ℕ) (s : Source) (i : ℕ) → zeros_of s ≡ 0 ∷ [] → or_zeros s (item_or_none word_item (slice_get xs i)) ≡ slice_index xs i ∷ []
word_there xs s i z = at (slice_get xs i) ∙ ap (λ (w : ℕ). w ∷ []) (sym (word_or_zero xs i))
  where
    at : (o : Option ℕ) → or_zeros s (item_or_none word_item o) ≡ unwrap_or o 0 ∷ []
    at None = z
    at (Some x) = refl

-- an item of a list that is there or not
module _ {X : Type 0} (item : X → List ℕ) (none : X) (s : Source) (nothing : zeros_of s ≡ item none) where
  one_there : (o : Option X) → or_zeros s (item_or_none item o) ≡ item (unwrap_or o none)
  one_there None = nothing
  one_there (Some x) = refl

  no_list : (i : ℕ) → or_zeros s (item_or_none item (slice_get [] i)) ≡ item none
  no_list i = nothing

  list_there : (b : Bool) (l xs : List X) (i : ℕ) → l ≡ (if b then xs else []) → or_zeros s (item_or_none item (slice_get l i)) ≡ item (if b then unwrap_or (slice_get xs i) none else none)
  list_there true l xs i e = ap (λ (q : List X). or_zeros s (item_or_none item (slice_get q i))) e ∙ one_there (slice_get xs i)
  list_there false l xs i e = ap (λ (q : List X). or_zeros s (item_or_none item (slice_get q i))) e ∙ no_list i

pub file_holds : (inputs : List (List ℕ)) (x y : Part) (g : ℕ) (s : Source) (i : ℕ) → file_tape inputs (file 0 x ∷ file 1 y ∷ []) g s i ≡ supplies (lists_of (side_at (dealt_sides 0 inputs (file 0 x ∷ file 1 y ∷ [])) g)) s i
file_holds inputs x y zero Inputs i = word_there (slice_index_or inputs 0 []) Inputs i refl
file_holds inputs x y zero OwnWords i = word_there x.own OwnWords i refl
file_holds inputs x y zero (Triples p) i = list_there triple_words zero_triple (Triples p) refl (nat_eq p 1) (list_of (x.triples ∷ []) 0 p) x.triples i (first_list x.triples p)
file_holds inputs x y zero (BitTriples p) i = list_there triple_words zero_triple (BitTriples p) refl (nat_eq p 1) (list_of (x.bits ∷ []) 0 p) x.bits i (first_list x.bits p)
file_holds inputs x y zero (Pairs p) i = list_there pair_words zero_pair (Pairs p) refl (nat_eq p 1) (list_of (x.pairs ∷ []) 0 p) x.pairs i (first_list x.pairs p)
file_holds inputs x y (suc zero) Inputs i = word_there (slice_index_or inputs 1 []) Inputs i refl
file_holds inputs x y (suc zero) OwnWords i = word_there y.own OwnWords i refl
file_holds inputs x y (suc zero) (Triples p) i = list_there triple_words zero_triple (Triples p) refl (nat_eq p 0) (list_of (y.triples ∷ []) 1 p) y.triples i (second_list y.triples p)
file_holds inputs x y (suc zero) (BitTriples p) i = list_there triple_words zero_triple (BitTriples p) refl (nat_eq p 0) (list_of (y.bits ∷ []) 1 p) y.bits i (second_list y.bits p)
file_holds inputs x y (suc zero) (Pairs p) i = list_there pair_words zero_pair (Pairs p) refl (nat_eq p 0) (list_of (y.pairs ∷ []) 1 p) y.pairs i (second_list y.pairs p)
file_holds inputs x y (suc (suc g)) s i = nobody s i
  where
    empty_word : (j : ℕ) → 0 ∷ [] ≡ slice_index [] j ∷ []
    empty_word j = ap (λ (w : ℕ). w ∷ []) (sym (word_or_zero [] j))

    empty_triple : (b : Bool) (j : ℕ) → 0 ∷ 0 ∷ 0 ∷ [] ≡ triple_words (if b then triple_at [] j else zero_triple)
    empty_triple true j = refl
    empty_triple false j = refl

    empty_pair : (b : Bool) (j : ℕ) → 0 ∷ 0 ∷ [] ≡ pair_words (if b then pair_at [] j else zero_pair)
    empty_pair true j = refl
    empty_pair false j = refl

    nobody : (q : Source) (j : ℕ) → file_tape inputs (file 0 x ∷ file 1 y ∷ []) (suc (suc g)) q j ≡ supplies (lists_of (side_at (dealt_sides 0 inputs (file 0 x ∷ file 1 y ∷ [])) (suc (suc g)))) q j
    nobody Inputs j = empty_word j
    nobody OwnWords j = empty_word j
    nobody (Triples p) j = empty_triple (nat_eq p 0) j
    nobody (BitTriples p) j = empty_triple (nat_eq p 0) j
    nobody (Pairs p) j = empty_pair (nat_eq p 0) j

-- how many there are
list_count : {X : Type 0} (b : Bool) (l xs : List X) → l ≡ (if b then xs else []) → length l ≡ (if b then length xs else 0)
list_count true l xs e = ap length e
list_count false l xs e = ap length e

none_dealt : (b : Bool) → ◌≡◌ {A = ℕ} 0 (if b then 0 else 0)
none_dealt true = refl
none_dealt false = refl

pub file_count : (inputs : List (List ℕ)) (x y : Part) (g : ℕ) (s : Source) → counts_of (file 0 x ∷ file 1 y ∷ []) g s ≡ dealt (lists_of (side_at (dealt_sides 0 inputs (file 0 x ∷ file 1 y ∷ [])) g)) s
file_count inputs x y zero Inputs = refl
file_count inputs x y zero OwnWords = refl
file_count inputs x y zero (Triples p) = list_count (nat_eq p 1) (list_of (x.triples ∷ []) 0 p) x.triples (first_list x.triples p)
file_count inputs x y zero (BitTriples p) = list_count (nat_eq p 1) (list_of (x.bits ∷ []) 0 p) x.bits (first_list x.bits p)
file_count inputs x y zero (Pairs p) = list_count (nat_eq p 1) (list_of (x.pairs ∷ []) 0 p) x.pairs (first_list x.pairs p)
file_count inputs x y (suc zero) Inputs = refl
file_count inputs x y (suc zero) OwnWords = refl
file_count inputs x y (suc zero) (Triples p) = list_count (nat_eq p 0) (list_of (y.triples ∷ []) 1 p) y.triples (second_list y.triples p)
file_count inputs x y (suc zero) (BitTriples p) = list_count (nat_eq p 0) (list_of (y.bits ∷ []) 1 p) y.bits (second_list y.bits p)
file_count inputs x y (suc zero) (Pairs p) = list_count (nat_eq p 0) (list_of (y.pairs ∷ []) 1 p) y.pairs (second_list y.pairs p)
file_count inputs x y (suc (suc g)) Inputs = refl
file_count inputs x y (suc (suc g)) OwnWords = refl
file_count inputs x y (suc (suc g)) (Triples p) = none_dealt (nat_eq p 0)
file_count inputs x y (suc (suc g)) (BitTriples p) = none_dealt (nat_eq p 0)
file_count inputs x y (suc (suc g)) (Pairs p) = none_dealt (nat_eq p 0)
