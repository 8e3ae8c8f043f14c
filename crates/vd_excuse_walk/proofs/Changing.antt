-- The next item of a host is changed in its list as it is in the deal.
use Rattle.std.proofs.Common.{◌≡◌, ◌≢◌, ℕ, zero, suc, ◌<◌, Bool, true, false, if◌then◌else◌, nat_eq, List, [], ◌∷◌, length, Some, refl, sym, ap, ap₂, subst, ◌∙◌, inl, inr, arith}
use Rattle.std.specs.Prelude.{slice_get, slice_set, slice_index, unwrap_or, bit_xor}
use Rattle.std.proofs.lemmas.List.{length-set}
use Rattle.std.proofs.lemmas.Bool.{ne_eqb}
use Rattle.std.proofs.lemmas.Bool.Decides.{eqb_tells}
use Rattle.vd_base.specs.declared.ids.HostId.{HostId}
use Rattle.vd_tape.specs.declared.deal_items.items.Triple.{Triple}
use Rattle.vd_tape.specs.declared.deal_items.items.PairItem.{PairItem}
use Rattle.vd_tape.specs.Identities.{zero_triple, zero_pair}
use Rattle.vd_execution.specs.Step.{Source, Inputs, OwnWords, Triples, BitTriples, Pairs, same_source}
use Rattle.vd_execution.specs.World.{Tape}
use Rattle.vd_execution.specs.Joint.{Hosts}
use Rattle.vd_execution.specs.Registers.{nth}
use Rattle.vd_views.specs.Excused.{with_item}
use Rattle.vd_views.specs.Items.{sum_item, xor_item, pair_item, raised}
use Rattle.vd_views.proofs.Front.{changed_at, changed_source, changed_place}
use Rattle.vd_excuse_walk.specs.declared.equivocation_laws.step.Operands.{Operands}
use Rattle.vd_excuse_walk.specs.declared.equivocation_laws.step.Part.{Part}
use Rattle.vd_excuse_walk.specs.Walks.{Both, word_of as word_made, dealt_word as word_dealt}
use Rattle.vd_excuse_runs.specs.declared.side.Side.{Side}
use Rattle.vd_excuse_runs.specs.Sides.{next_triple, next_bits, next_pair, shared_triple, shared_bits, shared_pair, triple_words, pair_words, with_triple, with_bits, with_pair}
use Rattle.vd_excuse_runs.specs.Runs.{side_at}
use Rattle.vd_excuse_walk.specs.declared.walker.Walker.{Walker}
use Rattle.vd_excuse_walk.specs.Items.{pair_of}
use Rattle.vd_excuse_walk.specs.Data.{word_at, word_of, dealt_word}
use Rattle.vd_excuse_walk.specs.Supplies.{Lists, lists_of, supplies, dealt}
use Rattle.vd_excuse_walk.specs.Following.{placed, IsIn, Stands, Known, NotWith, Follows}
use Rattle.vd_excuse_walk.proofs.Stands.{shared_is}
use Rattle.vd_excuse_walk.proofs.Follows.{IsChanged}

-- ---- one list

length_if : {X : Type 0} (b : Bool) (xs : List X) (i : ℕ) (x : X) → length (if b then slice_set xs i x else xs) ≡ length xs
length_if true xs i x = length-set xs i x
length_if false xs i x = refl

set_here : {X : Type 0} (xs : List X) (i : ℕ) (x : X) → i < length xs → slice_get (slice_set xs i x) i ≡ Some x
set_here [] i x low = absurd (omega (arith, low))
set_here (y ∷ xs) zero x low = refl
set_here (y ∷ xs) (suc i) x low = set_here xs i x (omega (arith, low))

set_there : {X : Type 0} (xs : List X) (i j : ℕ) (x : X) → j ≢ i → slice_get (slice_set xs i x) j ≡ slice_get xs j
set_there [] i j x ne = refl
set_there (y ∷ xs) zero zero x ne = absurd (ne refl)
set_there (y ∷ xs) zero (suc j) x ne = refl
set_there (y ∷ xs) (suc i) zero x ne = refl
set_there (y ∷ xs) (suc i) (suc j) x ne = set_there xs i j x (λ e. ne (ap suc e))

if_true : {X : Type 0} (b : Bool) (x y : X) → b ≡ true → (if b then x else y) ≡ x
if_true true x y e = refl
if_true false x y e = absurd cc

if_false : {X : Type 0} (b : Bool) (x y : X) → b ≡ false → (if b then x else y) ≡ y
if_false true x y e = absurd cc
if_false false x y e = refl

module _ {X : Type 0} (words : X → List ℕ) (none new : X) (xs : List X) (u : Tape) (k h peer : ℕ) (C : ℕ → Source) (tests : (p q : ℕ) → same_source (C p) (C q) ≡ nat_eq p q) (i pos : ℕ) (item : List ℕ)
    (placed_is : peer ≡ h → pos ≡ placed i (length xs)) (item_is : peer ≡ h → i < length xs → item ≡ words new)
    (holds : (p j : ℕ) → j < (if nat_eq p peer then length xs else 0) → u k (C p) j ≡ words (if nat_eq p peer then unwrap_or (slice_get xs j) none else none)) where
  abbrev changed : List X
  changed = if nat_eq h peer then slice_set xs pos new else xs

  abbrev word_there : ℕ → ℕ → List X → List ℕ
  word_there p j l = words (if nat_eq p peer then unwrap_or (slice_get l j) none else none)

  -- with another peer nothing is shared
  none_shared : (p j : ℕ) (l : List X) → nat_eq p peer ≡ false → j < (if nat_eq p peer then length l else 0) → {A : Type 0} → A
  none_shared p j l e there = let P : Bool → Type 0 = λ b. j < (if b then length l else 0) in let low : j < 0 = subst P e there in absurd (omega (arith, low))

  low_there : (p j : ℕ) (l : List X) → nat_eq p peer ≡ true → j < (if nat_eq p peer then length l else 0) → j < length l
  low_there p j l e there = let P : Bool → Type 0 = λ b. j < (if b then length l else 0) in subst P e there

  unchanged : (p j : ℕ) → h ≢ peer → p ≡ peer → j < (if nat_eq p peer then length changed else 0) → with_item u k (C h) i item k (C p) j ≡ word_there p j changed
  unchanged p j apart same there =
      let is : changed ≡ xs = if_false (nat_eq h peer) (slice_set xs pos new) xs (ne_eqb h peer apart) in
      let P : List X → Type 0 = λ l. j < (if nat_eq p peer then length l else 0) in
      changed_source u k (C h) i item k (C p) j (tests p h ∙ ne_eqb p h (λ e. apart (sym e ∙ same)))
      ∙ holds p j (subst P is there) ∙ ap (word_there p j) (sym is)

  in_place : (p j : ℕ) → nat_eq h peer ≡ true → h ≡ peer → nat_eq p peer ≡ true → p ≡ peer → j < (if nat_eq p peer then length changed else 0) → with_item u k (C h) i item k (C p) j ≡ word_there p j changed
  in_place p j is_peer same is_too same_too there =
      let is : changed ≡ slice_set xs pos new = if_true (nat_eq h peer) (slice_set xs pos new) xs is_peer in
      let P : List X → Type 0 = λ l. j < length l in
      let low_set : j < length (slice_set xs pos new) = subst P is (low_there p j changed is_too there) in
      let len : length (slice_set xs pos new) ≡ length xs = length-set xs pos new in
      let low : j < length xs = omega (arith, low_set, len) in
      let place : pos ≡ placed i (length xs) = placed_is (sym same) in
      elim (eqb_tells j i) [
        | inl e ↦ (let eq : j ≡ i = e.1 in let here : pos ≡ j = omega (arith, place, low, eq) in let low_i : i < length xs = omega (arith, low, eq) in
            ap₂ (λ x y. with_item u k (C h) i item k (C x) y) (same_too ∙ sym same) eq ∙ changed_at u k (C h) i item
            ∙ item_is (sym same) low_i
            ∙ sym (ap (word_there p j) is ∙ ap (λ (b : Bool). words (if b then unwrap_or (slice_get (slice_set xs pos new) j) none else none)) is_too
            ∙ ap (λ z. words (unwrap_or (slice_get (slice_set xs z new) j) none)) here ∙ ap (λ o. words (unwrap_or o none)) (set_here xs j new low)))
        | inr e ↦ (let ne : j ≢ pos = λ eq. e.1 (omega (arith, place, low, eq)) in
            let low_too : j < (if nat_eq p peer then length xs else 0) = (let Q : Bool → Type 0 = λ b. j < (if b then length xs else 0) in subst Q (sym is_too) low) in
            changed_place u k (C h) i item k (C p) j e.1 ∙ holds p j low_too
            ∙ sym (ap (word_there p j) is ∙ ap (λ o. words (if nat_eq p peer then unwrap_or o none else none)) (set_there xs pos j new ne)))
      ]

  changed_items : (p j : ℕ) → j < (if nat_eq p peer then length changed else 0) → with_item u k (C h) i item k (C p) j ≡ word_there p j changed
  changed_items p j there =
      elim (eqb_tells p peer) [
        | inr e ↦ none_shared p j changed e.0 there
        | inl e ↦ elim (eqb_tells h peer) [
          | inr f ↦ unchanged p j f.1 e.1 there
          | inl f ↦ in_place p j f.0 f.1 e.0 e.1 there
        ]
      ]

-- ---- what is read at an item

six_same : (f : List ℕ → List ℕ → ℕ → ℕ → ℕ → ℕ → List ℕ) (a a' b b' : List ℕ) (x x' z z' v v' w w' : ℕ) → a ≡ a' → b ≡ b' → x ≡ x' → z ≡ z' → v ≡ v' → w ≡ w' → f a b x z v w ≡ f a' b' x' z' v' w'
six_same f a a' b b' x x' z z' v v' w w' p q e g c d =
    ap (λ y. f y b x z v w) p ∙ ap (λ y. f a' y x z v w) q ∙ ap (λ y. f a' b' y z v w) e ∙ ap (λ y. f a' b' x' y v w) g ∙ ap (λ y. f a' b' x' z' y w) c ∙ ap (λ y. f a' b' x' z' v' y) d

register_is : (run : List Side) (w : Hosts) (g r : ℕ) → ((g : ℕ) → Stands (side_at run g) (w g)) → (w g).registers r ≡ slice_index (side_at run g).registers r
register_is run w g r all = ap (λ (f : ℕ → ℕ). f r) (sym (all g).registers)

never : {A : Type 0} → false ≡ true → A
never e = absurd cc

module _ (h : HostId) (t : Tape) (n : ℕ → Source → ℕ) (start : List Side) (apart : (side_at start h.0).peer.0 ≢ h.0) (d : Walker) (r : Both) (is : Follows h t n start d r) where
  known_first : Known false t d.first r.first
  known_first = is.first.known (λ e. never e)

  peer_apart : (side_at d.second h.0).peer.0 ≢ h.0
  peer_apart e = apart (ap (λ (l : Lists). l.peer.0) (sym is.mine) ∙ e)

  -- an item of the host that looks
  mine_item : (q : Source) (i : ℕ) → NotWith h.0 q → r.deal h.0 q i ≡ supplies (lists_of (side_at d.second h.0)) q i
  mine_item q i ne = is.looker q i ne ∙ ap (λ (l : Lists). supplies l q i) (sym is.mine)

  -- the host whose list is changed is not the one that looks
  other_host : (k : ℕ) → (side_at d.second k).peer.0 ≡ h.0 → k ≢ h.0
  other_host k e same = peer_apart (ap (λ y. (side_at d.second y).peer.0) (sym same) ∙ e)

  not_peer : (k : ℕ) → k ≡ h.0 → nat_eq h.0 (side_at d.second k).peer.0 ≡ false
  not_peer k same = ne_eqb h.0 (side_at d.second k).peer.0 (λ e. other_host k (sym e) same)

  pub triple_item : (o : Operands) → let k : ℕ = o.host.0 in let i : ℕ = ((r.second k).cursors (Triples h.0)) in Known true r.deal d.second r.second → (side_at d.second k).peer.0 ≡ h.0 → (side_at d.second k).taken.triples ≡ i
      → sum_item (t k (Triples h.0) ((r.first k).cursors (Triples h.0))) (r.deal h.0 (Triples k) i) ((r.first k).registers o.x.0) ((r.second k).registers o.x.0) ((r.first k).registers o.y.0) ((r.second k).registers o.y.0)
      ≡ sum_item (triple_words (next_triple (side_at d.first k) h)) (triple_words (shared_triple (side_at d.second h.0) o.host (side_at d.second k).taken.triples)) (word_at d.first o.host o.x) (word_at d.second o.host o.x) (word_at d.first o.host o.y) (word_at d.second o.host o.y)
  triple_item o known peer at =
      six_same sum_item _ _ _ _ _ _ _ _ _ _ _ _
      (known_first.holds o.host.0 (Triples h.0) _ (λ e. never e)
      ∙ ap triple_words (sym (shared_is h.0 (side_at d.first o.host.0).peer.0 (side_at d.first o.host.0).triples zero_triple (side_at d.first o.host.0).taken.triples (λ q. (r.first o.host.0).cursors (Triples q)) (known_first.stands o.host.0).taken.triples)))
      (mine_item (Triples o.host.0) _ (other_host o.host.0 peer) ∙ ap (λ y. triple_words (shared_triple (side_at d.second h.0) o.host y)) (sym at))
      (register_is d.first r.first o.host.0 o.x.0 known_first.stands) (register_is d.second r.second o.host.0 o.x.0 known.stands)
      (register_is d.first r.first o.host.0 o.y.0 known_first.stands) (register_is d.second r.second o.host.0 o.y.0 known.stands)

  triples_dealt : (s : Side) (new : Triple) (q : Source) → dealt (lists_of (with_triple h new s)) q ≡ dealt (lists_of s) q
  triples_dealt s new Inputs = refl
  triples_dealt s new OwnWords = refl
  triples_dealt s new (Triples p) = ap (λ x. if nat_eq p s.peer.0 then x else 0) (length_if (nat_eq h.0 s.peer.0) s.triples s.taken.triples new)
  triples_dealt s new (BitTriples p) = refl
  triples_dealt s new (Pairs p) = refl

  pub triples_changed : (k : ℕ) (new : Triple) (item : List ℕ) → let i : ℕ = ((r.second k).cursors (Triples h.0)) in
      (Known true r.deal d.second r.second → (side_at d.second k).peer.0 ≡ h.0 → (side_at d.second k).taken.triples ≡ i → item ≡ triple_words new)
      → IsChanged h t n start d r k (with_triple h new (side_at d.second k)) (Triples h.0) i item
  triples_changed k new item is_item = record {
    registers = refl;
    dealt_same = λ q. triples_dealt (side_at d.second k) new q;
    counts = λ c at. record { inputs = at.inputs; own = at.own; triples = at.triples ∙ ap (placed (c (Triples (side_at d.second k).peer.0))) (sym (length_if (nat_eq h.0 (side_at d.second k).peer.0) (side_at d.second k).triples (side_at d.second k).taken.triples new)); bits = at.bits; pairs = at.pairs };
    keeps = record { peer = refl; inputs = refl; own = refl };
    mine = λ e. ap (λ (b : Bool). lists_of (record (side_at d.second k) { triples = if b then slice_set (side_at d.second k).triples (side_at d.second k).taken.triples new else (side_at d.second k).triples })) (not_peer k e);
    items = λ known q j there. triples_items known q j there;
    with_h = triples_apart;
  }
    where
      triples_placed : Known true r.deal d.second r.second → (side_at d.second k).peer.0 ≡ h.0 → (side_at d.second k).taken.triples ≡ placed ((r.second k).cursors (Triples h.0)) (length (side_at d.second k).triples)
      triples_placed known e = (known.stands k).taken.triples ∙ ap (λ y. placed ((r.second k).cursors (Triples y)) (length (side_at d.second k).triples)) e

      triples_items : Known true r.deal d.second r.second → (q : Source) (j : ℕ) → IsIn (lists_of (with_triple h new (side_at d.second k))) q j → with_item r.deal k (Triples h.0) ((r.second k).cursors (Triples h.0)) item k q j ≡ supplies (lists_of (with_triple h new (side_at d.second k))) q j
      triples_items known Inputs j there = changed_source r.deal k (Triples h.0) ((r.second k).cursors (Triples h.0)) item k Inputs j refl ∙ known.holds k Inputs j (λ e. tt)
      triples_items known OwnWords j there = changed_source r.deal k (Triples h.0) ((r.second k).cursors (Triples h.0)) item k OwnWords j refl ∙ known.holds k OwnWords j (λ e. there)
      triples_items known (Triples p) j there = changed_items triple_words zero_triple new (side_at d.second k).triples r.deal k h.0 (side_at d.second k).peer.0 (λ x. Triples x) (λ x y. refl) ((r.second k).cursors (Triples h.0)) (side_at d.second k).taken.triples item (triples_placed known)
          (λ e low. is_item known e (let place = triples_placed known e in omega (arith, place, low))) (λ x y low. known.holds k (Triples x) y (λ z. low)) p j there
      triples_items known (BitTriples p) j there = changed_source r.deal k (Triples h.0) ((r.second k).cursors (Triples h.0)) item k (BitTriples p) j refl ∙ known.holds k (BitTriples p) j (λ e. there)
      triples_items known (Pairs p) j there = changed_source r.deal k (Triples h.0) ((r.second k).cursors (Triples h.0)) item k (Pairs p) j refl ∙ known.holds k (Pairs p) j (λ e. there)

      triples_apart : (q : Source) (j : ℕ) → NotWith h.0 q → with_item r.deal k (Triples h.0) ((r.second k).cursors (Triples h.0)) item k q j ≡ r.deal k q j
      triples_apart Inputs j ne = changed_source r.deal k (Triples h.0) ((r.second k).cursors (Triples h.0)) item k Inputs j refl
      triples_apart OwnWords j ne = changed_source r.deal k (Triples h.0) ((r.second k).cursors (Triples h.0)) item k OwnWords j refl
      triples_apart (Triples p) j ne = changed_source r.deal k (Triples h.0) ((r.second k).cursors (Triples h.0)) item k (Triples p) j (ne_eqb p h.0 ne)
      triples_apart (BitTriples p) j ne = changed_source r.deal k (Triples h.0) ((r.second k).cursors (Triples h.0)) item k (BitTriples p) j refl
      triples_apart (Pairs p) j ne = changed_source r.deal k (Triples h.0) ((r.second k).cursors (Triples h.0)) item k (Pairs p) j refl

  pub bits_item : (o : Operands) → let k : ℕ = o.host.0 in let i : ℕ = ((r.second k).cursors (BitTriples h.0)) in Known true r.deal d.second r.second → (side_at d.second k).peer.0 ≡ h.0 → (side_at d.second k).taken.bits ≡ i
      → xor_item (t k (BitTriples h.0) ((r.first k).cursors (BitTriples h.0))) (r.deal h.0 (BitTriples k) i) ((r.first k).registers o.x.0) ((r.second k).registers o.x.0) ((r.first k).registers o.y.0) ((r.second k).registers o.y.0)
      ≡ xor_item (triple_words (next_bits (side_at d.first k) h)) (triple_words (shared_bits (side_at d.second h.0) o.host (side_at d.second k).taken.bits)) (word_at d.first o.host o.x) (word_at d.second o.host o.x) (word_at d.first o.host o.y) (word_at d.second o.host o.y)
  bits_item o known peer at =
      six_same xor_item _ _ _ _ _ _ _ _ _ _ _ _
      (known_first.holds o.host.0 (BitTriples h.0) _ (λ e. never e)
      ∙ ap triple_words (sym (shared_is h.0 (side_at d.first o.host.0).peer.0 (side_at d.first o.host.0).bits zero_triple (side_at d.first o.host.0).taken.bits (λ q. (r.first o.host.0).cursors (BitTriples q)) (known_first.stands o.host.0).taken.bits)))
      (mine_item (BitTriples o.host.0) _ (other_host o.host.0 peer) ∙ ap (λ y. triple_words (shared_bits (side_at d.second h.0) o.host y)) (sym at))
      (register_is d.first r.first o.host.0 o.x.0 known_first.stands) (register_is d.second r.second o.host.0 o.x.0 known.stands)
      (register_is d.first r.first o.host.0 o.y.0 known_first.stands) (register_is d.second r.second o.host.0 o.y.0 known.stands)

  bits_dealt : (s : Side) (new : Triple) (q : Source) → dealt (lists_of (with_bits h new s)) q ≡ dealt (lists_of s) q
  bits_dealt s new Inputs = refl
  bits_dealt s new OwnWords = refl
  bits_dealt s new (Triples p) = refl
  bits_dealt s new (BitTriples p) = ap (λ x. if nat_eq p s.peer.0 then x else 0) (length_if (nat_eq h.0 s.peer.0) s.bits s.taken.bits new)
  bits_dealt s new (Pairs p) = refl

  pub bits_changed : (k : ℕ) (new : Triple) (item : List ℕ) → let i : ℕ = ((r.second k).cursors (BitTriples h.0)) in
      (Known true r.deal d.second r.second → (side_at d.second k).peer.0 ≡ h.0 → (side_at d.second k).taken.bits ≡ i → item ≡ triple_words new)
      → IsChanged h t n start d r k (with_bits h new (side_at d.second k)) (BitTriples h.0) i item
  bits_changed k new item is_item = record {
    registers = refl;
    dealt_same = λ q. bits_dealt (side_at d.second k) new q;
    counts = λ c at. record { inputs = at.inputs; own = at.own; triples = at.triples; bits = at.bits ∙ ap (placed (c (BitTriples (side_at d.second k).peer.0))) (sym (length_if (nat_eq h.0 (side_at d.second k).peer.0) (side_at d.second k).bits (side_at d.second k).taken.bits new)); pairs = at.pairs };
    keeps = record { peer = refl; inputs = refl; own = refl };
    mine = λ e. ap (λ (b : Bool). lists_of (record (side_at d.second k) { bits = if b then slice_set (side_at d.second k).bits (side_at d.second k).taken.bits new else (side_at d.second k).bits })) (not_peer k e);
    items = λ known q j there. bits_items known q j there;
    with_h = bits_apart;
  }
    where
      bits_placed : Known true r.deal d.second r.second → (side_at d.second k).peer.0 ≡ h.0 → (side_at d.second k).taken.bits ≡ placed ((r.second k).cursors (BitTriples h.0)) (length (side_at d.second k).bits)
      bits_placed known e = (known.stands k).taken.bits ∙ ap (λ y. placed ((r.second k).cursors (BitTriples y)) (length (side_at d.second k).bits)) e

      bits_items : Known true r.deal d.second r.second → (q : Source) (j : ℕ) → IsIn (lists_of (with_bits h new (side_at d.second k))) q j → with_item r.deal k (BitTriples h.0) ((r.second k).cursors (BitTriples h.0)) item k q j ≡ supplies (lists_of (with_bits h new (side_at d.second k))) q j
      bits_items known Inputs j there = changed_source r.deal k (BitTriples h.0) ((r.second k).cursors (BitTriples h.0)) item k Inputs j refl ∙ known.holds k Inputs j (λ e. tt)
      bits_items known OwnWords j there = changed_source r.deal k (BitTriples h.0) ((r.second k).cursors (BitTriples h.0)) item k OwnWords j refl ∙ known.holds k OwnWords j (λ e. there)
      bits_items known (Triples p) j there = changed_source r.deal k (BitTriples h.0) ((r.second k).cursors (BitTriples h.0)) item k (Triples p) j refl ∙ known.holds k (Triples p) j (λ e. there)
      bits_items known (BitTriples p) j there = changed_items triple_words zero_triple new (side_at d.second k).bits r.deal k h.0 (side_at d.second k).peer.0 (λ x. BitTriples x) (λ x y. refl) ((r.second k).cursors (BitTriples h.0)) (side_at d.second k).taken.bits item (bits_placed known)
          (λ e low. is_item known e (let place = bits_placed known e in omega (arith, place, low))) (λ x y low. known.holds k (BitTriples x) y (λ z. low)) p j there
      bits_items known (Pairs p) j there = changed_source r.deal k (BitTriples h.0) ((r.second k).cursors (BitTriples h.0)) item k (Pairs p) j refl ∙ known.holds k (Pairs p) j (λ e. there)

      bits_apart : (q : Source) (j : ℕ) → NotWith h.0 q → with_item r.deal k (BitTriples h.0) ((r.second k).cursors (BitTriples h.0)) item k q j ≡ r.deal k q j
      bits_apart Inputs j ne = changed_source r.deal k (BitTriples h.0) ((r.second k).cursors (BitTriples h.0)) item k Inputs j refl
      bits_apart OwnWords j ne = changed_source r.deal k (BitTriples h.0) ((r.second k).cursors (BitTriples h.0)) item k OwnWords j refl
      bits_apart (Triples p) j ne = changed_source r.deal k (BitTriples h.0) ((r.second k).cursors (BitTriples h.0)) item k (Triples p) j refl
      bits_apart (BitTriples p) j ne = changed_source r.deal k (BitTriples h.0) ((r.second k).cursors (BitTriples h.0)) item k (BitTriples p) j (ne_eqb p h.0 ne)
      bits_apart (Pairs p) j ne = changed_source r.deal k (BitTriples h.0) ((r.second k).cursors (BitTriples h.0)) item k (Pairs p) j refl

  -- the other part of a dealt word of the first run
  dealt_part : (p q : HostId) → nth (t p.0 (Pairs q.0) ((r.first p.0).cursors (Pairs q.0))) 1 ≡ (next_pair (side_at d.first p.0) q).x
  dealt_part p q =
      ap (λ (ws : List ℕ). nth ws 1) (known_first.holds p.0 (Pairs q.0) _ (λ e. never e)
      ∙ ap pair_words (sym (shared_is q.0 (side_at d.first p.0).peer.0 (side_at d.first p.0).pairs zero_pair (side_at d.first p.0).taken.pairs (λ x. (r.first p.0).cursors (Pairs x)) (known_first.stands p.0).taken.pairs)))

  word_is : (p q : Part) (run : List Side) (w : Hosts) → ((g : ℕ) → Stands (side_at run g) (w g)) → word_made p q w ≡ word_of p q run
  word_is p q run w all = ap₂ bit_xor (register_is run w p.host.0 p.word.0 all) (register_is run w q.host.0 q.word.0 all)

  three_same : (f : ℕ → ℕ → ℕ → ℕ) (a a' b b' c c' : ℕ) → a ≡ a' → b ≡ b' → c ≡ c' → f a b c ≡ f a' b' c'
  three_same f a a' b b' c c' x y z = ap (λ v. f v b c) x ∙ ap (λ v. f a' v c) y ∙ ap (λ v. f a' b' v) z

  pub pairs_item : (p q : Part) (host : HostId) → let k : ℕ = host.0 in let i : ℕ = ((r.second k).cursors (Pairs h.0)) in Known true r.deal d.second r.second → (side_at d.second k).peer.0 ≡ h.0 → (side_at d.second k).taken.pairs ≡ i
      → pair_item (raised (word_dealt p q t r.first) (word_made p q r.first) (word_made p q r.second)) (r.deal h.0 (Pairs k) i)
      ≡ pair_item (raised (dealt_word p q d.first) (word_of p q d.first) (word_of p q d.second)) (pair_words (shared_pair (side_at d.second h.0) host (side_at d.second k).taken.pairs))
  pairs_item p q host known peer at =
      ap₂ pair_item
      (three_same raised _ _ _ _ _ _ (ap₂ bit_xor (dealt_part p.host q.host) (dealt_part q.host p.host)) (word_is p q d.first r.first known_first.stands) (word_is p q d.second r.second known.stands))
      (mine_item (Pairs host.0) _ (other_host host.0 peer) ∙ ap (λ y. pair_words (shared_pair (side_at d.second h.0) host y)) (sym at))

  pairs_dealt : (s : Side) (new : PairItem) (q : Source) → dealt (lists_of (with_pair h new s)) q ≡ dealt (lists_of s) q
  pairs_dealt s new Inputs = refl
  pairs_dealt s new OwnWords = refl
  pairs_dealt s new (Triples p) = refl
  pairs_dealt s new (BitTriples p) = refl
  pairs_dealt s new (Pairs p) = ap (λ x. if nat_eq p s.peer.0 then x else 0) (length_if (nat_eq h.0 s.peer.0) s.pairs s.taken.pairs new)

  pub pairs_changed : (k : ℕ) (new : PairItem) (item : List ℕ) → let i : ℕ = ((r.second k).cursors (Pairs h.0)) in
      (Known true r.deal d.second r.second → (side_at d.second k).peer.0 ≡ h.0 → (side_at d.second k).taken.pairs ≡ i → item ≡ pair_words new)
      → IsChanged h t n start d r k (with_pair h new (side_at d.second k)) (Pairs h.0) i item
  pairs_changed k new item is_item = record {
    registers = refl;
    dealt_same = λ q. pairs_dealt (side_at d.second k) new q;
    counts = λ c at. record { inputs = at.inputs; own = at.own; triples = at.triples; bits = at.bits; pairs = at.pairs ∙ ap (placed (c (Pairs (side_at d.second k).peer.0))) (sym (length_if (nat_eq h.0 (side_at d.second k).peer.0) (side_at d.second k).pairs (side_at d.second k).taken.pairs new)) };
    keeps = record { peer = refl; inputs = refl; own = refl };
    mine = λ e. ap (λ (b : Bool). lists_of (record (side_at d.second k) { pairs = if b then slice_set (side_at d.second k).pairs (side_at d.second k).taken.pairs new else (side_at d.second k).pairs })) (not_peer k e);
    items = λ known q j there. pairs_items known q j there;
    with_h = pairs_apart;
  }
    where
      pairs_placed : Known true r.deal d.second r.second → (side_at d.second k).peer.0 ≡ h.0 → (side_at d.second k).taken.pairs ≡ placed ((r.second k).cursors (Pairs h.0)) (length (side_at d.second k).pairs)
      pairs_placed known e = (known.stands k).taken.pairs ∙ ap (λ y. placed ((r.second k).cursors (Pairs y)) (length (side_at d.second k).pairs)) e

      pairs_items : Known true r.deal d.second r.second → (q : Source) (j : ℕ) → IsIn (lists_of (with_pair h new (side_at d.second k))) q j → with_item r.deal k (Pairs h.0) ((r.second k).cursors (Pairs h.0)) item k q j ≡ supplies (lists_of (with_pair h new (side_at d.second k))) q j
      pairs_items known Inputs j there = changed_source r.deal k (Pairs h.0) ((r.second k).cursors (Pairs h.0)) item k Inputs j refl ∙ known.holds k Inputs j (λ e. tt)
      pairs_items known OwnWords j there = changed_source r.deal k (Pairs h.0) ((r.second k).cursors (Pairs h.0)) item k OwnWords j refl ∙ known.holds k OwnWords j (λ e. there)
      pairs_items known (Triples p) j there = changed_source r.deal k (Pairs h.0) ((r.second k).cursors (Pairs h.0)) item k (Triples p) j refl ∙ known.holds k (Triples p) j (λ e. there)
      pairs_items known (BitTriples p) j there = changed_source r.deal k (Pairs h.0) ((r.second k).cursors (Pairs h.0)) item k (BitTriples p) j refl ∙ known.holds k (BitTriples p) j (λ e. there)
      pairs_items known (Pairs p) j there = changed_items pair_words zero_pair new (side_at d.second k).pairs r.deal k h.0 (side_at d.second k).peer.0 (λ x. Pairs x) (λ x y. refl) ((r.second k).cursors (Pairs h.0)) (side_at d.second k).taken.pairs item (pairs_placed known)
          (λ e low. is_item known e (let place = pairs_placed known e in omega (arith, place, low))) (λ x y low. known.holds k (Pairs x) y (λ z. low)) p j there

      pairs_apart : (q : Source) (j : ℕ) → NotWith h.0 q → with_item r.deal k (Pairs h.0) ((r.second k).cursors (Pairs h.0)) item k q j ≡ r.deal k q j
      pairs_apart Inputs j ne = changed_source r.deal k (Pairs h.0) ((r.second k).cursors (Pairs h.0)) item k Inputs j refl
      pairs_apart OwnWords j ne = changed_source r.deal k (Pairs h.0) ((r.second k).cursors (Pairs h.0)) item k OwnWords j refl
      pairs_apart (Triples p) j ne = changed_source r.deal k (Pairs h.0) ((r.second k).cursors (Pairs h.0)) item k (Triples p) j refl
      pairs_apart (BitTriples p) j ne = changed_source r.deal k (Pairs h.0) ((r.second k).cursors (Pairs h.0)) item k (BitTriples p) j refl
      pairs_apart (Pairs p) j ne = changed_source r.deal k (Pairs h.0) ((r.second k).cursors (Pairs h.0)) item k (Pairs p) j (ne_eqb p h.0 ne)

pub pair_made : (dealt : ℕ) (ys : List ℕ) → pair_words (pair_of (pair_item dealt ys)) ≡ pair_item dealt ys
unfolding pair_item
pair_made dealt ys = refl
